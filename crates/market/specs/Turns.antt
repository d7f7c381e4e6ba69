-- The queue at each price: nobody overtakes, a newcomer stands last, and the policy decides who trades.
use Rattle.std.specs.Prelude.{◌≡◌, ℕ, ◌+◌, ◌-◌, ◌≤◌, cond, ◌&&◌, ◌⊎◌, List, [], ◌∷◌, ◌++◌, ◌==◌, nat_lt}
use Rattle.fix.specs.declared.command.Side.{Side}
use Rattle.fix.specs.Command.{NewOrder, Command, new, cancel}
use Rattle.market.specs.declared.resting.Resting.{Resting}
use Rattle.market.specs.declared.entry.Event.TheVariants.{Accepted}
use Rattle.market.specs.Market.{Level, Market, empty, other, levels, better, crosses, lots_of, total}
use Rattle.market.specs.Put.{Outcome, entry, after_fills, put, after}
use Rattle.market.specs.Tally.{same_side}
use Rattle.market.specs.Prices.{queue_at}
use Rattle.market.specs.Reasons.{FirstIs}

-- a queue of which some have left and some have fewer lots, and none has overtaken another
abbrev pub InTurn : List Resting → List Resting → Type 0
InTurn [] [] = Unit {0}
InTurn [] (x ∷ xs) = ⊥
InTurn (r ∷ rs) [] = Unit {0}
InTurn (r ∷ rs) (x ∷ xs) = ((x.member ≡ r.member) × (x.order ≡ r.order) × (x.lots ≤ r.lots) × InTurn rs xs) ⊎ InTurn rs (x ∷ xs)

-- the order that a command may add at a price of a side
abbrev pub newcomer : Command → Side → ℕ → List Resting
newcomer (new o) side price = cond (same_side side o.side && o.price == price) (record { member = o.member; order = o.order; lots = o.lots } ∷ []) []
newcomer (cancel c) side price = []

-- the lots that rest at prices better than this one
abbrev pub ahead : Side → ℕ → List Level → ℕ
ahead side price [] = 0
ahead side price (l ∷ ls) = cond (better side l.price price) (total (lots_of l.queue)) 0 + ahead side price ls

-- the queue at a price after an incoming order of so many lots: where its limit allows the price and the better prices leave something of it,
-- each order has what the policy's split of that leaves of it; otherwise the queue is as it was
abbrev pub shared : (ℕ → List ℕ → List ℕ) → NewOrder → ℕ → ℕ → List Level → List Resting
shared split o lots price ls =
    cond (crosses o.side o.price price && nat_lt (ahead (other o.side) price ls) lots)
    (after_fills (split (lots - ahead (other o.side) price ls) (lots_of (queue_at price ls))) (queue_at price ls))
    (queue_at price ls)

abbrev pub ByPolicy : (ℕ → List ℕ → List ℕ) → Command → Market → Outcome → Type 0
ByPolicy split (new o) before out =
    FirstIs (entry o.number o.member o.order (Accepted o.side o.lots)) out.entries
    → (price : ℕ) → queue_at price (levels (other o.side) out.market) ≡ shared split o o.lots price (levels (other o.side) before)
ByPolicy split (cancel c) before out = Unit {0}

pub record Turns (split : ℕ → List ℕ → List ℕ) (c : Command) (before : Market) (out : Outcome) : Type 0 where
  pub in_turn : (side : Side) (price : ℕ) → InTurn (queue_at price (levels side before) ++ newcomer c side price) (queue_at price (levels side out.market))
  pub by_policy : ByPolicy split c before out

-- after every row of commands
abbrev pub AlwaysInTurn : (ℕ → List ℕ → List ℕ) → Type 0
AlwaysInTurn split = (cs : List Command) (c : Command) → Turns split c (after split cs empty) (put split c (after split cs empty))
