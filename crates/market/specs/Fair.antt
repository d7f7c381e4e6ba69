-- The prices of trades.
use Rattle.std.specs.Prelude.{◌≡◌, ℕ, ◌⊎◌, List, [], ◌∷◌}
use Rattle.std.specs.List.{AllByRecursion}
use Rattle.fix.specs.declared.command.Side.{Side}
use Rattle.fix.specs.Command.{NewOrder, Command, new, cancel}
use Rattle.market.specs.declared.entry.Event.{Event}
use Rattle.market.specs.declared.entry.Event.TheVariants.{Accepted, Filled, Cancelled, OrderTurnedDown, CancelTurnedDown}
use Rattle.market.specs.declared.entry.Entry.{Entry}
use Rattle.market.specs.Market.{Market, empty, other, levels}
use Rattle.market.specs.Put.{Outcome, put, after}
use Rattle.market.specs.Prices.{Better, Allows}

-- an order that a row of commands entered
abbrev pub Entered : NewOrder → List Command → Type 0
Entered o [] = ⊥
Entered o (new p ∷ cs) = (o ≡ p) ⊎ Entered o cs
Entered o (cancel c ∷ cs) = Entered o cs

-- a member's order of that number was entered on that side with that limit
abbrev pub Placed : List Command → Side → ℕ → ℕ → ℕ → Type 0
Placed cs side member order limit =
    (number : ℕ) × (lots : ℕ) × Entered (record { member = member; number = number; order = order; side = side; lots = lots; price = limit }) cs

-- the price of a fill
abbrev pub price_of : Event → ℕ
price_of (Accepted side lots) = 0
price_of (Filled side lots price leaves) = price
price_of (Cancelled side lots) = 0
price_of (OrderTurnedDown side reason) = 0
price_of (CancelTurnedDown reason) = 0

-- a trade of order o with an order whose entry is `theirs`, in a command that comes behind the row cs and makes the market `after`
pub record FairTrade (cs : List Command) (o : NewOrder) (after : Market) (theirs : Entry) : Type 0 where
  pub allowed : Allows o.side o.price (price_of theirs.event)
  -- the resting order trades at the limit that it was entered with
  pub own_limit : Placed cs (other o.side) theirs.member theirs.order (price_of theirs.event)
  -- no order at a better price is left
  pub best_first : AllByRecursion (λ l. Better (other o.side) l.price (price_of theirs.event) → ⊥) (levels (other o.side) after)

-- the trades behind the answer, by the first entry of each
abbrev pub EachTrade : (Entry → Type 0) → List Entry → Type 0
EachTrade P [] = Unit {0}
EachTrade P (theirs ∷ []) = ⊥
EachTrade P (theirs ∷ (ours ∷ es)) = P theirs × EachTrade P es

abbrev pub behind : List Entry → List Entry
behind [] = []
behind (e ∷ es) = es

abbrev pub Fair : List Command → Command → Outcome → Type 0
Fair cs (new o) out = EachTrade (FairTrade cs o out.market) (behind out.entries)
Fair cs (cancel c) out = Unit {0}

-- after every row of commands
abbrev pub AlwaysFair : (ℕ → List ℕ → List ℕ) → Type 0
AlwaysFair split = (cs : List Command) (c : Command) → Fair cs c (put split c (after split cs empty))
