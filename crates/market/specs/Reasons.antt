-- When a command is turned down, and what it does otherwise. Of the cases of an order, as of those of a cancel, exactly one holds, and their outcomes
-- differ: so each outcome comes in its case only.
use Rattle.std.specs.Prelude.{◌≡◌, ℕ, ◌<◌, not, List, [], ◌∷◌, filter}
use Rattle.std.specs.List.{AllByRecursion}
use Rattle.fix.specs.declared.command.Side.{Side}
use Rattle.fix.specs.Command.{NewOrder, Cancel, Command, new, cancel}
use Rattle.market.specs.declared.entry.Reason.{Reason}
use Rattle.market.specs.declared.entry.Reason.TheVariants.{BookFull, UnknownOrder, DuplicateOrder}
use Rattle.market.specs.declared.entry.Event.TheVariants.{Accepted, Cancelled, OrderTurnedDown, CancelTurnedDown}
use Rattle.market.specs.declared.entry.Entry.{Entry}
use Rattle.market.specs.Market.{Market, empty, other, levels, is_of, all_resting}
use Rattle.market.specs.Put.{Outcome, entry, put, after}
use Rattle.market.specs.Tally.{by_order, lots_at, times_at, times}
use Rattle.market.specs.Prices.{Allows, queue_at}

abbrev pub Rests : ℕ → ℕ → Market → Type 0
Rests member order m = 0 < times member order m

-- no level of the other side has a price that the order allows
abbrev pub NoneCrosses : NewOrder → Market → Type 0
NoneCrosses o m = AllByRecursion (λ l. Allows o.side o.price l.price → ⊥) (levels (other o.side) m)

-- the market is as it was, and one entry has the reason
abbrev pub TurnedDown : NewOrder → Reason → Market → Outcome → Type 0
TurnedDown o reason m out = out ≡ record { market = m; entries = entry o.number o.member o.order (OrderTurnedDown o.side reason) ∷ [] }

-- how entries begin
abbrev pub FirstIs : Entry → List Entry → Type 0
FirstIs e [] = ⊥
FirstIs e (first ∷ rest) = first ≡ e

pub record OrderAnswer (o : NewOrder) (m : Market) (out : Outcome) : Type 0 where
  pub duplicate : Rests o.member o.order m → TurnedDown o DuplicateOrder m out
  pub full : (Rests o.member o.order m → ⊥) → all_resting m ≡ 1024 → NoneCrosses o m → TurnedDown o BookFull m out
  pub otherwise : (Rests o.member o.order m → ⊥) → ((all_resting m ≡ 1024) × NoneCrosses o m → ⊥)
      → FirstIs (entry o.number o.member o.order (Accepted o.side o.lots)) out.entries

-- one entry has all its lots, and each queue keeps its orders but this one
pub record Cancels (c : Cancel) (side : Side) (m : Market) (out : Outcome) : Type 0 where
  pub told : out.entries ≡ entry c.number c.member c.order (Cancelled side (lots_at (by_order c.member c.order) (levels side m))) ∷ []
  pub removed : (s : Side) (price : ℕ) → queue_at price (levels s out.market) ≡ filter (λ r. not (is_of c.member c.order r)) (queue_at price (levels s m))

pub record CancelAnswer (c : Cancel) (m : Market) (out : Outcome) : Type 0 where
  pub found : (side : Side) → 0 < times_at c.member c.order (levels side m) → Cancels c side m out
  pub unknown : (Rests c.member c.order m → ⊥) → out ≡ record { market = m; entries = entry c.number c.member c.order (CancelTurnedDown UnknownOrder) ∷ [] }

abbrev pub Answers : Command → Market → Outcome → Type 0
Answers (new o) m out = OrderAnswer o m out
Answers (cancel c) m out = CancelAnswer c m out

-- after every row of commands
abbrev pub AlwaysForAReason : (ℕ → List ℕ → List ℕ) → Type 0
AlwaysForAReason split = (cs : List Command) (c : Command) → Answers c (after split cs empty) (put split c (after split cs empty))
