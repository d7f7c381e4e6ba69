-- The entries tell what rests.
use Rattle.std.specs.Prelude.{◌≡◌, ℕ, ◌+◌, cond, List, [], ◌∷◌}
use Rattle.fix.specs.Command.{Command}
use Rattle.market.specs.declared.entry.Event.{Event}
use Rattle.market.specs.declared.entry.Event.TheVariants.{Accepted, Filled, Cancelled, OrderTurnedDown, CancelTurnedDown}
use Rattle.market.specs.declared.entry.Entry.{Entry}
use Rattle.market.specs.Market.{Market, empty}
use Rattle.market.specs.Put.{after, entries_of}
use Rattle.market.specs.Tally.{by_order, lots_at}

-- the lots of an order that rest after an event of it, where `before` rested
abbrev pub left_by : ℕ → Event → ℕ
left_by before (Accepted side lots) = lots
left_by before (Filled side lots price leaves) = leaves
left_by before (Cancelled side lots) = 0
left_by before (OrderTurnedDown side reason) = before
left_by before (CancelTurnedDown reason) = before

-- and after a row of entries, of which those of other orders do not count
abbrev pub told : ℕ → ℕ → ℕ → List Entry → ℕ
told member order before [] = before
told member order before (e ∷ es) = told member order (cond (by_order member order e.member e.order) (left_by before e.event) before) es

abbrev pub lots_resting : ℕ → ℕ → Market → ℕ
lots_resting member order m = lots_at (by_order member order) m.buys + lots_at (by_order member order) m.sells

-- after every row of commands
abbrev pub AlwaysTold : (ℕ → List ℕ → List ℕ) → Type 0
AlwaysTold split = (cs : List Command) (member order : ℕ) → told member order 0 (entries_of split cs empty) ≡ lots_resting member order (after split cs empty)
