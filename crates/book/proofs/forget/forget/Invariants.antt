use Rattle.std.proofs.Common.{◌≡◌, drop}
use Rattle.ordered.specs.Kept.{Sound}
use Rattle.ordered.specs.Order.{by_order_id}
use Rattle.book.specs.Place.{forgotten}
use Rattle.book.proofs.forget.forget.Given as goal

-- what the entries that are left take out is what all of them take out
abbrev pub invariant-loop-entry : goal.invariant-loop-entry
invariant-loop-entry l =
    (forgotten l.side (drop l.entry-index l.entries) l.places.nodes ≡ forgotten l.side l.entries l.initial.places.nodes)
    × (l.places.capacity ≡ l.initial.places.capacity)
    × Sound by_order_id l.places
