-- Where orders rest, as the levels have it and as the map of places has it.
use Rattle.std.specs.Prelude.{ℕ, ◌+◌, Bool, false, cond, ◌&&◌, List, [], ◌∷◌, Some, None, Option, ◌==◌}
use Rattle.fix.specs.declared.command.Side.{Side}
use Rattle.ordered.specs.Order.{by_order_id}
use Rattle.ordered.specs.Row.{lookup, without}
use Rattle.ordered.specs.declared.key.order_id.OrderId.{OrderId}
use Rattle.ordered.specs.declared.node.Node.{Node}
use Rattle.market.specs.declared.entry.Entry.{Entry}
use Rattle.market.specs.declared.entry.Event.{Event}
use Rattle.market.specs.declared.entry.Event.TheVariants.{Accepted, Filled, Cancelled, OrderTurnedDown, CancelTurnedDown}
use Rattle.market.specs.declared.resting.Resting.{Resting}
use Rattle.market.specs.Market.{Level, is_of}
use Rattle.market.specs.Tally.{same_side}
use Rattle.book.specs.declared.place.Place.{Place}

-- how often an order stands in a queue, and at a price of some levels
abbrev pub occurs : OrderId → List Resting → ℕ
occurs k [] = 0
occurs k (r ∷ rs) = cond (is_of k.member k.order r) 1 0 + occurs k rs

abbrev pub held : OrderId → ℕ → List Level → ℕ
held k price [] = 0
held k price (l ∷ ls) = cond (l.price == price) (occurs k l.queue) 0 + held k price ls

-- the place of an order
abbrev pub place_of : List (Node OrderId Place) → OrderId → Option Place
place_of ns k = lookup by_order_id ns k

-- how often an order with that place stands at a price of a side: once or not at all
abbrev pub told : Option Place → Side → ℕ → ℕ
told None side price = 0
told (Some place) side price = cond (same_side place.side side && place.price == price) 1 0

-- an order of this side was filled whole
abbrev pub is_gone : Side → Event → Bool
is_gone side (Accepted of lots) = false
is_gone side (Filled of lots price leaves) = same_side of side && leaves == 0
is_gone side (Cancelled of lots) = false
is_gone side (OrderTurnedDown of reason) = false
is_gone side (CancelTurnedDown reason) = false

abbrev pub id_of : Entry → OrderId
id_of e = record { order = e.order; member = e.member }

-- places without the orders that the entries tell to be gone
abbrev pub forgotten : Side → List Entry → List (Node OrderId Place) → List (Node OrderId Place)
forgotten side [] ns = ns
forgotten side (e ∷ es) ns = forgotten side es (cond (is_gone side e.event) (without by_order_id ns (id_of e)) ns)
