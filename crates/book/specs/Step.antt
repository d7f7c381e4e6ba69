-- What a change on one side keeps of the places.
use Rattle.std.specs.Prelude.{◌≡◌, ℕ, ◌+◌, List, length}
use Rattle.fix.specs.declared.command.Side.{Side}
use Rattle.ordered.specs.declared.key.order_id.OrderId.{OrderId}
use Rattle.ordered.specs.declared.node.Node.{Node}
use Rattle.market.specs.Market.{Level, resting, other}
use Rattle.book.specs.declared.place.Place.{Place}
use Rattle.book.specs.Place.{held, place_of, told}

-- the levels of a side hold just the orders whose places are there
abbrev pub Placed : Side → List Level → List (Node OrderId Place) → Type 0
Placed side ls ns = (k : OrderId) (price : ℕ) → held k price ls ≡ told (place_of ns k) side price

-- levels and places of a side change together, and places on the other side stay
pub record Together (side : Side) (ls ls' : List Level) (ns ns' : List (Node OrderId Place)) : Type 0 where
  pub placed : Placed side ls' ns'
  pub others : (k : OrderId) (price : ℕ) → told (place_of ns' k) (other side) price ≡ told (place_of ns k) (other side) price
  pub count : length ns' + resting ls ≡ length ns + resting ls'
