-- The levels of a side as the program holds them: a row of nodes in the order of their ranks.
use Rattle.std.specs.Prelude.{◌≡◌, ℕ, ◌+◌, ◌≤◌, Bool, true, ◌&&◌, List, [], ◌∷◌, map, length, nat_lt}
use Rattle.ordered.specs.Kept.{Kept, Sound}
use Rattle.ordered.specs.Order.{by_price}
use Rattle.ordered.specs.declared.node.Node.{Node}
use Rattle.ordered.specs.declared.key.price.Price.{Price}
use Rattle.level.specs.declared.level.Level.{Level as Held}
use Rattle.level.specs.Queue.{queue_of}
use Rattle.market.specs.Market.{Level, resting}
use Rattle.side.specs.Rank.{in_range}

-- a node as a level whose price is its rank
abbrev pub seen_as : Node Price Held → Level
seen_as n = record { price = n.key.0; queue = queue_of n.value }

abbrev pub seen : List (Node Price Held) → List Level
seen ns = map seen_as ns

-- the rank of each is in range, and something rests there
abbrev pub stands : Level → Bool
stands l = in_range l.price && nat_lt 0 (length l.queue)

abbrev pub standing : List Level → Bool
standing [] = true
standing (l ∷ ls) = stands l && standing ls

-- the map of levels, the spare ones with the memory for them, and the count of orders go together
pub record InStep (held : Kept Price Held) (spares memory orders : ℕ) : Type 0 where
  pub sound : Sound by_price held
  pub capacity : held.capacity ≡ 1024
  pub stand : standing (seen held.nodes) ≡ true
  pub together : spares + length held.nodes ≡ 1024
  pub reserved : 1024 ≤ memory
  pub counted : orders ≡ resting (seen held.nodes)
  pub few : orders ≤ 1024
