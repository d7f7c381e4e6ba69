-- A market: what rests on both sides, and how one looks at it.
use Rattle.std.specs.Prelude.{ℕ, ◌+◌, Bool, false, cond, ◌&&◌, ◌||◌, List, [], ◌∷◌, length, is_some, Some, None, Option, ◌==◌, nat_le, nat_lt}
use Rattle.fix.specs.declared.command.Side.{Side}
use Rattle.fix.specs.declared.command.Side.TheVariants.{Buy, Sell}
use Rattle.market.specs.declared.resting.Resting.{Resting}

-- a price with the orders that rest at it, oldest first
pub record Level : Type 0 where
  pub price : ℕ
  pub queue : List Resting

-- the levels of both sides, best first: the highest buy, the lowest sell
pub record Market : Type 0 where
  pub buys : List Level
  pub sells : List Level

abbrev pub empty : Market
empty = record { buys = []; sells = [] }

abbrev pub other : Side → Side
other Buy = Sell
other Sell = Buy

abbrev pub levels : Side → Market → List Level
levels Buy m = m.buys
levels Sell m = m.sells

abbrev pub with_levels : Side → List Level → Market → Market
with_levels Buy ls m = record { buys = ls; sells = m.sells }
with_levels Sell ls m = record { buys = m.buys; sells = ls }

-- the price of the best level, or none where nothing rests
abbrev pub best : List Level → Option ℕ
best [] = None
best (l ∷ ls) = Some l.price

-- whether price p is better than q on a side
abbrev pub better : Side → ℕ → ℕ → Bool
better Buy p q = nat_lt q p
better Sell p q = nat_lt p q

-- whether an order of this side and limit trades at a price
abbrev pub crosses : Side → ℕ → ℕ → Bool
crosses Buy limit price = nat_le price limit
crosses Sell limit price = nat_le limit price

-- whether some level crosses: the best one tells
abbrev pub best_crosses : Side → ℕ → List Level → Bool
best_crosses side limit [] = false
best_crosses side limit (l ∷ ls) = crosses side limit l.price

abbrev pub is_of : ℕ → ℕ → Resting → Bool
is_of member order r = r.member == member && r.order == order

-- the order of that member and number in a queue, and in levels
abbrev pub in_queue : ℕ → ℕ → List Resting → Option Resting
in_queue member order [] = None
in_queue member order (r ∷ rs) = cond (is_of member order r) (Some r) (in_queue member order rs)

abbrev pub or_else : {A : Type 0} → Option A → Option A → Option A
or_else (Some x) o = Some x
or_else None o = o

abbrev pub in_levels : ℕ → ℕ → List Level → Option Resting
in_levels member order [] = None
in_levels member order (l ∷ ls) = or_else (in_queue member order l.queue) (in_levels member order ls)

-- whether that member's order number rests, on either side
abbrev pub known : ℕ → ℕ → Market → Bool
known member order m = is_some (in_levels member order m.buys) || is_some (in_levels member order m.sells)

-- how many orders rest
abbrev pub resting : List Level → ℕ
resting [] = 0
resting (l ∷ ls) = length l.queue + resting ls

abbrev pub all_resting : Market → ℕ
all_resting m = resting m.buys + resting m.sells

-- the most orders that rest at a time
abbrev pub capacity : ℕ
capacity = 1024

abbrev pub lots_of : List Resting → List ℕ
lots_of [] = []
lots_of (r ∷ rs) = r.lots ∷ lots_of rs

abbrev pub total : List ℕ → ℕ
total [] = 0
total (x ∷ xs) = x + total xs
