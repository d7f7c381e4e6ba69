-- Prices: which is better, what a limit allows, and the queue at one.
use Rattle.std.specs.Prelude.{ℕ, ◌<◌, ◌≤◌, cond, List, [], ◌∷◌, ◌==◌}
use Rattle.fix.specs.declared.command.Side.{Side}
use Rattle.fix.specs.declared.command.Side.TheVariants.{Buy, Sell}
use Rattle.market.specs.declared.resting.Resting.{Resting}
use Rattle.market.specs.Market.{Level}

-- price p is better than q on a side
abbrev pub Better : Side → ℕ → ℕ → Type 0
Better Buy p q = q < p
Better Sell p q = p < q

-- a price that a limit allows: at most what a buyer pays, at least what a seller takes
abbrev pub Allows : Side → ℕ → ℕ → Type 0
Allows Buy limit price = price ≤ limit
Allows Sell limit price = limit ≤ price

-- where nothing rests, the queue is empty
abbrev pub queue_at : ℕ → List Level → List Resting
queue_at price [] = []
queue_at price (l ∷ ls) = cond (l.price == price) l.queue (queue_at price ls)
