-- What a split of a quantity over the lots of a queue is held to.
use Rattle.std.specs.Prelude.{◌≡◌, ℕ, ◌≤◌, min, List}
use Rattle.std.specs.List.{AllZip}
use Rattle.market.specs.Market.{total}

pub record Splits (split : ℕ → List ℕ → List ℕ) : Type 0 where
  -- a fill for each order, and none above its lots
  pub within : (quantity : ℕ) (lots : List ℕ) → AllZip ◌≤◌ (split quantity lots) lots
  -- the fills come to the quantity, or to all the lots where there are fewer
  pub full : (quantity : ℕ) (lots : List ℕ) → total (split quantity lots) ≡ min quantity (total lots)
