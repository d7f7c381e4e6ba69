-- Pro-rata: each order its share of what trades, rounded down, and the remainder FIFO over what each still has.
use Rattle.std.specs.Prelude.{ℕ, ◌+◌, ◌-◌, ◌*◌, ◌/◌, min, List, map, sum}
use mathlib.Core.List.{zip_with}
use Rattle.allocation.specs.Fifo.{fifo}

-- what trades: the quantity, or all the lots where there are fewer
abbrev pub traded : ℕ → List ℕ → ℕ
traded quantity lots = min quantity (sum lots)

-- the part of `trades` that falls to an order of `lots` among `total`, rounded down
abbrev pub share : ℕ → ℕ → ℕ → ℕ
share trades total lots = trades * lots / total

abbrev pub shares : ℕ → List ℕ → List ℕ
shares quantity lots = map (share (traded quantity lots) (sum lots)) lots

abbrev pub remainder : ℕ → List ℕ → ℕ
remainder quantity lots = traded quantity lots - sum (shares quantity lots)

-- `given` to each already, and `more` FIFO over what each still has
unfoldable pub topped_up : ℕ → List ℕ → List ℕ → List ℕ
topped_up more given lots = zip_with ◌+◌ given (fifo more (zip_with ◌-◌ lots given))

unfoldable pub pro_rata : ℕ → List ℕ → List ℕ
pro_rata quantity lots = topped_up (remainder quantity lots) (shares quantity lots) lots
