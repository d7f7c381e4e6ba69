-- First in, first out: each order in turn, the oldest first, is filled as far as the quantity goes.
use Rattle.std.specs.Prelude.{ℕ, ◌-◌, min, List, [], ◌∷◌}

unfoldable pub fifo : ℕ → List ℕ → List ℕ
fifo quantity [] = []
fifo quantity (lots ∷ younger) = min quantity lots ∷ fifo (quantity - lots) younger
