-- The worked examples of the two splits.
use Rattle.std.specs.Prelude.{◌≡◌, [], ◌∷◌}
use Rattle.allocation.specs.Fifo.{fifo}
use Rattle.allocation.specs.ProRata.{pro_rata}

pub record WorkedExamples : Type 0 where
  pub fifo_10 : fifo 10 (5 ∷ 10 ∷ 15 ∷ []) ≡ 5 ∷ 5 ∷ 0 ∷ []
  pub pro_rata_10 : pro_rata 10 (5 ∷ 10 ∷ 15 ∷ []) ≡ 2 ∷ 3 ∷ 5 ∷ []
  pub fifo_7 : fifo 7 (4 ∷ 9 ∷ []) ≡ 4 ∷ 3 ∷ []
  pub pro_rata_7 : pro_rata 7 (4 ∷ 9 ∷ []) ≡ 3 ∷ 4 ∷ []
  pub fifo_3 : fifo 3 (1 ∷ 1 ∷ 1 ∷ 1 ∷ []) ≡ 1 ∷ 1 ∷ 1 ∷ 0 ∷ []
  pub pro_rata_3 : pro_rata 3 (1 ∷ 1 ∷ 1 ∷ 1 ∷ []) ≡ 1 ∷ 1 ∷ 1 ∷ 0 ∷ []
  pub fifo_5 : fifo 5 (3 ∷ 3 ∷ 3 ∷ []) ≡ 3 ∷ 2 ∷ 0 ∷ []
  pub pro_rata_5 : pro_rata 5 (3 ∷ 3 ∷ 3 ∷ []) ≡ 3 ∷ 1 ∷ 1 ∷ []
