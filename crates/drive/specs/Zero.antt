-- Zeros to every block of a drive, as acts.
use Rattle.std.specs.Prelude.{ℕ, zero, suc, List, [], ◌∷◌, ◌++◌, replicate}
use Rattle.drive.specs.Act.{Act, write, flush}
use Rattle.drive.specs.Block.{block_size}

-- a block of zeros
unfoldable pub zeros : List ℕ
zeros = replicate block_size 0

-- zeros to each block below n, from the first on
unfoldable pub zeroing : ℕ → List Act
zeroing zero = []
zeroing (suc n) = zeroing n ++ (write n zeros ∷ [])

-- and then a flush
unfoldable pub zeroing_all : ℕ → List Act
zeroing_all n = zeroing n ++ (flush ∷ [])
