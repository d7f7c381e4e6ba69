-- Memory as blocks of 512 bytes, numbered from 0.
use Rattle.std.specs.Prelude.{ℕ, zero, suc, ◌*◌, ◌/◌, List, [], ◌++◌, length, take, drop}

abbrev pub block_size : ℕ
block_size = 512

-- how many whole blocks a number of bytes has; what is left over is no block
abbrev pub whole : ℕ → ℕ
whole size = size / block_size

abbrev pub block : List ℕ → ℕ → List ℕ
block memory b = take block_size (drop (b * block_size) memory)

-- a memory with other bytes in block b
abbrev pub put : List ℕ → ℕ → List ℕ → List ℕ
put memory b bytes = take (b * block_size) memory ++ (bytes ++ drop block_size (drop (b * block_size) memory))

-- the bytes past the last whole block
abbrev pub spare : List ℕ → List ℕ
spare memory = drop (whole (length memory) * block_size) memory

-- the first n of a row of blocks, one after the other
abbrev pub joined : (ℕ → List ℕ) → ℕ → List ℕ
joined shown zero = []
joined shown (suc n) = joined shown n ++ shown n
