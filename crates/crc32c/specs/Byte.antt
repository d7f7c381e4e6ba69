use Rattle.std.specs.Prelude.{ℕ, ◌<◌, List, slice_index}

-- each element is a byte
abbrev pub Bytes : List ℕ → Type 0
Bytes bs = (k : ℕ) → slice_index bs k < 256
