-- Bytes as people type them: | (124) stands for the byte 1.
use Rattle.std.specs.Prelude.{ℕ, cond, ◌==◌}

abbrev pub unshown : ℕ → ℕ
unshown b = cond (b == 124) 1 b
