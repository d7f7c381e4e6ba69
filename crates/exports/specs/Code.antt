-- Answers as single numbers, for callers in C and Rust.
use Rattle.std.specs.Prelude.{ℕ, List, length, Some, None, Option}
use Rattle.answers.specs.Answer.{Answer, answered, refused}

-- 0, or the number of the refusal
abbrev pub code : {A : Type 0} → Answer A → ℕ
code (answered a) = 0
code (refused number figures) = number

-- the length of a payload, which is never empty, or 0 where there is none
abbrev pub length_or_0 : Option (List ℕ) → ℕ
length_or_0 None = 0
length_or_0 (Some p) = length p
