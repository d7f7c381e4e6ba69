-- A field has one spelling.
use Rattle.std.specs.Prelude.{◌≡◌, ℕ, ◌^◌, ◌<◌, ◌≤◌, true, List, ◌++◌}
use Rattle.fields.specs.Kind.{known}
use Rattle.fields.specs.Row.{number, right, step, shown}

-- a number's field, whatever its tag and its range: what is written is read back, whatever follows it,
abbrev pub WrittenIsRead : Type 0
WrittenIsRead =
    (tag low high n : ℕ) (rest : List ℕ) → known tag ≡ true → high < 2 ^ 32 → 1 ≤ low → low ≤ n → n ≤ high
    → step (number tag low high) (shown (number tag low high) n ++ rest) ≡ right n rest

-- and nothing else is read as that number
abbrev pub ReadIsWritten : Type 0
ReadIsWritten =
    (tag low high n : ℕ) (bytes rest : List ℕ) → known tag ≡ true → high < 2 ^ 32 → step (number tag low high) bytes ≡ right n rest
    → (bytes ≡ shown (number tag low high) n ++ rest) × (low ≤ n) × (n ≤ high)
