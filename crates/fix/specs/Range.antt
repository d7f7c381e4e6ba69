-- The ranges of a command's figures.
use Rattle.std.specs.Prelude.{ℕ, ◌≤◌}

abbrev pub largest_member : ℕ
largest_member = 9999

-- of a command, and of an order
abbrev pub largest_number : ℕ
largest_number = 999999999

abbrev pub largest_lots : ℕ
largest_lots = 999999

abbrev pub largest_price : ℕ
largest_price = 999999

-- from 1 on
abbrev pub Within : ℕ → ℕ → Type 0
Within largest n = (1 ≤ n) × (n ≤ largest)
