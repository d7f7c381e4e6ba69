-- Numbers as digits.
use Rattle.std.specs.Prelude.{ℕ, cond, ◌&&◌, List, Some, None, Option, nat_le, nat_lt, slice_index}
use Rattle.std.specs.Str.Parse.{digits_value}
use Rattle.std.specs.Str.{all_ascii_digits}

-- The number from low to high that the bytes spell: digits alone, the first of them above 0 (48 is the digit 0).
unfoldable pub numeral : ℕ → ℕ → List ℕ → Option ℕ
numeral low high bytes =
    cond (nat_lt 48 (slice_index bytes 0) && (all_ascii_digits bytes && (nat_le low (digits_value 10 bytes) && nat_le (digits_value 10 bytes) high))) (Some (digits_value 10 bytes)) None
