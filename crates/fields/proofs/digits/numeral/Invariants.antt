use Rattle.std.proofs.Common.{◌≡◌, ◌≤◌, true, take}
use Rattle.std.specs.Str.Parse.{digits_value}
use Rattle.std.specs.Str.{all_ascii_digits}
use Rattle.fields.proofs.digits.numeral.Given as goal

abbrev pub invariant-loop-b : goal.invariant-loop-b
invariant-loop-b l = (l.n ≤ l.high) × (l.n ≡ digits_value 10 (take l.b-index l.bytes)) × (all_ascii_digits (take l.b-index l.bytes) ≡ true)
