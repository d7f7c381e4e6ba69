-- How long messages are.
use Rattle.std.proofs.Common.{◌≡◌, ℕ, ◌+◌, ◌/◌, ◌%◌, ◌^◌, ◌<◌, ◌≤◌, List, [], ◌∷◌, ◌++◌, length, codes, decimal, sum, ap, ◌∙◌, arith, length-append}
use Rattle.std.proofs.lemmas.Fmt.{length-decimal-le, decimal_nonempty, decimal_digit, decimal_step}
use Rattle.fields.specs.Field.{written}
use Rattle.fields.specs.Row.{number, shown}
use Rattle.fix.specs.Command.{Command, new, cancel, Valid}
use Rattle.fix.specs.Layout
use Rattle.fix.specs.Layout.{version, kind, check_sum, three_digits}
use Rattle.fix.specs.Message.{side_number, values_of, body_by, front_by, render}
use Rattle.fix.specs.Range.{Within}
use Rattle.fix.proofs.Values.{side_in}

pub one_digit : (n : ℕ) → n < 10 → length (decimal n) ≡ 1
one_digit n h = ap length (decimal_digit n h)

pub more_digits : (n : ℕ) → 10 ≤ n → n < 2 ^ 64 → length (decimal n) ≡ length (decimal (n / 10)) + 1
more_digits n h fits = ap length (decimal_step n h fits) ∙ length-append (decimal (n / 10)) _

two_digits : (n : ℕ) → 10 ≤ n → n ≤ 99 → length (decimal n) ≡ 2
two_digits n l h = more_digits n l (omega arith) ∙ ap (λ k. k + 1) (one_digit (n / 10) (omega arith))

pub written_length : (tag : ℕ) (v : List ℕ) → length (written tag v) ≡ length (decimal tag) + (length v + 2)
written_length tag v = simp length-append (omega arith)

-- a field with a tag of two digits and a number of at most k digits
module _ (tag high n k : ℕ) where
  field_length : 10 ≤ tag → tag ≤ 99 → 0 < k → high < 10 ^ k → high < 2 ^ 64 → Within high n → (5 ≤ length (shown (number tag 1 high) n)) × (length (shown (number tag 1 high) n) ≤ k + 4)
  field_length low high some small fits w =
      let two = two_digits tag low high in
      let least = w.0 in
      let most = w.1 in
      let bits : n < 2 ^ 64 = omega arith in
      let value = length-decimal-le k n some (omega arith) bits in
      let value0 = decimal_nonempty n bits in
      let l = written_length tag (decimal n) in
      (omega arith, omega arith)

pub kind_length : (k : ℕ) → length (shown kind k) ≡ 5
kind_length k = written_length 35 (k ∷ []) ∙ ap (λ n. n + 3) (two_digits 35 (omega arith) (omega arith))

pub body_length : (c : Command) → Valid c → (20 ≤ length (body_by (values_of c))) × (length (body_by (values_of c)) ≤ 64)
body_length (new o) v =
    let a = field_length 49 9999 o.member 4 (omega arith) (omega arith) (omega arith) (omega arith) (omega arith) v.0 in
    let b = field_length 34 999999999 o.number 9 (omega arith) (omega arith) (omega arith) (omega arith) (omega arith) v.1 in
    let e = field_length 11 999999999 o.order 9 (omega arith) (omega arith) (omega arith) (omega arith) (omega arith) v.2 in
    let f = field_length 54 2 (side_number o.side) 1 (omega arith) (omega arith) (omega arith) (omega arith) (omega arith) (side_in o.side) in
    let g = field_length 38 999999 o.lots 6 (omega arith) (omega arith) (omega arith) (omega arith) (omega arith) v.3 in
    let h = field_length 44 999999 o.price 6 (omega arith) (omega arith) (omega arith) (omega arith) (omega arith) v.4 in
    let k = kind_length 68 in
    let l : length (body_by (values_of (new o))) ≡ length (shown kind 68) + (length (shown (number 49 1 9999) o.member) + (length (shown (number 34 1 999999999) o.number) + (length (shown (number 11 1 999999999) o.order) + (length (shown (number 54 1 2) (side_number o.side)) + (length (shown (number 38 1 999999) o.lots) + (length (shown (number 44 1 999999) o.price) + 0)))))) =
    simp length-append in
    (omega arith, omega arith)
body_length (cancel o) v =
    let a = field_length 49 9999 o.member 4 (omega arith) (omega arith) (omega arith) (omega arith) (omega arith) v.0 in
    let b = field_length 34 999999999 o.number 9 (omega arith) (omega arith) (omega arith) (omega arith) (omega arith) v.1 in
    let e = field_length 41 999999999 o.order 9 (omega arith) (omega arith) (omega arith) (omega arith) (omega arith) v.2 in
    let k = kind_length 70 in
    let l : length (body_by (values_of (cancel o))) ≡ length (shown kind 70) + (length (shown (number 49 1 9999) o.member) + (length (shown (number 34 1 999999999) o.number) + (length (shown (number 41 1 999999999) o.order) + 0))) =
    simp length-append in
    (omega arith, omega arith)

pub version_length : length (shown version 0) ≡ 10
version_length = written_length 8 (codes "FIX.4.4") ∙ ap (λ n. n + 9) (one_digit 8 (omega arith))

pub count_length : (n : ℕ) → 10 ≤ n → n ≤ 99 → length (shown Layout.body_length n) ≡ 5
count_length n l h =
    let w = written_length 9 (decimal n) in
    let tag = one_digit 9 (omega arith) in
    let two = two_digits n l h in
    omega arith

pub sum_length : (n : ℕ) → length (shown check_sum n) ≡ 7
sum_length n = written_length 10 (three_digits n) ∙ ap (λ k. k + 5) (two_digits 10 (omega arith) (omega arith))

four : (a b c d : List ℕ) → length (((a ++ (b ++ [])) ++ c) ++ d) ≡ length a + length b + length c + length d
four a b c d = simp length-append (omega arith)

pub render_length : (c : Command) → Valid c → length (render c) ≡ 22 + length (body_by (values_of c))
unfolding render
render_length c v =
    let body = body_by (values_of c) in
    let size = body_length c v in
    let total = sum (front_by (values_of c)) % 256 in
    let a = version_length in
    let b = count_length (length body) (omega arith) (omega arith) in
    let d = sum_length total in
    let whole = four (shown version 0) (shown Layout.body_length (length body)) body (shown check_sum total) in
    omega arith
