-- Numerals: when bytes are one, and that `decimal` writes the only one of its number.
use Rattle.std.proofs.Common.{◌≡◌, ℕ, zero, suc, ◌+◌, ◌-◌, ◌*◌, ◌^◌, ◌<◌, ◌≤◌, Bool, true, false, ◌&&◌, ltb, leb, List, [], ◌∷◌, ◌++◌, map, length, get_or, take, drop, Some, None, decimal, sym, refl, ap, ◌∙◌, ⊎_elim, arith}
use Rattle.std.specs.Str.Parse.{digits_value}
use Rattle.std.specs.Char.{is_ascii_digit, digit_value as digitValue}
use Rattle.std.specs.Str.{all_ascii_digits}
use Rattle.std.specs.Int.Digits.{number_from_digits}
use Rattle.std.proofs.lemmas.Bool.{cases_lt, and_from, and_parts, and_left, and_right, leb-true, ltb-true, le-leb, lt-leb, lt-ltb, le-ltb, cond-true, cond-false}
use Rattle.std.proofs.lemmas.List.{take_more, take-append-drop, map-append}
use Rattle.std.proofs.lemmas.Str.{digit_value_digit}
use Rattle.std.proofs.lemmas.Int.Digits.{digits_value_is, digits_value_more, number_after_append, number_after_ge}
use Rattle.std.proofs.lemmas.Str.Parse.{IsNumeralModel, numerals_by_value, tells_all_ascii_digits}
use Rattle.std.proofs.lemmas.Fmt.{decimal-digits_value, digits_value-decimal, digits_decimal, first_decimal}
use Rattle.fields.specs.Numeral.{numeral}
use Rattle.fields.proofs.Options.{cond_some}

own : IsNumeralModel (λ ds. all_ascii_digits ds ≡ true) (digits_value 10)
own = numerals_by_value _ tells_all_ascii_digits

-- one rule broken is enough
module _ (low high : ℕ) (v : List ℕ) where
  abbrev Range : Bool
  Range = leb low (digits_value 10 v) && leb (digits_value 10 v) high

  pub bad_first : get_or v 0 0 ≤ 48 → numeral low high v ≡ None
  unfolding numeral
  bad_first h = cond-false _ _ _ (and_left _ (all_ascii_digits v && Range) (le-ltb 48 (get_or v 0 0) h))

  pub bad_digit : all_ascii_digits v ≡ false → numeral low high v ≡ None
  unfolding numeral
  bad_digit h = cond-false _ _ _ (and_right (ltb 48 (get_or v 0 0)) _ (and_left _ Range h))

  pub too_low : digits_value 10 v < low → numeral low high v ≡ None
  unfolding numeral
  too_low h = cond-false _ _ _ (and_right (ltb 48 (get_or v 0 0)) _ (and_right (all_ascii_digits v) _ (and_left _ (leb (digits_value 10 v) high) (lt-leb low (digits_value 10 v) h))))

  pub too_high : high < digits_value 10 v → numeral low high v ≡ None
  unfolding numeral
  too_high h = cond-false _ _ _ (and_right (ltb 48 (get_or v 0 0)) _ (and_right (all_ascii_digits v) _ (and_right (leb low (digits_value 10 v)) _ (lt-leb (digits_value 10 v) high h))))

  pub all_right : 48 < get_or v 0 0 → all_ascii_digits v ≡ true → low ≤ digits_value 10 v → digits_value 10 v ≤ high → numeral low high v ≡ Some (digits_value 10 v)
  unfolding numeral
  all_right f d l h = cond-true _ _ _ (and_from _ _ (lt-ltb 48 (get_or v 0 0) f) (and_from _ _ d (and_from _ _ (le-leb low (digits_value 10 v) l) (le-leb (digits_value 10 v) high h))))

  pub numeral_parts : (n : ℕ) → numeral low high v ≡ Some n → (48 < get_or v 0 0) × (all_ascii_digits v ≡ true) × (low ≤ n) × (n ≤ high) × (digits_value 10 v ≡ n)
  unfolding numeral
  numeral_parts n e =
      let c = cond_some _ (digits_value 10 v) n e in
      let p = and_parts (ltb 48 (get_or v 0 0)) (all_ascii_digits v && Range) c.0 in
      let q = and_parts (all_ascii_digits v) Range p.1 in
      let r = and_parts (leb low (digits_value 10 v)) (leb (digits_value 10 v) high) q.1 in
      let is = c.1 in
      (ltb-true 48 (get_or v 0 0) p.0, q.0, omega (arith, leb-true low (digits_value 10 v) r.0), omega (arith, leb-true (digits_value 10 v) high r.1), is)

-- digits, one by one
digits_push : (xs : List ℕ) (c : ℕ) → all_ascii_digits xs ≡ true → is_ascii_digit c ≡ true → all_ascii_digits (xs ++ c ∷ []) ≡ true
digits_push [] c a d = and_from _ true d refl
digits_push (x ∷ xs) c a d = let p = and_parts (is_ascii_digit x) (all_ascii_digits xs) a in and_from _ _ p.0 (digits_push xs c p.1 d)

no_digit : (v : List ℕ) (i : ℕ) → i < length v → is_ascii_digit (get_or v i 0) ≡ false → all_ascii_digits v ≡ false
no_digit [] i h d = absurd (omega arith)
no_digit (c ∷ v) zero h d = and_left _ (all_ascii_digits v) d
no_digit (c ∷ v) (suc i) h d = and_right (is_ascii_digit c) _ (no_digit v i (omega arith) d)

digit_value : (c : ℕ) → is_ascii_digit c ≡ true → (48 ≤ c) × (digitValue c ≡ c - 48)
digit_value c e =
    let p = and_parts (leb 48 c) (leb c 57) e in
    let low = leb-true 48 c p.0 in
    let is = digit_value_digit c (low, leb-true c 57 p.1) in
    let same : digitValue c ≡ c - 48 = omega arith in
    (low, same)

-- more digits, no smaller a number
value_ge : (xs ys : List ℕ) → digits_value 10 xs ≤ digits_value 10 (xs ++ ys)
value_ge xs ys =
    let a = digits_value_is 10 xs in
    let b = digits_value_is 10 (xs ++ ys) ∙ ap (number_from_digits 10) (map-append digitValue xs ys) ∙ number_after_append 10 0 (map digitValue xs) (map digitValue ys) in
    let c = number_after_ge 10 (number_from_digits 10 (map digitValue xs)) (map digitValue ys) (omega arith) in
    omega arith

-- a turn at the byte i of v, after the number n of those before it
module _ (v : List ℕ) (i n : ℕ) (h : i < length v) (is : n ≡ digits_value 10 (take i v)) where
  pub turn_value : is_ascii_digit (get_or v i 0) ≡ true → n * 10 + (get_or v i 0 - 48) ≡ digits_value 10 (take (i + 1) v)
  turn_value d =
      let w = (digit_value (get_or v i 0) d).1 in
      let m = digits_value_more 10 v i h in
      omega arith

  pub turn_digits : all_ascii_digits (take i v) ≡ true → is_ascii_digit (get_or v i 0) ≡ true → all_ascii_digits (take (i + 1) v) ≡ true
  turn_digits a d = ap all_ascii_digits (take_more v i 0 h) ∙ digits_push (take i v) (get_or v i 0) a d

  pub turn_bad : (low high : ℕ) → is_ascii_digit (get_or v i 0) ≡ false → numeral low high v ≡ None
  turn_bad low high d = bad_digit low high v (no_digit v i h d)

  pub turn_past : (low high : ℕ) → is_ascii_digit (get_or v i 0) ≡ true → high < n * 10 + (get_or v i 0 - 48) → numeral low high v ≡ None
  turn_past low high d lt =
      let w = turn_value d in
      let g = value_ge (take (i + 1) v) (drop (i + 1) v) in
      let s = ap (digits_value 10) (take-append-drop (i + 1) v) in
      too_high low high v (omega arith)

pub none_first : (v : List ℕ) → length v ≡ 0 → get_or v 0 0 ≤ 48
none_first [] e = omega arith
none_first (c ∷ v) e = absurd (omega arith)

pub first_digit : (v : List ℕ) → 0 < length v → all_ascii_digits v ≡ true → (get_or v 0 0 ≡ 48 → ⊥) → 48 < get_or v 0 0
first_digit [] h a ne = absurd (omega arith)
first_digit (c ∷ v) h a ne =
    let p = and_parts (is_ascii_digit c) (all_ascii_digits v) a in
    let low = (digit_value c p.0).0 in
    ⊎_elim (λ l. l) (λ l. let is : c ≡ 48 = omega arith in absurd (ne is)) (cases_lt 48 c)

some_byte : (v : List ℕ) → 48 < get_or v 0 0 → 0 < length v
some_byte [] h = absurd (omega arith)
some_byte (c ∷ v) h = omega arith

-- what reads as n is what writes n
pub numeral_only : (low high n : ℕ) (v : List ℕ) → high < 2 ^ 64 → numeral low high v ≡ Some n → (v ≡ decimal n) × (low ≤ n) × (n ≤ high)
numeral_only low high n v small e =
    let p = numeral_parts low high v n e in
    let is = p.4 in
    let most = p.3 in
    let d = decimal-digits_value own v p.1 (some_byte v p.0) (λ z. absurd (omega (arith, p.0))) (omega arith) in
    (sym d ∙ ap decimal is, p.2, p.3)

-- and what writes n reads as n
pub numeral_back : (low high n : ℕ) → 0 < n → low ≤ n → n ≤ high → high < 2 ^ 64 → numeral low high (decimal n) ≡ Some n
numeral_back low high n some l h small =
    let fits : n < 2 ^ 64 = omega arith in
    let v = digits_value-decimal own n fits in
    all_right low high (decimal n) (first_decimal n some fits) (digits_decimal own n fits) (omega arith) (omega arith) ∙ ap (λ k. Some k) v
