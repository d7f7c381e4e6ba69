-- Bytes are all zero exactly where the number that they spell is 0, and where each word of them is.
use Rattle.std.proofs.Common.{◌≡◌, ℕ, zero, suc, ◌+◌, ◌*◌, Bool, true, eqb, List, [], ◌∷◌, ◌++◌, length, get_or, drop, replicate, fold, Decides, sym, refl, ap, ◌∙◌, ⊎_elim, arith}
use lib.Bits.{bit_or, or_add_and, and_le_l, and_le_r}
use lib.Lanes.{chunk}
use Rattle.std.proofs.lemmas.Simd.{chunk-drop}
use Rattle.std.proofs.lemmas.List.{at_drop_all}
use Rattle.std.proofs.lemmas.Bool.{and_parts, and_from, eqb-true, eq-eqb, cases_Bool}
use Rattle.sealed.specs.Number.{number}
use Rattle.sealed.specs.Zero.{all_zero}

pub zeros_number : (xs : List ℕ) → all_zero xs ≡ true → number xs ≡ 0
unfolding all_zero number
zeros_number [] h = refl
zeros_number (x ∷ xs) h =
    let p = and_parts (eqb x 0) (all_zero xs) h in
    omega (arith, eqb-true x 0 p.0, zeros_number xs p.1)

pub number_zeros : (xs : List ℕ) → number xs ≡ 0 → all_zero xs ≡ true
unfolding all_zero number
number_zeros [] e = refl
number_zeros (x ∷ xs) e = and_from (eqb x 0) (all_zero xs) (eq-eqb x 0 (omega arith)) (number_zeros xs (omega arith))

-- a test that says whether the number is 0 says whether all bytes are
pub decided : (t : Bool) (xs : List ℕ) → (t ≡ true → number xs ≡ 0) → (number xs ≡ 0 → t ≡ true) → t ≡ all_zero xs
decided t xs f g =
    ⊎_elim (λ yes'. yes' ∙ sym (number_zeros xs (f yes')))
    (λ no'. ⊎_elim (λ z. g (zeros_number xs z) ∙ sym z) (λ nz. no' ∙ sym nz) (cases_Bool (all_zero xs)))
    (cases_Bool t)

pub zeros_replicate : (n : ℕ) → all_zero (replicate n 0) ≡ true
unfolding all_zero
zeros_replicate zero = refl
zeros_replicate (suc n) = zeros_replicate n

pub zeros_are : (xs : List ℕ) → all_zero xs ≡ true → xs ≡ replicate (length xs) 0
unfolding all_zero
zeros_are [] h = refl
zeros_are (x ∷ xs) h =
    let p = and_parts (eqb x 0) (all_zero xs) h in
    ap (λ (t : ℕ). t ∷ xs) (eqb-true x 0 p.0) ∙ ap (λ (t : List ℕ). 0 ∷ t) (zeros_are xs p.1)

pub zeros_decides : (t : Bool) (xs : List ℕ) → t ≡ all_zero xs → Decides t (xs ≡ replicate (length xs) 0)
zeros_decides t xs e = (λ h. zeros_are xs (sym e ∙ h), λ h. e ∙ ap all_zero h ∙ zeros_replicate (length xs))

number_drop : (k : ℕ) (bs : List ℕ) → number (drop k bs) ≡ get_or bs k 0 + 256 * number (drop (suc k) bs)
unfolding number
number_drop zero [] = refl
number_drop zero (b ∷ bs) = refl
number_drop (suc k) [] = refl
number_drop (suc k) (b ∷ bs) = number_drop k bs

pub number_eight : (bs : List ℕ) → length bs ≡ 8 → number bs ≡ get_or bs 0 0 + get_or bs 1 0 * 256 + get_or bs 2 0 * 65536 + get_or bs 3 0 * 16777216 + get_or bs 4 0 * 4294967296 + get_or bs 5 0 * 1099511627776 + get_or bs 6 0 * 281474976710656 + get_or bs 7 0 * 72057594037927936
unfolding number
number_eight bs h =
    let z : number (drop 8 bs) ≡ 0 = at_drop_all number bs 8 (omega arith) in
    omega (arith, number_drop 0 bs, number_drop 1 bs, number_drop 2 bs, number_drop 3 bs, number_drop 4 bs, number_drop 5 bs, number_drop 6 bs, number_drop 7 bs)

-- the or of two numbers is 0 exactly where both are
or_zero : (a b : ℕ) → bit_or a b ≡ 0 → (a ≡ 0) × (b ≡ 0)
or_zero a b e = (omega (arith, or_add_and a b, and_le_r a b), omega (arith, or_add_and a b, and_le_l a b))

zero_or : (a b : ℕ) → a ≡ 0 → b ≡ 0 → bit_or a b ≡ 0
zero_or a b e f = omega (arith, or_add_and a b)

pub or_zeros : (n : ℕ) (bs : List ℕ) → fold bit_or n bs ≡ 0 → (n ≡ 0) × (all_zero bs ≡ true)
unfolding all_zero
or_zeros n [] e = (e, refl)
or_zeros n (b ∷ bs) e =
    let rest = or_zeros (bit_or n b) bs e in
    let p = or_zero n b rest.0 in
    (p.0, and_from (eqb b 0) (all_zero bs) (eq-eqb b 0 p.1) rest.1)

pub zeros_or : (n : ℕ) (bs : List ℕ) → n ≡ 0 → all_zero bs ≡ true → fold bit_or n bs ≡ 0
unfolding all_zero
zeros_or n [] e h = e
zeros_or n (b ∷ bs) e h =
    let p = and_parts (eqb b 0) (all_zero bs) h in
    zeros_or (bit_or n b) bs (zero_or n b e (eqb-true b 0 p.0)) p.1

number-++-zero : (xs ys : List ℕ) → number (xs ++ ys) ≡ 0 → (number xs ≡ 0) × (number ys ≡ 0)
unfolding number
number-++-zero [] ys e = (refl, e)
number-++-zero (x ∷ xs) ys e =
    let r = number-++-zero xs ys (omega arith) in
    (omega (arith, r.0), r.1)

zero-number-++ : (xs ys : List ℕ) → number xs ≡ 0 → number ys ≡ 0 → number (xs ++ ys) ≡ 0
unfolding number
zero-number-++ [] ys e f = f
zero-number-++ (x ∷ xs) ys e f = omega (arith, zero-number-++ xs ys (omega arith) f)

-- what a loop that has or-ed into `any` what lies before place n keeps
abbrev pub Left : ℕ → ℕ → List ℕ → Type 0
Left any n xs = (any ≡ 0 → number (drop n xs) ≡ 0 → number xs ≡ 0) × (number xs ≡ 0 → (any ≡ 0) × (number (drop n xs) ≡ 0))

pub left_none : (xs : List ℕ) → Left 0 0 xs
left_none xs = (λ _ z. z, λ z. (refl, z))

-- one part further, from place n to place m
left_more : (any n m w : ℕ) (xs part : List ℕ) → drop n xs ≡ part ++ drop m xs → (w ≡ 0 → number part ≡ 0) → (number part ≡ 0 → w ≡ 0) → Left any n xs → Left (bit_or any w) m xs
left_more any n m w xs part c f g h = (
  λ o v.
      let z = or_zero any w o in
      h.0 z.0 (ap number c ∙ zero-number-++ part (drop m xs) (f z.1) v),
  λ v.
      let z = h.1 v in
      let q = number-++-zero part (drop m xs) (sym (ap number c) ∙ z.1) in
      (zero_or any w z.0 (g q.0), q.1),
)

pub left_word : (any i w : ℕ) (xs : List ℕ) → w ≡ number (chunk (i * 8) 8 xs) → Left any (i * 8) xs → Left (bit_or any w) ((i + 1) * 8) xs
left_word any i w xs e h =
    let next : (i + 1) * 8 ≡ i * 8 + 8 = omega arith in
    let c : drop (i * 8) xs ≡ chunk (i * 8) 8 xs ++ drop ((i + 1) * 8) xs =
    chunk-drop (i * 8) 8 xs ∙ ap (λ (t : ℕ). chunk (i * 8) 8 xs ++ drop t xs) (sym next) in
    left_more any (i * 8) ((i + 1) * 8) w xs (chunk (i * 8) 8 xs) c (λ z. sym e ∙ z) (λ z. e ∙ z) h
