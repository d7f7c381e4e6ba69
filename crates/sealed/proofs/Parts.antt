-- When a block is sealed, rule by rule.
use Rattle.std.proofs.Common.{◌≡◌, ℕ, zero, suc, ◌+◌, ◌-◌, ◌*◌, ◌≤◌, true, List, [], ◌∷◌, length, get_or, take, drop, Some, None, sym, refl, ap, ◌∙◌, ⊎_elim, arith, length-drop}
use Rattle.std.proofs.lemmas.List.{length-take-le, take_rest, drop-drop}
use Rattle.std.proofs.lemmas.Bool.{and_parts, and_from, eqb-true, eq-eqb, leb-true, le-leb, cases_Bool, cond-true, cond-false}
use Rattle.crc32c.specs.Crc.{crc}
use Rattle.sealed.specs.Mask.{masked}
use Rattle.sealed.specs.Number.{number}
use Rattle.sealed.specs.Zero.{all_zero}
use Rattle.sealed.specs.Part.{stored, size, kind, payload, covered, tail, is_sealed, part, Handed}

take_nil : (n : ℕ) → take {A = ℕ} n [] ≡ []
take_nil zero = refl
take_nil (suc n) = refl

-- the number that n + 1 bytes from place k on spell
number_take : (n k : ℕ) (b : List ℕ) → number (take (suc n) (drop k b)) ≡ get_or b k 0 + 256 * number (take n (drop (suc k) b))
unfolding number
number_take n zero [] = sym (ap (λ (t : List ℕ). 0 + 256 * number t) (take_nil n))
number_take n zero (x ∷ b) = refl
number_take n (suc k) [] = sym (ap (λ (t : List ℕ). 0 + 256 * number t) (take_nil n))
number_take n (suc k) (x ∷ b) = number_take n k b

pub size_is : (b : List ℕ) → size b ≡ get_or b 4 0 + get_or b 5 0 * 256
unfolding number
size_is b = omega (arith, number_take 1 4 b, number_take 0 5 b)

pub stored_is : (b : List ℕ) → stored b ≡ get_or b 0 0 + get_or b 1 0 * 256 + get_or b 2 0 * 65536 + get_or b 3 0 * 16777216
unfolding number
stored_is b = omega (arith, number_take 3 0 b, number_take 2 1 b, number_take 1 2 b, number_take 0 3 b)

-- the parts of a block as the code takes them, n bytes of payload after the first seven
module _ (b : List ℕ) (n : ℕ) (e : n ≡ size b) where
  pub payload_is : (t : List ℕ) → t ≡ take n (take (length b - 7) (drop 7 b)) → t ≡ payload b
  payload_is t h = h ∙ ap (take n) (take_rest b 7) ∙ ap (λ (k : ℕ). take k (drop 7 b)) e

  pub tail_is : (t : List ℕ) → t ≡ drop n (take (length b - 7) (drop 7 b)) → t ≡ tail b
  tail_is t h = h ∙ ap (drop n) (take_rest b 7) ∙ drop-drop n 7 b ∙ ap (λ (k : ℕ). drop (7 + k) b) e

  pub covered_is : take (7 + n - 6) (drop 6 b) ≡ covered b
  covered_is =
      let k : 7 + n - 6 ≡ 1 + size b = omega arith in
      ap (λ (m : ℕ). take m (drop 6 b)) k

pub rest_long : (b : List ℕ) → length (take (length b - 7) (drop 7 b)) ≡ length b - 7
rest_long b = ap length (take_rest b 7) ∙ length-drop 7 b

pub record Sealed (b : List ℕ) : Type 0 where
  pub whole : length b ≡ 512
  pub full : kind b ≡ 1
  pub some : 1 ≤ size b
  pub most : size b ≤ 505
  pub sum : stored b ≡ masked (crc (covered b))
  pub zeros : all_zero (tail b) ≡ true

module _ (b : List ℕ) where
  sealed_from : is_sealed b ≡ true → Sealed b
  unfolding is_sealed
  sealed_from e =
      let t = and_parts _ _ e in
      let s = and_parts _ _ t.0 in
      let r = and_parts _ _ s.0 in
      let q = and_parts _ _ r.0 in
      let p = and_parts _ _ q.0 in
      record {
        whole = eqb-true (length b) 512 p.0;
        full = eqb-true (kind b) 1 p.1;
        some = leb-true 1 (size b) q.1;
        most = leb-true (size b) 505 r.1;
        sum = eqb-true (stored b) (masked (crc (covered b))) s.1;
        zeros = t.1;
      }

  sealed_is : Sealed b → is_sealed b ≡ true
  unfolding is_sealed
  sealed_is s =
      and_from _ _
      (and_from _ _
      (and_from _ _
      (and_from _ _ (and_from _ _ (eq-eqb _ _ s.whole) (eq-eqb _ _ s.full)) (le-leb _ _ s.some))
      (le-leb _ _ s.most))
      (eq-eqb _ _ s.sum))
      s.zeros

  pub part_some : Sealed b → part b ≡ Some (payload b)
  unfolding part
  part_some s = cond-true (is_sealed b) (Some (payload b)) None (sealed_is s)

  pub part_none : (Sealed b → ⊥) → part b ≡ None
  unfolding part
  part_none h =
      ⊎_elim (λ t. absurd (h (sealed_from t))) (λ f. cond-false (is_sealed b) (Some (payload b)) None f) (cases_Bool (is_sealed b))

  -- what a payload says of its block
  pub part_sealed : (p : List ℕ) → part b ≡ Some p → Sealed b × (p ≡ payload b)
  unfolding part
  part_sealed p e =
      ⊎_elim (λ t. (sealed_from t, cc (cond-true (is_sealed b) (Some (payload b)) None t, e)))
      (λ f. let z : ◌≡◌ {A = ℕ} 0 1 = cc (cond-false (is_sealed b) (Some (payload b)) None f, e) in absurd (omega arith))
      (cases_Bool (is_sealed b))

  pub length_payload : Sealed b → length (payload b) ≡ size b
  length_payload s = length-take-le (size b) (drop 7 b) (simp length-drop (omega arith))

  -- what a check hands back
  pub handed : Sealed b → (bytes : List ℕ) → bytes ≡ payload b → Handed b bytes 7
  handed s bytes e =
      let long : length bytes ≡ size b = ap length e ∙ length_payload s in
      record {
        is = part_some s ∙ ap (λ (t : List ℕ). Some t) (sym e);
        placed = refl;
        within = e ∙ ap (λ (n : ℕ). take n (drop 7 b)) (sym long);
        some = omega arith;
        most = omega arith;
        whole = s.whole;
      }
