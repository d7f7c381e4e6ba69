-- Each field of a message is spelt in one way.
use Rattle.std.proofs.Common.{◌≡◌, ℕ, ◌+◌, ◌-◌, ◌*◌, ◌/◌, ◌%◌, ◌<◌, ◌≤◌, true, ◌&&◌, eqb, leb, ◌⊎◌, List, [], ◌∷◌, Some, codes, sym, refl, ap, ◌∙◌, subst, inl, inr, ⊎_elim, arith}
use Rattle.std.specs.Char.{is_ascii_digit}
use Rattle.std.proofs.lemmas.Bool.{cases_Bool, eqb-true, cond-true, cond-false, and_parts, and_from, or_cases, leb-true, le-leb}
use Rattle.std.proofs.lemmas.Slice.Eq.{bytes_eq-Decides}
use Rattle.fields.proofs.Options.{none_some, cond_some}
use Rattle.fields.proofs.Rows.{Lawful, Each, number_lawful}
use Rattle.fix.specs.Layout.{is_kind, letter, three, three_digits, version, kind, check_sum, header, new_order_fields, cancel_fields, fields_of}

pub version_lawful : Lawful version
version_lawful = record {
  only = λ v n e. (bytes_eq-Decides v (codes "FIX.4.4")).0 (cond_some _ 0 n e).0;
  bare = λ n e. ((λ z. omega arith), ((λ z. omega arith), ((λ z. omega arith), ((λ z. omega arith), ((λ z. omega arith), ((λ z. omega arith), ((λ z. omega arith), tt)))))));
  named = refl;
}

pub letter_only : (v : List ℕ) (n : ℕ) → letter v ≡ Some n → (v ≡ n ∷ []) × (is_kind n ≡ true)
letter_only [] n e = absurd (none_some e)
letter_only (b ∷ []) n e = let r = cond_some (is_kind b) b n e in (ap (λ x. x ∷ []) r.1, ap is_kind (sym r.1) ∙ r.0)
letter_only (b ∷ c ∷ cs) n e = absurd (none_some e)

pub kind_is : (n : ℕ) → is_kind n ≡ true → (n ≡ 68) ⊎ (n ≡ 70)
kind_is n k = ⊎_elim (λ h. inl (eqb-true n 68 h)) (λ h. inr (eqb-true n 70 h)) (or_cases (eqb n 68) (eqb n 70) k)

pub kind_lawful : Lawful kind
kind_lawful = record {
  only = λ v n e. (letter_only v n e).0;
  bare = λ n e. ((λ z. ⊎_elim (λ h. omega arith) (λ h. omega arith) (kind_is n (letter_only (n ∷ []) n e).1)), tt);
  named = refl;
}

digit_is : (c : ℕ) → is_ascii_digit c ≡ true → (48 ≤ c) × (c ≤ 57)
digit_is c e = let p = and_parts (leb 48 c) (leb c 57) e in (leb-true 48 c p.0, leb-true c 57 p.1)

three_only : (v : List ℕ) (n : ℕ) → three v ≡ Some n → v ≡ three_digits n
three_only [] n e = absurd (none_some e)
three_only (a ∷ []) n e = absurd (none_some e)
three_only (a ∷ b ∷ []) n e = absurd (none_some e)
three_only (a ∷ b ∷ c ∷ []) n e =
    let r = cond_some (is_ascii_digit a && (is_ascii_digit b && is_ascii_digit c)) _ n e in
    let p = and_parts (is_ascii_digit a) (is_ascii_digit b && is_ascii_digit c) r.0 in
    let q = and_parts (is_ascii_digit b) (is_ascii_digit c) p.1 in
    let x = digit_is a p.0 in
    let y = digit_is b q.0 in
    let z = digit_is c q.1 in
    let is = r.1 in
    let f : a ≡ 48 + n / 100 = omega arith in
    let g : b ≡ 48 + n / 10 % 10 = omega arith in
    let h : c ≡ 48 + n % 10 = omega arith in
    λ i. f i ∷ g i ∷ h i ∷ []
three_only (a ∷ b ∷ c ∷ d ∷ ds) n e = absurd (none_some e)

pub three_back : (n : ℕ) → n < 1000 → three (three_digits n) ≡ Some n
three_back n h =
    let p : n / 100 < 10 = omega arith in
    let q : n / 10 % 10 < 10 = omega arith in
    let r : n % 10 < 10 = omega arith in
    let digit : (d : ℕ) → d < 10 → is_ascii_digit (48 + d) ≡ true = λ d l. and_from _ _ (le-leb 48 (48 + d) (omega arith)) (le-leb (48 + d) 57 (omega arith)) in
    let is : (48 + n / 100 - 48) * 100 + (48 + n / 10 % 10 - 48) * 10 + (48 + n % 10 - 48) ≡ n = omega arith in
    cond-true _ _ _ (and_from _ _ (digit (n / 100) p) (and_from _ _ (digit (n / 10 % 10) q) (digit (n % 10) r))) ∙ ap (λ x. Some x) is

pub check_sum_lawful : Lawful check_sum
check_sum_lawful = record {
  only = three_only;
  bare = λ n e. ((λ z. omega arith), ((λ z. omega arith), ((λ z. omega arith), tt)));
  named = refl;
}

pub header_lawful : Each header
header_lawful = (version_lawful, (number_lawful 9 10 99 refl (omega arith), tt))

new_order_lawful : Each new_order_fields
new_order_lawful =
    (number_lawful 49 1 9999 refl (omega arith), (number_lawful 34 1 999999999 refl (omega arith), (number_lawful 11 1 999999999 refl (omega arith), (number_lawful 54 1 2 refl (omega arith), (number_lawful 38 1 999999 refl (omega arith), (number_lawful 44 1 999999 refl (omega arith), tt))))))

cancel_lawful : Each cancel_fields
cancel_lawful = (number_lawful 49 1 9999 refl (omega arith), (number_lawful 34 1 999999999 refl (omega arith), (number_lawful 41 1 999999999 refl (omega arith), tt)))

pub fields_lawful : (k : ℕ) → Each (fields_of k)
fields_lawful k =
    ⊎_elim
    (λ h. subst Each (sym (cond-true _ _ _ h)) new_order_lawful)
    (λ h. subst Each (sym (cond-false _ _ _ h)) cancel_lawful)
    (cases_Bool (eqb k 68))
