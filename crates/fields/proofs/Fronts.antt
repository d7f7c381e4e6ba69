-- The field at the front, from what the reader's searches found.
use Rattle.std.proofs.Common.{◌≡◌, ℕ, suc, ◌+◌, ◌-◌, true, false, List, length, take, drop, Some, None, Option, sym, ap, ◌∙◌, add-one, arith}
use Rattle.std.proofs.lemmas.Bool.{cond-true, cond-false}
use Rattle.std.proofs.lemmas.List.{take_rest, drop-drop}
use Rattle.fields.specs.Field.{Front, bind, cut, of_tag, front}
use Rattle.fields.specs.Found.{Found}
use Rattle.fields.specs.Kind.{known}
use Rattle.fields.specs.Numeral.{numeral}
use Rattle.fields.proofs.Cuts.{found_none, found_at}

-- the bytes from a on, the first field's text, its tag and its value, as the slices of `field_at` give them
abbrev pub rest_at : List ℕ → ℕ → List ℕ
rest_at bs a = take (length bs - a) (drop a bs)

abbrev pub text_at : List ℕ → ℕ → ℕ → List ℕ
text_at bs a e = take e (rest_at bs a)

abbrev pub tag_at : List ℕ → ℕ → ℕ → ℕ → List ℕ
tag_at bs a e q = take q (text_at bs a e)

abbrev pub value_at : List ℕ → ℕ → ℕ → ℕ → List ℕ
value_at bs a e q = take (length (text_at bs a e) - (q + 1)) (drop (q + 1) (text_at bs a e))

abbrev of_text : List ℕ → List ℕ × List ℕ → Option Front
of_text rest q = bind (numeral 1 99 q.0) (of_tag q.1 rest)

abbrev of_rest : List ℕ × List ℕ → Option Front
of_rest p = bind (cut 61 p.0) (of_text p.1)

module _ (bs : List ℕ) (a : ℕ) where
  pub no_end : Found 1 (rest_at bs a) None → front (drop a bs) ≡ None
  unfolding front
  no_end none = ap (λ o. bind o of_rest) (ap (cut 1) (sym (take_rest bs a)) ∙ found_none 1 (rest_at bs a) none)

  module _ (e : ℕ) (end : Found 1 (rest_at bs a) (Some e)) where
    at_end : front (drop a bs) ≡ of_rest (text_at bs a e, drop (a + e + 1) bs)
    unfolding front
    at_end =
        let here : a + suc e ≡ a + e + 1 = omega arith in
        ap (λ l. bind (cut 1 l) of_rest) (sym (take_rest bs a)) ∙ ap (λ o. bind o of_rest) (found_at 1 (rest_at bs a) e end)
        ∙ ap (λ l. of_rest (text_at bs a e, l)) (ap (drop (suc e)) (take_rest bs a) ∙ drop-drop (suc e) a bs ∙ ap (λ n. drop n bs) here)

    pub no_equals : Found 61 (text_at bs a e) None → front (drop a bs) ≡ None
    no_equals none = at_end ∙ ap (λ o. bind o (of_text (drop (a + e + 1) bs))) (found_none 61 (text_at bs a e) none)

    pub at_tag : (q : ℕ) → Found 61 (text_at bs a e) (Some q) → front (drop a bs) ≡ bind (numeral 1 99 (tag_at bs a e q)) (of_tag (value_at bs a e q) (drop (a + e + 1) bs))
    at_tag q equals =
        at_end ∙ ap (λ o. bind o (of_text (drop (a + e + 1) bs))) (found_at 61 (text_at bs a e) q equals)
        ∙ ap (λ v. of_text (drop (a + e + 1) bs) (tag_at bs a e q, v)) (ap (λ n. drop n (text_at bs a e)) (sym (add-one q)) ∙ sym (take_rest (text_at bs a e) (q + 1)))

-- by the number in the tag
module _ (l : Option Front) (o : Option ℕ) (v r : List ℕ) (is : l ≡ bind o (of_tag v r)) where
  pub tag_none : None ≡ o → l ≡ None
  tag_none e = is ∙ ap (λ x. bind x (of_tag v r)) (sym e)

  pub tag_unknown : (t : ℕ) → Some t ≡ o → known t ≡ false → l ≡ None
  tag_unknown t e k = is ∙ ap (λ x. bind x (of_tag v r)) (sym e) ∙ cond-false _ _ _ k

  pub tag_known : (t u : ℕ) (w : List ℕ) → Some t ≡ o → known t ≡ true → u ≡ t → w ≡ v → l ≡ Some (record { tag = u; value = w; rest = r })
  tag_known t u w e k p q = is ∙ ap (λ x. bind x (of_tag v r)) (sym e) ∙ cond-true _ _ _ k ∙ (λ i. Some (record { tag = sym p i; value = sym q i; rest = r }))
