-- Fields in a row: what is written is read back, and nothing else is read.
use Rattle.std.proofs.Common.{◌≡◌, ℕ, ◌^◌, ◌<◌, ◌≤◌, true, eqb, List, [], ◌∷◌, ◌++◌, Some, None, decimal, Option, sym, refl, ap, ◌∙◌, subst, inl, inr, ⊎_elim, append_assoc, arith}
use Rattle.std.proofs.lemmas.Bool.{cases_Bool, eqb-true, eq-eqb, cond-true, cond-false, or_cases}
use Rattle.fields.specs.Field.{Front, bind, cut, of_tag, front, written}
use Rattle.fields.specs.Kind.{known}
use Rattle.fields.specs.Numeral.{numeral}
use Rattle.fields.specs.Row.{Shape, number, Read, wrong, right, then, said, of_shape, step, row, shown, shown_row}
use Rattle.fields.proofs.Options.{cond_some, bind_some}
use Rattle.fields.proofs.Numerals.{numeral_only, numeral_back}
use Rattle.fields.proofs.Cuts.{Lacks, lacks_append, decimal_lacks, cut_back, cut_only}

pub no : {A : Type 0} → ◌≡◌ {A = ℕ} 0 1 → A
no z = absurd (omega arith)

-- a shape is lawful where each value that it takes is spelt in one way, and without the byte that ends a field
pub record Lawful (shape : Shape) : Type 0 where
  pub only : (v : List ℕ) (n : ℕ) → shape.says v ≡ Some n → v ≡ shape.spells n
  pub bare : (n : ℕ) → shape.says (shape.spells n) ≡ Some n → Lacks 1 (shape.spells n)
  pub named : known shape.tag ≡ true

-- every known tag has one digit or two
tag_range : (t : ℕ) → known t ≡ true → (1 ≤ t) × (t ≤ 99)
tag_range t k =
    let one : (m : ℕ) → 1 ≤ m → m ≤ 99 → eqb t m ≡ true → (1 ≤ t) × (t ≤ 99) = λ m l h e. let is = eqb-true t m e in (omega arith, omega arith) in
    ⊎_elim (one 8 (omega arith) (omega arith)) (λ k.
    ⊎_elim (one 9 (omega arith) (omega arith)) (λ k.
    ⊎_elim (one 10 (omega arith) (omega arith)) (λ k.
    ⊎_elim (one 11 (omega arith) (omega arith)) (λ k.
    ⊎_elim (one 34 (omega arith) (omega arith)) (λ k.
    ⊎_elim (one 35 (omega arith) (omega arith)) (λ k.
    ⊎_elim (one 38 (omega arith) (omega arith)) (λ k.
    ⊎_elim (one 41 (omega arith) (omega arith)) (λ k.
    ⊎_elim (one 44 (omega arith) (omega arith)) (λ k.
    ⊎_elim (one 49 (omega arith) (omega arith)) (one 54 (omega arith) (omega arith))
    (or_cases _ _ k)) (or_cases _ _ k)) (or_cases _ _ k)) (or_cases _ _ k)) (or_cases _ _ k)) (or_cases _ _ k)) (or_cases _ _ k)) (or_cases _ _ k)) (or_cases _ _ k)) (or_cases _ _ k)

module _ (D v rest : List ℕ) where
  joined : (D ++ 61 ∷ (v ++ 1 ∷ [])) ++ rest ≡ (D ++ 61 ∷ v) ++ 1 ∷ rest
  joined = simp append_assoc

-- a field at the front, both ways
pub front_back : (t : ℕ) (v rest : List ℕ) → known t ≡ true → Lacks 1 v → front (written t v ++ rest) ≡ Some (record { tag = t; value = v; rest = rest })
unfolding front
front_back t v rest k bare =
    let range = tag_range t k in
    let low = range.0 in
    let high = range.1 in
    let D = decimal t in
    let lacks : Lacks 1 (D ++ 61 ∷ v) = lacks_append 1 D (61 ∷ v) (decimal_lacks 1 t (inl (omega arith)) (omega arith)) ((λ e. omega arith), bare) in
    let of_text : List ℕ × List ℕ → Option Front = λ q. bind (numeral 1 99 q.0) (of_tag q.1 rest) in
    let of_rest : List ℕ × List ℕ → Option Front = λ p. bind (cut 61 p.0) (λ q. bind (numeral 1 99 q.0) (of_tag q.1 p.1)) in
    ap (λ l. bind (cut 1 l) of_rest) (joined D v rest) ∙ ap (λ o. bind o of_rest) (cut_back 1 (D ++ 61 ∷ v) rest lacks)
    ∙ ap (λ o. bind o of_text) (cut_back 61 D v (decimal_lacks 61 t (inr (omega arith)) (omega arith)))
    ∙ ap (λ o. bind o (of_tag v rest)) (numeral_back 1 99 t (omega arith) low high (omega arith)) ∙ cond-true _ _ _ k

pub front_only : (bs : List ℕ) (f : Front) → front bs ≡ Some f → bs ≡ written f.tag f.value ++ f.rest
unfolding front
front_only bs f e =
    let p = bind_some (cut 1 bs) _ f e in
    let q = bind_some (cut 61 p.0.0) _ f p.2 in
    let t = bind_some (numeral 1 99 q.0.0) _ f q.2 in
    let k = cond_some (known t.0) _ f t.2 in
    let tag : t.0 ≡ f.tag = ap (λ x. x.tag) k.1 in
    let value : q.0.1 ≡ f.value = ap (λ x. x.value) k.1 in
    let rest : p.0.1 ≡ f.rest = ap (λ x. x.rest) k.1 in
    cut_only 1 bs p.0 p.1
    ∙ ap (λ l. l ++ 1 ∷ p.0.1) (cut_only 61 p.0.0 q.0 q.1 ∙ ap (λ l. l ++ 61 ∷ q.0.1) (numeral_only 1 99 t.0 q.0.0 (omega arith) t.1).0)
    ∙ (λ i. (decimal (tag i) ++ 61 ∷ value i) ++ 1 ∷ rest i) ∙ sym (joined (decimal f.tag) f.value f.rest)

-- one field of a layout, both ways
module _ (shape : Shape) (law : Lawful shape) where
  pub step_back : (n : ℕ) (rest : List ℕ) → shape.says (shape.spells n) ≡ Some n → step shape (shown shape n ++ rest) ≡ right n rest
  step_back n rest ok =
      ap (of_shape shape (shown shape n ++ rest)) (front_back shape.tag (shape.spells n) rest law.named (law.bare n ok))
      ∙ cond-true _ _ _ (eq-eqb shape.tag shape.tag refl) ∙ ap (said (shown shape n ++ rest) rest) ok

  said_right : (bs : List ℕ) (r : List ℕ) (o : Option ℕ) (n : ℕ) (rest : List ℕ) → said bs r o ≡ right n rest → (o ≡ Some n) × (r ≡ rest)
  said_right bs r None n rest e = no (cc)
  said_right bs r (Some m) n rest e = let a : m ≡ n = cc in let b : r ≡ rest = cc in (ap (λ x. Some x) a, b)

  shape_right : (bs : List ℕ) (o : Option Front) (n : ℕ) (rest : List ℕ) → of_shape shape bs o ≡ right n rest → (f : Front) × (o ≡ Some f) × (f.tag ≡ shape.tag) × (f.rest ≡ rest) × (shape.says f.value ≡ Some n)
  shape_right bs None n rest e = no (cc)
  shape_right bs (Some f) n rest e =
      ⊎_elim
      (λ t. let s = said_right bs f.rest (shape.says f.value) n rest (sym (cond-true _ _ _ t) ∙ e) in (f, refl, eqb-true _ _ t, s.1, s.0))
      (λ t. let w : wrong bs ≡ right n rest = sym (cond-false _ _ _ t) ∙ e in no (cc))
      (cases_Bool (eqb f.tag shape.tag))

  pub step_only : (bs : List ℕ) (n : ℕ) (rest : List ℕ) → step shape bs ≡ right n rest → (bs ≡ shown shape n ++ rest) × (shape.says (shape.spells n) ≡ Some n)
  step_only bs n rest e =
      let s = shape_right bs (front bs) n rest e in
      let is = law.only s.0.value n s.4 in
      (front_only bs s.0 s.1 ∙ (λ i. written (s.2 i) (is i) ++ s.3 i), ap shape.says (sym is) ∙ s.4)

-- the shape of a number, whatever its tag and range
pub number_lawful : (tag low high : ℕ) → known tag ≡ true → high < 2 ^ 64 → Lawful (number tag low high)
number_lawful tag low high k small = record {
  only = λ v n e. (numeral_only low high n v small e).0;
  bare = λ n e. let r = numeral_only low high n (decimal n) small e in decimal_lacks 1 n (inl (omega arith)) (omega (arith, r.2));
  named = k;
}

-- reading on, both ways
pub then_right : {A B : Type 0} (x : Read A) (go : A → List ℕ → Read B) (b : B) (rest : List ℕ) → then x go ≡ right b rest → (a : A) × (r : List ℕ) × (x ≡ right a r) × (go a r ≡ right b rest)
then_right (wrong l) go b rest e = no (cc)
then_right (right a r) go b rest e = (a, r, refl, e)

-- rows, both ways
abbrev pub Each : List Shape → Type 0
Each [] = Unit {0}
Each (s ∷ ss) = Lawful s × Each ss

-- each number is one that its field can hold
abbrev pub Fit : List Shape → List ℕ → Type 0
Fit [] [] = Unit {0}
Fit [] (n ∷ ns) = ⊥
Fit (s ∷ ss) [] = ⊥
Fit (s ∷ ss) (n ∷ ns) = (s.says (s.spells n) ≡ Some n) × Fit ss ns

pub row_back : (ss : List Shape) (ns rest : List ℕ) → Each ss → Fit ss ns → row ss (shown_row ss ns ++ rest) ≡ right ns rest
row_back [] [] rest laws fit = refl
row_back [] (n ∷ ns) rest laws fit = absurd fit
row_back (s ∷ ss) [] rest laws fit = absurd fit
row_back (s ∷ ss) (n ∷ ns) rest laws fit =
    let more : ℕ → List ℕ → Read (List ℕ) = λ m r. then (row ss r) (λ ms after. right (m ∷ ms) after) in
    ap (row (s ∷ ss)) (append_assoc (shown s n) (shown_row ss ns) rest)
    ∙ ap (λ x. then x more) (step_back s laws.0 n (shown_row ss ns ++ rest) fit.0)
    ∙ ap (λ x. then x (λ ms after. right (n ∷ ms) after)) (row_back ss ns rest laws.1 fit.1)

pub row_only : (ss : List Shape) (bs ns rest : List ℕ) → Each ss → row ss bs ≡ right ns rest → (bs ≡ shown_row ss ns ++ rest) × Fit ss ns
row_only [] bs ns rest laws e = let p : bs ≡ rest = cc in let q : [] ≡ ns = cc in (p, subst (Fit []) q tt)
row_only (s ∷ ss) bs ns rest laws e =
    let g = then_right (step s bs) _ ns rest e in
    let w = then_right (row ss g.1) _ ns rest g.3 in
    let whole = w.3 in
    let is : g.0 ∷ w.0 ≡ ns = cc in
    let tail : w.1 ≡ rest = cc in
    let f = step_only s laws.0 bs g.0 g.1 g.2 in
    let r = row_only ss g.1 w.0 w.1 laws.1 w.2 in (
      f.0 ∙ ap (λ l. shown s g.0 ++ l) r.0 ∙ sym (append_assoc (shown s g.0) (shown_row ss w.0) w.1) ∙ (λ i. shown_row (s ∷ ss) (is i) ++ tail i),
      subst (Fit (s ∷ ss)) is (f.1, r.1),
    )
