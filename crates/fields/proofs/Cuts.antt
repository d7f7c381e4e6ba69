-- A list cut at a byte: put together again, and found by places.
use Rattle.std.proofs.Common.{◌≡◌, ℕ, zero, suc, ◌^◌, ◌<◌, true, eqb, leb, ◌⊎◌, List, [], ◌∷◌, ◌++◌, length, get_or, take, drop, Some, None, decimal, sym, refl, ap, ◌∙◌, subst, ⊎_elim, arith}
use Rattle.std.specs.Char.{is_ascii_digit}
use Rattle.std.specs.Str.{all_ascii_digits}
use Rattle.std.proofs.lemmas.Bool.{cases_Bool, and_parts, leb-true, eqb-true, eq-eqb, ne_eqb, cond-true, cond-false}
use Rattle.std.proofs.lemmas.Str.Parse.{numerals_by_value, tells_all_ascii_digits}
use Rattle.std.proofs.lemmas.Fmt.{digits_decimal}
use Rattle.fields.specs.Field.{bind, prepend, cut}
use Rattle.fields.specs.Found.{Found}
use Rattle.fields.proofs.Options.{none_some, some_same, bind_some}

-- x is not in the list
abbrev pub Lacks : ℕ → List ℕ → Type 0
Lacks x [] = Unit {0}
Lacks x (b ∷ bs) = (b ≡ x → ⊥) × Lacks x bs

pub lacks_append : (x : ℕ) (a b : List ℕ) → Lacks x a → Lacks x b → Lacks x (a ++ b)
lacks_append x [] b p q = q
lacks_append x (c ∷ a) b p q = (p.0, lacks_append x a b p.1 q)

-- digits hold no byte that is none
digits_lack : (x : ℕ) (ds : List ℕ) → (x < 48) ⊎ (57 < x) → all_ascii_digits ds ≡ true → Lacks x ds
digits_lack x [] out a = tt
digits_lack x (c ∷ cs) out a =
    let p = and_parts (is_ascii_digit c) (all_ascii_digits cs) a in
    let q = and_parts (leb 48 c) (leb c 57) p.0 in
    (λ e. ⊎_elim (λ h. omega (arith, leb-true 48 c q.0)) (λ h. omega (arith, leb-true c 57 q.1)) out, digits_lack x cs out p.1)

pub decimal_lacks : (x n : ℕ) → (x < 48) ⊎ (57 < x) → n < 2 ^ 64 → Lacks x (decimal n)
decimal_lacks x n out h = digits_lack x (decimal n) out (digits_decimal (numerals_by_value _ tells_all_ascii_digits) n h)

pub cut_back : (x : ℕ) (v rest : List ℕ) → Lacks x v → cut x (v ++ x ∷ rest) ≡ Some (v, rest)
cut_back x [] rest l = cond-true _ _ _ (eq-eqb x x refl)
cut_back x (b ∷ v) rest l = cond-false _ _ _ (ne_eqb b x l.0) ∙ ap (λ o. bind o (prepend b)) (cut_back x v rest l.1)

pub cut_only : (x : ℕ) (bs : List ℕ) (p : List ℕ × List ℕ) → cut x bs ≡ Some p → bs ≡ p.0 ++ x ∷ p.1
cut_only x [] p e = absurd (none_some e)
cut_only x (b ∷ bs) p e =
    ⊎_elim
    (λ t.
    let is = eqb-true b x t in
    let f = some_same (sym (cond-true _ _ _ t) ∙ e) in
    subst (λ q. b ∷ bs ≡ q.0 ++ x ∷ q.1) f (ap (λ c. c ∷ bs) is))
    (λ t.
    let s = bind_some (cut x bs) (prepend b) p (sym (cond-false _ _ _ t) ∙ e) in
    subst (λ q. b ∷ bs ≡ q.0 ++ x ∷ q.1) (some_same s.2) (ap (λ l. b ∷ l) (cut_only x bs s.0 s.1)))
    (cases_Bool (eqb b x))

cut_none : (x : ℕ) (bs : List ℕ) → ((k : ℕ) → k < length bs → get_or bs k 0 ≡ x → ⊥) → cut x bs ≡ None
cut_none x [] none = refl
cut_none x (b ∷ bs) none =
    cond-false _ _ _ (ne_eqb b x (none 0 (omega arith))) ∙ ap (λ o. bind o (prepend b)) (cut_none x bs (λ k h. none (suc k) (omega arith)))

cut_at : (x : ℕ) (bs : List ℕ) (i : ℕ) → i < length bs → ((k : ℕ) → k < i → get_or bs k 0 ≡ x → ⊥) → get_or bs i 0 ≡ x → cut x bs ≡ Some (take i bs, drop (suc i) bs)
cut_at x [] i h none is = absurd (omega arith)
cut_at x (b ∷ bs) zero h none is = cond-true _ _ _ (eq-eqb b x is)
cut_at x (b ∷ bs) (suc i) h none is =
    cond-false _ _ _ (ne_eqb b x (none 0 (omega arith)))
    ∙ ap (λ o. bind o (prepend b)) (cut_at x bs i (omega arith) (λ k l. none (suc k) (omega arith)) is)

-- the cut, from what a search found
pub found_none : (x : ℕ) (bs : List ℕ) → Found x bs None → cut x bs ≡ None
found_none x bs f = cut_none x bs f

pub found_at : (x : ℕ) (bs : List ℕ) (i : ℕ) → Found x bs (Some i) → cut x bs ≡ Some (take i bs, drop (suc i) bs)
found_at x bs i f = cut_at x bs i f.0 f.2 f.1
