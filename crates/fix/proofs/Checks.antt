-- The count, the sum and the answer, by places.
use Rattle.std.proofs.Common.{◌≡◌, ℕ, ◌-◌, ◌<◌, ◌≤◌, cond, eqb, List, [], ◌∷◌, length, drop, refl, ap, ◌∙◌, subst, arith, length-drop}
use Rattle.answers.specs.Answer.{refused}
use Rattle.fields.specs.Row.{wrong, right}
use Rattle.std.proofs.lemmas.List.{drop_all}
use Rattle.fix.specs.Command.{Command, new, cancel}
use Rattle.fix.specs.declared.command.Side.{Side}
use Rattle.fix.specs.declared.command.Side.TheVariants.{Buy, Sell}
use Rattle.fix.specs.Message.{Form, form, side_number, values_of, command_of, checked, whole, parse, with_length, leading, parse_first}

side_back : (s : Side) → cond (eqb (side_number s) 1) Buy Sell ≡ s
side_back Buy = refl
side_back Sell = refl

-- a command is what its values say
pub command_back : (c : Command) → command_of (values_of c) ≡ c
command_back (new o) = ap (λ s. new (record { member = o.member; number = o.number; order = o.order; side = s; lots = o.lots; price = o.price })) (side_back o.side)
command_back (cancel o) = refl

place_is : (bs : List ℕ) (e : ℕ) → e ≤ length bs → length bs - length (drop e bs) ≡ e
place_is bs e k = simp length-drop (omega arith)

-- a reader that starts at 0 over bs
pub at_start : (F : List ℕ → ℕ → Type 0) (rb bs : List ℕ) (a : ℕ) → rb ≡ bs → a ≡ 0 → F rb a → F bs 0
at_start F rb bs a p q x = subst (λ l. F l 0) p (subst (F rb) q x)

module _ (bs : List ℕ) where
  pub parse_wrong : (p : ℕ) → p ≤ length bs → form bs ≡ wrong (drop p bs) → parse bs ≡ refused 11 (p ∷ [])
  unfolding parse
  parse_wrong p k e = ap (whole bs) e ∙ ap (λ n. refused 11 (n ∷ [])) (place_is bs p k)

  pub first_wrong : (p : ℕ) → p ≤ length bs → form bs ≡ wrong (drop p bs) → parse_first bs ≡ refused 11 (p ∷ [])
  unfolding parse_first
  first_wrong p k e = ap (leading bs) e ∙ ap (λ n. refused 11 (n ∷ [])) (place_is bs p k)

  module _ (f : Form) (z : ℕ) (is : form bs ≡ right f (drop z bs)) where
    more_than : (rest : List ℕ) → 0 < length rest → whole bs (right f rest) ≡ refused 11 ((length bs - length rest) ∷ [])
    more_than [] h = absurd (omega arith)
    more_than (b ∷ rest) h = refl

    pub parse_more : z < length bs → parse bs ≡ refused 11 (z ∷ [])
    unfolding parse
    parse_more h =
        let some : 0 < length (drop z bs) = simp length-drop (omega arith) in
        ap (whole bs) is ∙ more_than (drop z bs) some ∙ ap (λ n. refused 11 (n ∷ [])) (place_is bs z (omega arith))

    pub parse_all : length bs ≤ z → parse bs ≡ checked bs f
    unfolding parse
    parse_all h = ap (whole bs) is ∙ ap (λ l. whole bs (right f l)) (drop_all z bs h)

    pub first_formed : z ≤ length bs → parse_first bs ≡ with_length z (checked bs f)
    unfolding parse_first
    first_formed h = ap (leading bs) is ∙ ap (λ n. with_length n (checked bs f)) (place_is bs z h)
