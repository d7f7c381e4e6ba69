-- The values of a command's fields, both ways.
use Rattle.std.proofs.Common.{◌≡◌, ℕ, ◌^◌, ◌<◌, cond, eqb, List, [], ◌∷◌, get_or, drop, Some, decimal, sym, refl, ap, ◌∙◌, subst, ⊎_elim, arith}
use Rattle.std.proofs.lemmas.Bool.{cases_eq, eq-eqb, ne_eqb, cond-true, cond-false}
use Rattle.fields.specs.Numeral.{numeral}
use Rattle.fields.proofs.Numerals.{numeral_only, numeral_back}
use Rattle.fields.proofs.Rows.{Fit}
use Rattle.fix.specs.declared.command.Side.{Side}
use Rattle.fix.specs.declared.command.Side.TheVariants.{Buy, Sell}
use Rattle.fix.specs.declared.command.Command as code
use Rattle.fix.specs.declared.command.Command.TheVariants as cases
use Rattle.fix.specs.Command.{Command, new, cancel, Valid, figures}
use Rattle.fix.specs.Layout.{letter, kind, new_order_fields, cancel_fields, fields_of}
use Rattle.fix.specs.Message.{side_number, values_of, command_of}
use Rattle.fix.specs.Range.{Within}
use Rattle.fix.proofs.Shapes.{kind_is, letter_only}

pub side_in : (s : Side) → Within 2 (side_number s)
side_in Buy = (omega arith, omega arith)
side_in Sell = (omega arith, omega arith)

-- every command that the code can hold is in range
pub commands_are_valid : (c : code.Command) → Valid (figures c)
commands_are_valid (cases.New o) = (o.member_within, o.number_within, o.order_within, o.lots_within, o.price_within)
commands_are_valid (cases.Cancel o) = (o.member_within, o.number_within, o.order_within)

pub kind_of : (c : Command) → letter (get_or (values_of c) 0 0 ∷ []) ≡ Some (get_or (values_of c) 0 0)
kind_of (new o) = refl
kind_of (cancel o) = refl

fit : (high n : ℕ) → high < 2 ^ 64 → Within high n → numeral 1 high (decimal n) ≡ Some n
fit high n small w = numeral_back 1 high n w.0 w.0 w.1 small

-- a valid command's values fit its fields
pub fits : (c : Command) → Valid c → Fit (fields_of (get_or (values_of c) 0 0)) (drop 1 (values_of c))
fits (new o) v =
    (fit 9999 _ (omega arith) v.0, (fit 999999999 _ (omega arith) v.1, (fit 999999999 _ (omega arith) v.2, (fit 2 _ (omega arith) (side_in o.side), (fit 999999 _ (omega arith) v.3, (fit 999999 _ (omega arith) v.4, tt))))))
fits (cancel o) v = (fit 9999 _ (omega arith) v.0, (fit 999999999 _ (omega arith) v.1, (fit 999999999 _ (omega arith) v.2, tt)))

within : (high n : ℕ) → high < 2 ^ 64 → numeral 1 high (decimal n) ≡ Some n → Within high n
within high n small e = let r = numeral_only 1 high n (decimal n) small e in (r.1, r.2)

side_values : (d : ℕ) → Within 2 d → side_number (cond (eqb d 1) Buy Sell) ≡ d
side_values d w =
    ⊎_elim
    (λ e. ap side_number (cond-true _ _ _ (eq-eqb d 1 e)) ∙ sym e)
    (λ e. let two : 2 ≡ d = omega (arith, w.0, w.1) in ap side_number (cond-false _ _ _ (ne_eqb d 1 e)) ∙ two)
    (cases_eq d 1)

-- values that fit are those of a valid command
abbrev pub Back : List ℕ → Type 0
Back vs = (values_of (command_of vs) ≡ vs) × Valid (command_of vs)

new_order_back : (us : List ℕ) → Fit new_order_fields us → Back (68 ∷ us)
new_order_back [] f = absurd f
new_order_back (a ∷ []) f = absurd f.1
new_order_back (a ∷ b ∷ []) f = absurd f.1.1
new_order_back (a ∷ b ∷ c ∷ []) f = absurd f.1.1.1
new_order_back (a ∷ b ∷ c ∷ d ∷ []) f = absurd f.1.1.1.1
new_order_back (a ∷ b ∷ c ∷ d ∷ e ∷ []) f = absurd f.1.1.1.1.1
new_order_back (a ∷ b ∷ c ∷ d ∷ e ∷ p ∷ []) f = (
  ap (λ n. 68 ∷ a ∷ b ∷ c ∷ n ∷ e ∷ p ∷ []) (side_values d (within 2 d (omega arith) f.1.1.1.0)),
  (within 9999 a (omega arith) f.0, within 999999999 b (omega arith) f.1.0, within 999999999 c (omega arith) f.1.1.0, within 999999 e (omega arith) f.1.1.1.1.0, within 999999 p (omega arith) f.1.1.1.1.1.0),
)
new_order_back (a ∷ b ∷ c ∷ d ∷ e ∷ p ∷ x ∷ us) f = absurd f.1.1.1.1.1.1

cancel_back : (us : List ℕ) → Fit cancel_fields us → Back (70 ∷ us)
cancel_back [] f = absurd f
cancel_back (a ∷ []) f = absurd f.1
cancel_back (a ∷ b ∷ []) f = absurd f.1.1
cancel_back (a ∷ b ∷ c ∷ []) f = (refl, (within 9999 a (omega arith) f.0, within 999999999 b (omega arith) f.1.0, within 999999999 c (omega arith) f.1.1.0))
cancel_back (a ∷ b ∷ c ∷ d ∷ us) f = absurd f.1.1.1

pub values_back : (vs : List ℕ) → Fit (kind ∷ fields_of (get_or vs 0 0)) vs → Back vs
values_back [] f = absurd f
values_back (k ∷ us) f =
    let P : ℕ → Type 0 = λ n. Fit (fields_of n) us → Back (n ∷ us) in
    ⊎_elim
    (λ e. subst P (sym e) (new_order_back us) f.1)
    (λ e. subst P (sym e) (cancel_back us) f.1)
    (kind_is k (letter_only (k ∷ []) k f.0).1)
