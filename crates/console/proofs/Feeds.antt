-- A feed's next message, by what its first bytes say.
use Rattle.std.proofs.Common.{◌≡◌, ℕ, ◌+◌, ◌<◌, true, cond, eqb, List, [], length, Some, None, Option, sym, refl, ap, ◌∙◌, ⊎_elim, add-zero, arith}
use Rattle.answers.specs.Answer.{Answer, answered, refused}
use Rattle.fix.specs.Command.{Command}
use Rattle.fix.specs.Message.{parse_first}
use Rattle.fix.proofs.Whole.{first_of_nothing, first_takes}
use Rattle.std.proofs.lemmas.Bool.{cases_Bool, eqb-true, eqb-false, cond-true, cond-false}
use Rattle.std.proofs.lemmas.List.{nil_from_length}
use Rattle.console.specs.Feed.{located, bytes_taken, messages_taken}

abbrev Next : ℕ → ℕ → List ℕ → Option (Answer Command)
Next at count l = cond (eqb (length l) 0) None (Some (located at count (parse_first l)))

-- m are the bytes as the code cut them, and l those that are left
module _ (at count : ℕ) (l m : List ℕ) (same : m ≡ l) (none : eqb (length m) 0 ≡ true) where
  nothing : l ≡ []
  nothing = sym same ∙ nil_from_length m (eqb-true _ _ none)

  pub none_answer : None ≡ Next at count l
  none_answer = sym (cond-true _ _ _ (ap (λ x. eqb (length x) 0) (sym same) ∙ none))

  pub none_place : at ≡ at + bytes_taken (parse_first l)
  none_place = sym (ap (λ x. at + bytes_taken (parse_first x)) nothing ∙ ap (λ a. at + bytes_taken a) first_of_nothing ∙ add-zero at)

  pub none_taken : count ≡ count + messages_taken (parse_first l)
  none_taken = sym (ap (λ x. count + messages_taken (parse_first x)) nothing ∙ ap (λ a. count + messages_taken a) first_of_nothing ∙ add-zero count)

-- a command that was taken took a byte
takes : (l : List ℕ) (at count : ℕ) (c : Command) (a : Answer (Command × ℕ)) → parse_first l ≡ a → answered c ≡ located at count a → 0 < bytes_taken a
takes l at count c (answered r) is e = let t = first_takes l r.0 r.1 is in omega (arith, t.0)
takes l at count c (refused number figures) is e = let z : ◌≡◌ {A = ℕ} 0 1 = cc in absurd (omega arith)

pub command_takes : (at count : ℕ) (l : List ℕ) (c : Command) → Some (answered c) ≡ Next at count l → (0 < length l) × (0 < bytes_taken (parse_first l))
command_takes at count l c e =
    ⊎_elim
    (λ none. let z : Some (answered c) ≡ None = e ∙ cond-true _ _ _ none in let o : ◌≡◌ {A = ℕ} 0 1 = cc in absurd (omega arith))
    (λ some. let z : Some (answered c) ≡ Some (located at count (parse_first l)) = e ∙ cond-false _ _ _ some in (omega (arith, eqb-false _ _ some), takes l at count c (parse_first l) refl cc))
    (cases_Bool (eqb (length l) 0))
