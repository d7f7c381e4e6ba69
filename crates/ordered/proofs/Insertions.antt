-- What an insertion answers. Assumes nothing.
use Rattle.std.proofs.Common.{◌≡◌, ℕ, ◌<◌, ◌≤◌, Bool, true, false, ltb, List, [], length, is_some, IfErr, None, Ok, Err, Result, Ordering, ap, ◌∙◌, ⊎_elim, arith}
use Rattle.std.proofs.lemmas.Bool.{cond-true, cond-false, lt-ltb, le-ltb, cases_lt, false≢true, true≢false}
use Rattle.answers.specs.Answer.{Answer, answered, refused, if_answered}
use Rattle.ordered.specs.declared.node.Node.{Node}
use Rattle.ordered.specs.declared.refusal.InsertRefusal.{InsertRefusal}
use Rattle.ordered.specs.declared.refusal.InsertRefusal.TheVariants.{KeyIsThere, NoRoom}
use Rattle.ordered.specs.Refusal.{answer, handed_back, room, insertion, Inserted}
use Rattle.ordered.specs.Row.{node_with, put}

abbrev is_answered : {A : Type 0} → Answer A → Bool
is_answered (answered a) = true
is_answered (refused number figures) = false

abbrev number : {A : Type 0} → Answer A → ℕ
number (answered a) = 0
number (refused n figures) = n

module _ {K V : Type 0} (order : K → K → Ordering) (capacity : ℕ) (ns : List (Node K V)) (key : K) where
  pub insertion_there : is_some (node_with order ns key) ≡ true → insertion order capacity ns key ≡ refused 94 []
  unfolding insertion
  insertion_there e = cond-true (is_some (node_with order ns key)) _ _ e

  pub insertion_new : node_with order ns key ≡ None → insertion order capacity ns key ≡ room capacity (length ns)
  unfolding insertion
  insertion_new e = cond-false (is_some (node_with order ns key)) _ _ (ap is_some e)

  pub insertion_full : node_with order ns key ≡ None → capacity ≤ length ns → insertion order capacity ns key ≡ refused 95 []
  insertion_full e full = insertion_new e ∙ cond-false (ltb (length ns) capacity) _ _ (le-ltb (length ns) capacity full)

  pub insertion_fits : node_with order ns key ≡ None → length ns < capacity → insertion order capacity ns key ≡ answered tt
  insertion_fits e fits = insertion_new e ∙ cond-true (ltb (length ns) capacity) _ _ (lt-ltb (length ns) capacity fits)

pub either_way : {A X : Type 0} (a : Answer A) (new old : X) (P : X → Type 0) → P new → P old → P (if_answered a new old)
either_way (answered a) new old P p q = p
either_way (refused number figures) new old P p q = q

-- ---- the same by cases

module _ {K V : Type 0} (order : K → K → Ordering) (capacity : ℕ) (node : Node K V) (before after : List (Node K V)) where
  -- of a key that is new, whatever the answer was
  pub inserted_new : node_with order before node.key ≡ None → (r : Result (Unit {0}) (InsertRefusal K V)) → answer r ≡ room capacity (length before) → IfErr r (λ refusal. handed_back refusal ≡ node) → after ≡ if_answered (room capacity (length before)) (put order node before) before → Inserted order capacity node before after r
  inserted_new none r a back e =
      ⊎_elim
      (λ (lt : length before < capacity).
      let fits : room capacity (length before) ≡ answered tt = cond-true (ltb (length before) capacity) _ _ (lt-ltb (length before) capacity lt) in
      done r lt (a ∙ fits) (e ∙ ap (λ (s : Answer (Unit {0})). if_answered s (put order node before) before) fits))
      (λ (ge : capacity ≤ length before).
      let full : room capacity (length before) ≡ refused 95 [] = cond-false (ltb (length before) capacity) _ _ (le-ltb (length before) capacity ge) in
      not_done r ge (a ∙ full) back (e ∙ ap (λ (s : Answer (Unit {0})). if_answered s (put order node before) before) full))
      (cases_lt (length before) capacity)
    where
      done : (r : Result (Unit {0}) (InsertRefusal K V)) → length before < capacity → answer r ≡ answered tt → after ≡ put order node before → Inserted order capacity node before after r
      done (Ok u) lt a e = record { new = none; fits = lt; nodes = e }
      done (Err refusal) lt a e = absurd (false≢true (ap is_answered a))

      not_done : (r : Result (Unit {0}) (InsertRefusal K V)) → capacity ≤ length before → answer r ≡ refused 95 [] → IfErr r (λ refusal. handed_back refusal ≡ node) → after ≡ before → Inserted order capacity node before after r
      not_done (Ok u) ge a back e = absurd (true≢false (ap is_answered a))
      not_done (Err (KeyIsThere n)) ge a back e = absurd (omega (arith, ap number a))
      not_done (Err (NoRoom n)) ge a back e = record { same = back; new = none; full = ge; nodes = e }
