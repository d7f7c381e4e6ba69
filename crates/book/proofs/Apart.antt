-- The levels of a side have prices of their own, and something rests at each.
use Rattle.std.proofs.Common.{◌≡◌, ℕ, ◌+◌, ◌<◌, ◌≤◌, Bool, true, false, cond, eqb, List, [], ◌∷◌, length, Some, None, Option, sym, refl, ap, ◌∙◌, ⊎_elim, arith}
use Rattle.std.proofs.lemmas.Bool.{cases_Bool, cond-true, cond-false, eqb-true, eqb-false, eq-eqb, ne_eqb}
use Rattle.fix.specs.declared.command.Side.{Side}
use Rattle.ordered.specs.declared.key.order_id.OrderId.{OrderId}
use Rattle.market.specs.declared.resting.Resting.{Resting}
use Rattle.market.specs.Market.{Level, is_of, in_queue, in_levels, or_else}
use Rattle.market.specs.Put.{kept, out_of_queue, out_of_levels}
use Rattle.market.specs.Prices.{Better, queue_at}
use Rattle.market.specs.Shape.{Sorted}
use Rattle.market.proofs.Levels.{better_differs}
use Rattle.side.specs.Queues.{out_at}
use Rattle.side.specs.Row.{standing}
use Rattle.side.specs.Shape.{Shaped}
use Rattle.side.proofs.Removals.{kept_some}
use Rattle.side.proofs.Ladder.{stands_some, standing_head, standing_tail}
use Rattle.std.specs.List.{AllByRecursion}
use Rattle.book.specs.Place.{occurs, held}

abbrev pub NoneAt : ℕ → List Level → Type 0
NoneAt price [] = Unit {0}
NoneAt price (l ∷ ls) = (l.price ≡ price → ⊥) × NoneAt price ls

abbrev pub Apart : List Level → Type 0
Apart [] = Unit {0}
Apart (l ∷ ls) = (0 < length l.queue) × NoneAt l.price ls × Apart ls

none_worse : (s : Side) (p : ℕ) (ls : List Level) → AllByRecursion (λ (worse : Level). Better s p worse.price) ls → NoneAt p ls
none_worse s p [] w = tt
none_worse s p (l ∷ ls) w = (λ e. better_differs s p l.price w.0 (sym e), none_worse s p ls w.1)

pub shaped_apart : (s : Side) (ls : List Level) → Shaped s ls → Apart ls
shaped_apart s ls h = by ls h.sorted h.stand
  where
    by : (ls : List Level) → Sorted s ls → standing ls ≡ true → Apart ls
    by [] o t = tt
    by (l ∷ ls) o t = (stands_some l (standing_head l ls t), none_worse s l.price ls o.0, by ls o.1 (standing_tail l ls t))

-- ---- an order that does not occur

none_here : (b : Bool) (n : ℕ) → cond b 1 0 + n ≡ 0 → b ≡ false
none_here true n e = absurd (omega arith)
none_here false n e = refl

pub in_none : (k : OrderId) (q : List Resting) → occurs k q ≡ 0 → in_queue k.member k.order q ≡ None
in_none k [] z = refl
in_none k (r ∷ q) z =
    cond-false (is_of k.member k.order r) _ _ (none_here (is_of k.member k.order r) (occurs k q) z) ∙ in_none k q (omega arith)

pub out_none : (k : OrderId) (q : List Resting) → occurs k q ≡ 0 → out_of_queue k.member k.order q ≡ q
out_none k [] z = refl
out_none k (r ∷ q) z =
    cond-false (is_of k.member k.order r) _ _ (none_here (is_of k.member k.order r) (occurs k q) z) ∙ ap (λ rs. r ∷ rs) (out_none k q (omega arith))

pub in_some : (k : OrderId) (q : List Resting) → 0 < occurs k q → (r : Resting) × (in_queue k.member k.order q ≡ Some r)
in_some k [] h = absurd (omega arith)
in_some k (r ∷ q) h = by (in_some k q)
  where
    by : (0 < occurs k q → (x : Resting) × (in_queue k.member k.order q ≡ Some x)) → (x : Resting) × (in_queue k.member k.order (r ∷ q) ≡ Some x)
    by more = ⊎_elim
        (λ (t : is_of k.member k.order r ≡ true). (r, cond-true (is_of k.member k.order r) _ _ t))
        (λ (f : is_of k.member k.order r ≡ false).
        let none : ◌≡◌ {A = ℕ} (cond (is_of k.member k.order r) 1 0) 0 = cond-false (is_of k.member k.order r) 1 0 f in
        let x = more (omega arith) in
        (x.0, cond-false (is_of k.member k.order r) _ _ f ∙ x.1))
        (cases_Bool (is_of k.member k.order r))

-- ---- an order that rests at one price alone

none_held : (k : OrderId) (p : ℕ) (ls : List Level) → NoneAt p ls → held k p ls ≡ 0
none_held k p [] n = refl
none_held k p (l ∷ ls) n =
    let off : cond (eqb l.price p) (occurs k l.queue) 0 ≡ 0 = cond-false (eqb l.price p) (occurs k l.queue) 0 (ne_eqb l.price p n.0) in
    omega (arith, none_held k p ls n.1)

pub held_queue : (k : OrderId) (p : ℕ) (ls : List Level) → Apart ls → held k p ls ≡ occurs k (queue_at p ls)
held_queue k p [] a = refl
held_queue k p (l ∷ ls) a = by (held_queue k p ls a.2)
  where
    by : held k p ls ≡ occurs k (queue_at p ls) → held k p (l ∷ ls) ≡ occurs k (queue_at p (l ∷ ls))
    by more = ⊎_elim
        (λ (t : eqb l.price p ≡ true).
        let at = eqb-true l.price p t in
        let here : cond (eqb l.price p) (occurs k l.queue) 0 ≡ occurs k l.queue = cond-true (eqb l.price p) (occurs k l.queue) 0 t in
        let found : occurs k (queue_at p (l ∷ ls)) ≡ occurs k l.queue = ap (occurs k) (cond-true (eqb l.price p) l.queue (queue_at p ls) t) in
        let rest : held k p ls ≡ 0 = ap (λ n. held k n ls) (sym at) ∙ none_held k l.price ls a.1 in
        omega arith)
        (λ (f : eqb l.price p ≡ false).
        let off : cond (eqb l.price p) (occurs k l.queue) 0 ≡ 0 = cond-false (eqb l.price p) (occurs k l.queue) 0 f in
        let later : occurs k (queue_at p (l ∷ ls)) ≡ occurs k (queue_at p ls) = ap (occurs k) (cond-false (eqb l.price p) l.queue (queue_at p ls) f) in
        omega arith)
        (cases_Bool (eqb l.price p))

-- the first level's own count
own : (k : OrderId) (l : Level) (ls : List Level) → occurs k l.queue ≤ held k l.price (l ∷ ls)
own k l ls =
    let here : cond (eqb l.price l.price) (occurs k l.queue) 0 ≡ occurs k l.queue = cond-true (eqb l.price l.price) (occurs k l.queue) 0 (eq-eqb l.price l.price refl) in
    omega arith

later_zero : (k : OrderId) (p : ℕ) (l : Level) (ls : List Level) → held k p (l ∷ ls) ≡ 0 → held k p ls ≡ 0
later_zero k p l ls z = omega arith

-- an order that rests nowhere
pub in_levels_none : (k : OrderId) (ls : List Level) → ((p : ℕ) → held k p ls ≡ 0) → in_levels k.member k.order ls ≡ None
in_levels_none k [] z = refl
in_levels_none k (l ∷ ls) z =
    ap (λ o. or_else o (in_levels k.member k.order ls)) (in_none k l.queue (omega (arith, z l.price, own k l ls)))
    ∙ in_levels_none k ls (λ p. later_zero k p l ls (z p))

pub out_levels_none : (k : OrderId) (ls : List Level) → Apart ls → ((p : ℕ) → held k p ls ≡ 0) → out_of_levels k.member k.order ls ≡ ls
out_levels_none k [] a z = refl
out_levels_none k (l ∷ ls) a z =
    ap (λ q. kept l.price q (out_of_levels k.member k.order ls)) (out_none k l.queue (omega (arith, z l.price, own k l ls)))
    ∙ ap (kept l.price l.queue) (out_levels_none k ls a.2 (λ p. later_zero k p l ls (z p)))
    ∙ kept_some l.price l.queue ls a.0

or_none : (o : Option Resting) → or_else o None ≡ o
or_none None = refl
or_none (Some r) = refl

module _ (k : OrderId) (p : ℕ) where
  pub in_levels_at : (ls : List Level) → Apart ls → ((n : ℕ) → (n ≡ p → ⊥) → held k n ls ≡ 0) → in_levels k.member k.order ls ≡ in_queue k.member k.order (queue_at p ls)
  in_levels_at [] a z = refl
  in_levels_at (l ∷ ls) a z = by (in_levels_at ls a.2 (λ n ne. later_zero k n l ls (z n ne)))
    where
      by : in_levels k.member k.order ls ≡ in_queue k.member k.order (queue_at p ls) → in_levels k.member k.order (l ∷ ls) ≡ in_queue k.member k.order (queue_at p (l ∷ ls))
      by more = ⊎_elim
          (λ (t : eqb l.price p ≡ true).
          let at = eqb-true l.price p t in
          let rest : (n : ℕ) → held k n ls ≡ 0 = λ n. ⊎_elim
          (λ (e : eqb n p ≡ true). ap (λ m. held k m ls) (eqb-true n p e ∙ sym at) ∙ none_held k l.price ls a.1)
          (λ (e : eqb n p ≡ false). later_zero k n l ls (z n (eqb-false n p e)))
          (cases_Bool (eqb n p)) in
          ap (or_else (in_queue k.member k.order l.queue)) (in_levels_none k ls rest)
          ∙ or_none (in_queue k.member k.order l.queue)
          ∙ sym (ap (in_queue k.member k.order) (cond-true (eqb l.price p) l.queue (queue_at p ls) t)))
          (λ (f : eqb l.price p ≡ false).
          ap (λ o. or_else o (in_levels k.member k.order ls)) (in_none k l.queue (omega (arith, z l.price (eqb-false l.price p f), own k l ls)))
          ∙ more
          ∙ sym (ap (in_queue k.member k.order) (cond-false (eqb l.price p) l.queue (queue_at p ls) f)))
          (cases_Bool (eqb l.price p))

  pub out_levels_at : (ls : List Level) → Apart ls → ((n : ℕ) → (n ≡ p → ⊥) → held k n ls ≡ 0) → out_at p k.member k.order ls ≡ out_of_levels k.member k.order ls
  out_levels_at [] a z = refl
  out_levels_at (l ∷ ls) a z = by (out_levels_at ls a.2 (λ n ne. later_zero k n l ls (z n ne)))
    where
      by : out_at p k.member k.order ls ≡ out_of_levels k.member k.order ls → out_at p k.member k.order (l ∷ ls) ≡ out_of_levels k.member k.order (l ∷ ls)
      by more = ⊎_elim
          (λ (t : eqb l.price p ≡ true).
          let at = eqb-true l.price p t in
          let rest : (n : ℕ) → held k n ls ≡ 0 = λ n. ⊎_elim
          (λ (e : eqb n p ≡ true). ap (λ m. held k m ls) (eqb-true n p e ∙ sym at) ∙ none_held k l.price ls a.1)
          (λ (e : eqb n p ≡ false). later_zero k n l ls (z n (eqb-false n p e)))
          (cases_Bool (eqb n p)) in
          cond-true (eqb l.price p) _ _ t ∙ ap (kept l.price (out_of_queue k.member k.order l.queue)) (sym (out_levels_none k ls a.2 rest)))
          (λ (f : eqb l.price p ≡ false).
          cond-false (eqb l.price p) _ _ f
          ∙ ap (λ xs. l ∷ xs) more
          ∙ sym (ap (λ q. kept l.price q (out_of_levels k.member k.order ls)) (out_none k l.queue (omega (arith, z l.price (eqb-false l.price p f), own k l ls))) ∙ kept_some l.price l.queue (out_of_levels k.member k.order ls) a.0))
          (cases_Bool (eqb l.price p))
