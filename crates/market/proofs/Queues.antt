-- The queue at a price.
use Rattle.std.proofs.Common.{◌≡◌, ℕ, ◌≤◌, Bool, true, false, cond, not, eqb, List, [], ◌∷◌, ◌++◌, filter, sym, refl, ap, ◌∙◌, arith}
use Rattle.std.proofs.lemmas.Bool.Decides.{nat_tests}
use Rattle.std.proofs.lemmas.Bool.{eqb-true, ne_eqb, cond-false, cond_both}
use Rattle.fix.specs.declared.command.Side.{Side}
use Rattle.market.specs.declared.resting.Resting.{Resting}
use Rattle.market.specs.Market.{Level, is_of}
use Rattle.market.specs.Put.{kept, joins, out_of_queue, out_of_levels}
use Rattle.market.specs.Tally.{times_in, times_at}
use Rattle.market.specs.Prices.{Better, queue_at}
use Rattle.market.specs.Shape.{Sorted}
use Rattle.market.proofs.Levels.{Prices, better_true, better_differs, better_trans, prices_weaker}
use Rattle.market.proofs.Joins.{joins_cases}
use Rattle.market.proofs.Leaves.{prices_out}

-- a price behind which all others stand is no other's
not_at : (side : Side) (p q : ℕ) → Better side p q → eqb q p ≡ false
not_at side p q b = ne_eqb q p (λ e. better_differs side p q b (sym e))

absent : (side : Side) (p : ℕ) (ls : List Level) → Prices (Better side p) ls → queue_at p ls ≡ []
absent side p [] e = refl
absent side p (l ∷ ls) e = cond-false (eqb l.price p) _ _ (not_at side p l.price e.0) ∙ absent side p ls e.1

pub queue_kept : (side : Side) (p price : ℕ) (rs : List Resting) (ls : List Level) → Prices (Better side price) ls → queue_at p (kept price rs ls) ≡ cond (eqb price p) rs (queue_at p ls)
queue_kept side p price [] ls e = go (eqb price p) refl
  where
    go : (b : Bool) → eqb price p ≡ b → queue_at p ls ≡ cond b [] (queue_at p ls)
    go true x = ap (λ (q : ℕ). queue_at q ls) (sym (eqb-true price p x)) ∙ absent side price ls e
    go false x = refl
queue_kept side p price (r ∷ rs) ls e = refl

pub queue_joins : (side : Side) (p price : ℕ) (r : Resting) (ls : List Level) → Sorted side ls → queue_at p (joins side price r ls) ≡ cond (eqb price p) (queue_at p ls ++ (r ∷ [])) (queue_at p ls)
queue_joins side p price r [] s = refl
queue_joins side p price r (l ∷ ls) s =
    joins_cases side price r (λ x. queue_at p x ≡ cond (eqb price p) (queue_at p (l ∷ ls) ++ (r ∷ [])) (queue_at p (l ∷ ls))) l ls
    (λ b. let h = queue_joins side p price r ls s.1 in let d = better_differs side l.price price (better_true side l.price price b) in grind (arith, nat_tests))
    (λ b. let t = better_true side price l.price b in
    first (eqb price p) refl
    (absent side price (l ∷ ls) (t, prices_weaker (Better side l.price) (Better side price) (λ q. better_trans side price l.price q t) ls s.0)))
    (λ e. grind (arith, nat_tests))
  where
    first : (x : Bool) → eqb price p ≡ x → queue_at price (l ∷ ls) ≡ [] → cond x (r ∷ []) (queue_at p (l ∷ ls)) ≡ cond x (queue_at p (l ∷ ls) ++ (r ∷ [])) (queue_at p (l ∷ ls))
    first true x n = ap (λ (xs : List Resting). xs ++ (r ∷ [])) (sym (ap (λ (k : ℕ). queue_at k (l ∷ ls)) (sym (eqb-true price p x)) ∙ n))
    first false x n = refl

module _ (m o : ℕ) where
  pub queue_out : (side : Side) (p : ℕ) (ls : List Level) → Sorted side ls → queue_at p (out_of_levels m o ls) ≡ out_of_queue m o (queue_at p ls)
  queue_out side p [] s = refl
  queue_out side p (l ∷ ls) s =
      queue_kept side p l.price (out_of_queue m o l.queue) (out_of_levels m o ls) (prices_out m o (Better side l.price) ls s.0)
      ∙ go (eqb l.price p) (queue_out side p ls s.1)
    where
      go : (b : Bool) → queue_at p (out_of_levels m o ls) ≡ out_of_queue m o (queue_at p ls)
          → cond b (out_of_queue m o l.queue) (queue_at p (out_of_levels m o ls)) ≡ out_of_queue m o (cond b l.queue (queue_at p ls))
      go true h = refl
      go false h = h

  pub times_queue : (p : ℕ) (ls : List Level) → times_in m o (queue_at p ls) ≤ times_at m o ls
  times_queue p [] = omega arith
  times_queue p (l ∷ ls) = cond_both (eqb l.price p) _ _ (λ (rs : List Resting). times_in m o rs ≤ times_at m o (l ∷ ls)) (λ _. omega arith) (λ _. omega (arith, times_queue p ls))

  -- an order that rests once, left out
  pub kept_same : (rs : List Resting) → times_in m o rs ≡ 0 → rs ≡ filter (λ r. not (is_of m o r)) rs
  kept_same [] t = refl
  kept_same (r ∷ rs) t = let h = kept_same rs in grind (arith, nat_tests)

  pub without_kept : (rs : List Resting) → times_in m o rs ≤ 1 → out_of_queue m o rs ≡ filter (λ r. not (is_of m o r)) rs
  without_kept [] t = refl
  without_kept (r ∷ rs) t = let h = without_kept rs in let k = kept_same rs in grind (arith, nat_tests)
