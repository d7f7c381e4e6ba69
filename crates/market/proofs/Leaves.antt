-- An order leaves the levels of its side.
use Rattle.std.proofs.Common.{◌≡◌, ℕ, ◌+◌, ◌<◌, ◌≤◌, Bool, true, false, cond, List, [], ◌∷◌, length, is_some, Some, None, Option, sym, refl, ap, ◌∙◌, arith}
use Rattle.std.specs.List.{AllByRecursion}
use Rattle.std.proofs.lemmas.Bool.Decides.{nat_tests}
use Rattle.std.proofs.lemmas.Bool.{true≢false, or_parts, cond_both}
use Rattle.fix.specs.declared.command.Side.{Side}
use Rattle.market.specs.declared.resting.Resting.{Resting}
use Rattle.market.specs.Market.{Level, Market, is_of, in_queue, or_else, in_levels, known, resting}
use Rattle.market.specs.Put.{out_of_queue, out_of_levels}
use Rattle.market.specs.Tally.{by_order, lots_in, lots_at, times_in, times_at, times}
use Rattle.market.specs.Prices.{Better}
use Rattle.market.specs.Shape.{Sorted, HasLots, Occupied}
use Rattle.market.proofs.Levels.{Prices, all_kept, sorted_kept, lots_kept, times_kept, resting_kept}

module _ (m o : ℕ) where
  none_times : (rs : List Resting) → in_queue m o rs ≡ None → times_in m o rs ≡ 0
  none_times [] e = refl
  none_times (r ∷ rs) e = let h = none_times rs in grind (arith, nat_tests)

  some_times : (rs : List Resting) (x : Resting) → in_queue m o rs ≡ Some x → 0 < times_in m o rs
  some_times [] x e = grind arith
  some_times (r ∷ rs) x e = let h = some_times rs x in grind (arith, nat_tests)

  -- a queue without it
  same_without : (rs : List Resting) → times_in m o rs ≡ 0 → out_of_queue m o rs ≡ rs
  same_without [] e = refl
  same_without (r ∷ rs) e = let h = same_without rs in grind (arith, nat_tests)

  lots_without : (who : ℕ → ℕ → Bool) (rs : List Resting) (x : Resting) → in_queue m o rs ≡ Some x
      → lots_in who rs ≡ cond (who m o) x.lots 0 + lots_in who (out_of_queue m o rs)
  lots_without who [] x e = grind arith
  lots_without who (r ∷ rs) x e = let h = lots_without who rs x in grind (arith, nat_tests)

  times_without : (member order : ℕ) (rs : List Resting) → times_in member order (out_of_queue m o rs) ≤ times_in member order rs
  times_without member order [] = omega arith
  times_without member order (r ∷ rs) = let h = times_without member order rs in grind (arith, nat_tests)

  length_without : (rs : List Resting) → length (out_of_queue m o rs) ≤ length rs
  length_without [] = omega arith
  length_without (r ∷ rs) = let h = length_without rs in grind (arith, nat_tests)

  pub all_without : (P : Resting → Type 0) (rs : List Resting) → AllByRecursion P rs → AllByRecursion P (out_of_queue m o rs)
  all_without P [] p = tt
  all_without P (r ∷ rs) p = cond_both (is_of m o r) _ _ (AllByRecursion P) (λ _. p.1) (λ _. (p.0, all_without P rs p.1))

  gone_without : (rs : List Resting) → times_in m o rs ≤ 1 → times_in m o (out_of_queue m o rs) ≡ 0
  gone_without [] t = refl
  gone_without (r ∷ rs) t = let h = gone_without rs in grind (arith, nat_tests)

  -- levels without it
  pub prices_out : (P : ℕ → Type 0) (ls : List Level) → Prices P ls → Prices P (out_of_levels m o ls)
  prices_out P [] e = tt
  prices_out P (l ∷ ls) e = all_kept (λ l. P l.price) l.price (out_of_queue m o l.queue) (out_of_levels m o ls) (λ _. e.0) (prices_out P ls e.1)

  pub sorted_out : (side : Side) (ls : List Level) → Sorted side ls → Sorted side (out_of_levels m o ls)
  sorted_out side [] s = tt
  sorted_out side (l ∷ ls) s =
      sorted_kept side l.price (out_of_queue m o l.queue) (out_of_levels m o ls) (prices_out (Better side l.price) ls s.0) (sorted_out side ls s.1)

  pub occupied_out : (ls : List Level) → AllByRecursion Occupied ls → AllByRecursion Occupied (out_of_levels m o ls)
  occupied_out [] w = tt
  occupied_out (l ∷ ls) w =
      all_kept Occupied l.price (out_of_queue m o l.queue) (out_of_levels m o ls) (λ h. (h, all_without HasLots l.queue w.0.1)) (occupied_out ls w.1)

  pub times_out : (member order : ℕ) (ls : List Level) → times_at member order (out_of_levels m o ls) ≤ times_at member order ls
  times_out member order [] = omega arith
  times_out member order (l ∷ ls) =
      omega (arith, times_out member order ls, times_kept member order l.price (out_of_queue m o l.queue) (out_of_levels m o ls), times_without member order l.queue)

  pub resting_out : (ls : List Level) → resting (out_of_levels m o ls) ≤ resting ls
  resting_out [] = omega arith
  resting_out (l ∷ ls) = omega (arith, resting_out ls, resting_kept l.price (out_of_queue m o l.queue) (out_of_levels m o ls), length_without l.queue)

  pub gone : (ls : List Level) → times_at m o ls ≤ 1 → times_at m o (out_of_levels m o ls) ≡ 0
  gone [] t = refl
  gone (l ∷ ls) t =
      omega (arith, gone ls (omega arith), gone_without l.queue (omega arith), times_kept m o l.price (out_of_queue m o l.queue) (out_of_levels m o ls))

  lots_out_none : (who : ℕ → ℕ → Bool) (ls : List Level) → times_at m o ls ≡ 0 → lots_at who (out_of_levels m o ls) ≡ lots_at who ls
  lots_out_none who [] e = refl
  lots_out_none who (l ∷ ls) e =
      omega (
        arith,
        lots_out_none who ls (omega arith),
        lots_kept who l.price (out_of_queue m o l.queue) (out_of_levels m o ls),
        ap (lots_in who) (same_without l.queue (omega arith)),
      )

  -- what leaves is the order that was found, where it rests once
  pub lots_out : (who : ℕ → ℕ → Bool) (ls : List Level) (x : Resting) → times_at m o ls ≤ 1 → in_levels m o ls ≡ Some x
      → lots_at who ls ≡ cond (who m o) x.lots 0 + lots_at who (out_of_levels m o ls)
  lots_out who [] x t e = grind arith
  lots_out who (l ∷ ls) x t e = go (in_queue m o l.queue) refl e (lots_out who ls x)
    where
      k : lots_at who (out_of_levels m o (l ∷ ls)) ≡ lots_in who (out_of_queue m o l.queue) + lots_at who (out_of_levels m o ls)
      k = lots_kept who l.price (out_of_queue m o l.queue) (out_of_levels m o ls)

      go : (q : Option Resting) → in_queue m o l.queue ≡ q → or_else q (in_levels m o ls) ≡ Some x
          → (times_at m o ls ≤ 1 → in_levels m o ls ≡ Some x → lots_at who ls ≡ cond (who m o) x.lots 0 + lots_at who (out_of_levels m o ls))
          → lots_at who (l ∷ ls) ≡ cond (who m o) x.lots 0 + lots_at who (out_of_levels m o (l ∷ ls))
      go None q e h = omega (arith, k, h (omega arith) e, ap (lots_in who) (same_without l.queue (none_times l.queue q)))
      go (Some y) q e h =
          let f = some_times l.queue y q in
          omega (arith, k, lots_without who l.queue x (q ∙ e), lots_out_none who ls (omega arith))

  -- whether it rests, by the look-up and by the count
  pub none_at : (ls : List Level) → is_some (in_levels m o ls) ≡ false → times_at m o ls ≡ 0
  none_at [] e = refl
  none_at (l ∷ ls) e = go (in_queue m o l.queue) refl e (none_at ls)
    where
      go : (q : Option Resting) → in_queue m o l.queue ≡ q → is_some (or_else q (in_levels m o ls)) ≡ false
          → (is_some (in_levels m o ls) ≡ false → times_at m o ls ≡ 0) → times_at m o (l ∷ ls) ≡ 0
      go None q e h = omega (arith, none_times l.queue q, h e)
      go (Some y) q e h = absurd (true≢false e)

  pub some_at : (ls : List Level) → is_some (in_levels m o ls) ≡ true → 0 < times_at m o ls
  some_at [] e = absurd (true≢false (sym e))
  some_at (l ∷ ls) e = go (in_queue m o l.queue) refl e (some_at ls)
    where
      go : (q : Option Resting) → in_queue m o l.queue ≡ q → is_some (or_else q (in_levels m o ls)) ≡ true
          → (is_some (in_levels m o ls) ≡ true → 0 < times_at m o ls) → 0 < times_at m o (l ∷ ls)
      go None q e h = omega (arith, h e)
      go (Some y) q e h = omega (arith, some_times l.queue y q)

  pub unknown : (k : Market) → known m o k ≡ false → times m o k ≡ 0
  unknown k e =
      let x = or_parts (is_some (in_levels m o k.buys)) (is_some (in_levels m o k.sells)) e in
      omega (arith, none_at k.buys x.0, none_at k.sells x.1)

  -- what does not rest has no lots that rest
  pub none_in : (rs : List Resting) → times_in m o rs ≡ 0 → lots_in (by_order m o) rs ≡ 0
  none_in [] t = refl
  none_in (r ∷ rs) t = let h = none_in rs in grind (arith, nat_tests)

  pub none_lots : (ls : List Level) → times_at m o ls ≡ 0 → lots_at (by_order m o) ls ≡ 0
  none_lots [] t = refl
  none_lots (l ∷ ls) t = omega (arith, none_lots ls (omega arith), none_in l.queue (omega arith))
