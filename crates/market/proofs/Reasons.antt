-- Each command has the answer that its case asks for.
use Rattle.std.proofs.Common.{◌≡◌, ℕ, ◌+◌, ◌<◌, ◌≤◌, Bool, true, false, cond, not, leb, List, [], ◌∷◌, is_some, Some, filter, sym, refl, ap, ◌∙◌, ⊎_elim, arith}
use Rattle.std.proofs.lemmas.Bool.Decides.{nat_tests}
use Rattle.std.proofs.lemmas.Bool.{true≢false, leb-true, leb-false, or_cases}
use Rattle.fix.specs.declared.command.Side.{Side}
use Rattle.fix.specs.declared.command.Side.TheVariants.{Buy, Sell}
use Rattle.fix.specs.Command.{NewOrder, Cancel, new, cancel}
use Rattle.market.specs.declared.resting.Resting.{Resting}
use Rattle.market.specs.declared.entry.Event.TheVariants.{Cancelled}
use Rattle.market.specs.Market.{Level, Market, empty, other, levels, best_crosses, is_of, in_levels, known, all_resting, capacity}
use Rattle.market.specs.Put.{entry, out_of_levels, put_order, cancelled, put_cancel, after}
use Rattle.market.specs.Split.{Splits}
use Rattle.market.specs.Tally.{by_order, lots_at, times_at}
use Rattle.market.specs.Prices.{Allows, queue_at}
use Rattle.market.specs.Shape.{Sorted, Shape}
use Rattle.market.specs.Reasons.{Rests, OrderAnswer, Cancels, CancelAnswer, AlwaysForAReason}
use Rattle.market.proofs.Levels.{Prices, Clear, clear_false, allowed, prices_weaker, clear_all}
use Rattle.market.proofs.Leaves.{gone, lots_out, some_at, unknown, none_lots}
use Rattle.market.proofs.Queues.{queue_out, times_queue, kept_same, without_kept}
use Rattle.market.proofs.Sides.{one_levels, sum_of}
use Rattle.market.proofs.Cases.{order_cases, cancel_cases}
use Rattle.market.proofs.Shapes.{always_shaped}

rests_known : (member order : ℕ) (m : Market) → known member order m ≡ true → Rests member order m
rests_known member order m k =
    ⊎_elim (λ (x : is_some (in_levels member order m.buys) ≡ true). omega (arith, some_at member order m.buys x))
    (λ (x : is_some (in_levels member order m.sells) ≡ true). omega (arith, some_at member order m.sells x)) (or_cases _ _ k)

not_allowed : (side : Side) (limit price : ℕ) → Clear side limit price → Allows side limit price → ⊥
not_allowed Buy limit price c a = omega arith
not_allowed Sell limit price c a = omega arith

none_crosses : (side : Side) (limit : ℕ) (ls : List Level) → Sorted (other side) ls → best_crosses side limit ls ≡ false → Prices (λ p. Allows side limit p → ⊥) ls
none_crosses side limit [] s e = tt
none_crosses side limit (l ∷ ls) s e =
    prices_weaker (Clear side limit) (λ p. Allows side limit p → ⊥) (not_allowed side limit) (l ∷ ls) (clear_all side limit l ls s (clear_false side limit l.price e))

one_crosses : (side : Side) (limit : ℕ) (ls : List Level) → best_crosses side limit ls ≡ true → Prices (λ p. Allows side limit p → ⊥) ls → ⊥
one_crosses side limit [] e n = true≢false (sym e)
one_crosses side limit (l ∷ ls) e n = n.0 (allowed side limit l.price e)

module _ (split : ℕ → List ℕ → List ℕ) where
  order_answer : (o : NewOrder) (m : Market) → Shape m → OrderAnswer o m (put_order split o m)
  order_answer o m g =
      order_cases split o m (OrderAnswer o m)
      (λ k. let r = rests_known o.member o.order m k in
      record { duplicate = λ _. refl; full = λ no _ _. absurd (no r); otherwise = λ no _. absurd (no r) })
      (λ absent full b. record {
        duplicate = λ r. absurd (omega (arith, unknown o.member o.order m absent));
        full = λ _ _ _. refl;
        otherwise = λ _ no. absurd (no (omega (arith, leb-true capacity (all_resting m) full, g.few), none_crosses o.side o.price (levels (other o.side) m) (g.sorted (other o.side)) b));
      })
      (λ absent room. record {
        duplicate = λ r. absurd (omega (arith, unknown o.member o.order m absent));
        full = λ _ all none. absurd (⊎_elim (λ (x : leb capacity (all_resting m) ≡ false). omega (arith, leb-false capacity (all_resting m) x))
            (λ (x : best_crosses o.side o.price (levels (other o.side) m) ≡ true). one_crosses o.side o.price (levels (other o.side) m) x none) room);
        otherwise = λ _ _. refl;
      })

  module _ (c : Cancel) (m : Market) (g : Shape m) (side : Side) (r : Resting) (found : in_levels c.member c.order (levels side m) ≡ Some r) where
    facts : (0 < times_at c.member c.order (levels side m)) × (times_at c.member c.order (levels side m) + times_at c.member c.order (levels (other side) m) ≤ 1)
    facts = (some_at c.member c.order (levels side m) (ap is_some found), omega (arith, sum_of (times_at c.member c.order) side m, g.once c.member c.order))

    itself : by_order c.member c.order c.member c.order ≡ true
    itself = grind (arith, nat_tests)

    all_lots : r.lots ≡ lots_at (by_order c.member c.order) (levels side m)
    all_lots =
        let f = facts in
        let t : times_at c.member c.order (levels side m) ≤ 1 = omega arith in
        let away = gone c.member c.order (levels side m) t in
        omega (
          arith,
          lots_out c.member c.order (by_order c.member c.order) (levels side m) r t found,
          ap (λ (b : Bool). cond b r.lots 0) itself,
          none_lots c.member c.order (out_of_levels c.member c.order (levels side m)) away,
        )

    cancels : Cancels c side m (cancelled c side r m)
    cancels = record {
      told = ap (λ (n : ℕ). entry c.number c.member c.order (Cancelled side n) ∷ []) all_lots;
      removed = λ s price. one_levels (λ s ls. queue_at price ls ≡ filter (λ r. not (is_of c.member c.order r)) (queue_at price (levels s m))) side _ m
          (queue_out c.member c.order side price (levels side m) (g.sorted side)
          ∙ without_kept c.member c.order (queue_at price (levels side m)) (omega (arith, times_queue c.member c.order price (levels side m), facts)))
          (kept_same c.member c.order (queue_at price (levels (other side) m)) (omega (arith, times_queue c.member c.order price (levels (other side) m), facts))) s;
    }

    -- it rests on one side only
    cancels_on : (s : Side) → 0 < times_at c.member c.order (levels s m) → Cancels c s m (cancelled c side r m)
    cancels_on s h = go side s facts h cancels
      where
        go : (t s : Side) → (0 < times_at c.member c.order (levels t m)) × (times_at c.member c.order (levels t m) + times_at c.member c.order (levels (other t) m) ≤ 1)
            → 0 < times_at c.member c.order (levels s m) → Cancels c t m (cancelled c side r m) → Cancels c s m (cancelled c side r m)
        go Buy Buy f h k = k
        go Buy Sell f h k = absurd (omega arith)
        go Sell Buy f h k = absurd (omega arith)
        go Sell Sell f h k = k

  cancel_answer : (c : Cancel) (m : Market) → Shape m → CancelAnswer c m (put_cancel c m)
  cancel_answer c m g =
      cancel_cases c m (CancelAnswer c m)
      (λ side r found. record {
        found = cancels_on c m g side r found;
        unknown = λ no. absurd (no (omega (arith, facts c m g side r found, sum_of (times_at c.member c.order) side m)));
      })
      (λ absent. record {
        found = λ side h. absurd (omega (arith, unknown c.member c.order m absent, sum_of (times_at c.member c.order) side m));
        unknown = λ _. refl;
      })

  pub always_for_a_reason : Splits split → AlwaysForAReason split
  always_for_a_reason means cs (new o) = order_answer o (after split cs empty) (always_shaped split means cs)
  always_for_a_reason means cs (cancel c) = cancel_answer c (after split cs empty) (always_shaped split means cs)
