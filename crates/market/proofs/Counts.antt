-- Two entries at most for each order that rests.
use Rattle.std.proofs.Common.{ℕ, zero, suc, ◌+◌, ◌-◌, ◌*◌, ◌≤◌, List, [], ◌∷◌, length, arith, length-append}
use Rattle.fix.specs.Command.{NewOrder, Command, new, cancel}
use Rattle.market.specs.declared.resting.Resting.{Resting}
use Rattle.market.specs.Market.{Level, Market, empty, other, levels, resting, all_resting, total}
use Rattle.market.specs.Put.{of_fills, meets, put, after}
use Rattle.market.specs.Split.{Splits}
use Rattle.market.specs.Count.{FewEntries}
use Rattle.market.proofs.Meets.{meets_all}
use Rattle.market.proofs.Sides.{sum_of}
use Rattle.market.proofs.Cases.{order_cases, cancel_cases}
use Rattle.market.proofs.Shapes.{always_shaped}

length_fills : (o : NewOrder) (price left : ℕ) (fs : List ℕ) (rs : List Resting) → length (of_fills o price left fs rs) ≤ 2 * length rs
length_fills o price left [] rs = omega arith
length_fills o price left (f ∷ fs) [] = omega arith
length_fills o price left (zero ∷ fs) (r ∷ rs) = omega (arith, length_fills o price (left - zero) fs rs)
length_fills o price left (suc f ∷ fs) (r ∷ rs) = omega (arith, length_fills o price (left - suc f) fs rs)

module _ (split : ℕ → List ℕ → List ℕ) (means : Splits split) where
  length_meets : (o : NewOrder) (left : ℕ) (ls : List Level) → length (meets split o left ls).entries ≤ 2 * resting ls
  length_meets o = meets_all split means o (λ left ls met. length met.entries ≤ 2 * resting ls) (λ left. omega arith) (λ ls. omega arith) (λ left l ls e. omega arith)
      (λ left l ls fs e f h.
      omega (arith, length_fills o l.price left fs l.queue, length-append (of_fills o l.price left fs l.queue) (meets split o (left - total fs) ls).entries))

  by_resting : (c : Command) (m : Market) → length (put split c m).entries ≤ 1 + 2 * all_resting m
  by_resting (new o) m =
      order_cases split o m (λ out. length out.entries ≤ 1 + 2 * all_resting m) (λ _. omega arith) (λ _ _ _. omega arith)
      (λ _ _. omega (arith, length_meets o o.lots (levels (other o.side) m), sum_of resting o.side m))
  by_resting (cancel c) m = cancel_cases c m (λ out. length out.entries ≤ 1 + 2 * all_resting m) (λ _ _ _. omega arith) (λ _. omega arith)

  pub few_entries : FewEntries split
  few_entries = record {
    by_resting = by_resting;
    always = λ cs c. omega (arith, by_resting c (after split cs empty), (always_shaped split means cs).few);
  }
