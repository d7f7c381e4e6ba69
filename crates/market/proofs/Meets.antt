-- What an incoming order does to the levels that it meets.
use Rattle.std.proofs.Common.{◌≡◌, ℕ, zero, suc, ◌-◌, ◌<◌, ◌≤◌, true, false, ◌⊎◌, List, [], ◌∷◌, ◌++◌, length, sym, refl, ◌∙◌, inl, inr, arith}
use Rattle.std.specs.List.{AllByRecursion}
use Rattle.std.proofs.lemmas.Bool.{true≢false, cond_both}
use Rattle.fix.specs.declared.command.Side.{Side}
use Rattle.fix.specs.Command.{NewOrder}
use Rattle.market.specs.Market.{Level, other, crosses, best_crosses, resting, lots_of, total}
use Rattle.market.specs.Put.{after_fills, kept, of_fills, Met, meets}
use Rattle.market.specs.Split.{Splits}
use Rattle.market.specs.Tally.{times_at}
use Rattle.market.specs.Prices.{Better}
use Rattle.market.specs.Shape.{Sorted, Occupied}
use Rattle.market.proofs.Fills.{length_after, times_after, has_lots_after, Fills, done_or_gone}
use Rattle.market.proofs.Levels.{Prices, Clear, clear_false, clear_all, all_kept, sorted_kept, times_kept, resting_kept}

-- an order stops at levels, or goes on through one
abbrev pub stops : ℕ → List Level → Met
stops left ls = record { left = left; levels = ls; entries = [] }

abbrev pub goes_on : NewOrder → ℕ → Level → List ℕ → Met → Met
goes_on o left l fs rest = record {
  left = rest.left;
  levels = kept l.price (after_fills fs l.queue) rest.levels;
  entries = of_fills o l.price left fs l.queue ++ rest.entries;
}

module _ (split : ℕ → List ℕ → List ℕ) (means : Splits split) (o : NewOrder) where
  -- what holds of every meeting, by its four cases
  module _ (P : ℕ → List Level → Met → Type 0) (none : (left : ℕ) → P left [] (stops left [])) (done : (ls : List Level) → P 0 ls (stops 0 ls))
      (clear : (left : ℕ) (l : Level) (ls : List Level) → crosses o.side o.price l.price ≡ false → P left (l ∷ ls) (stops left (l ∷ ls)))
      (through : (left : ℕ) (l : Level) (ls : List Level) (fs : List ℕ) → crosses o.side o.price l.price ≡ true → Fills split left l.queue fs
      → P (left - total fs) ls (meets split o (left - total fs) ls) → P left (l ∷ ls) (goes_on o left l fs (meets split o (left - total fs) ls))) where
    pub meets_all : (left : ℕ) (ls : List Level) → P left ls (meets split o left ls)
    meets_all left [] = none left
    meets_all zero (l ∷ ls) = done (l ∷ ls)
    meets_all (suc left) (l ∷ ls) =
        let fs = split (suc left) (lots_of l.queue) in
        let h = meets_all (suc left - total fs) ls in
        cond_both (crosses o.side o.price l.price) _ _ (P (suc left) (l ∷ ls))
        (λ e. through (suc left) l ls fs e (record { within = means.within (suc left) (lots_of l.queue); full = means.full (suc left) (lots_of l.queue); by_split = refl; some = omega arith }) h)
        (λ e. clear (suc left) l ls e)

  pub left_less : (left : ℕ) (ls : List Level) → (meets split o left ls).left ≤ left
  left_less = meets_all (λ left ls met. met.left ≤ left) (λ left. omega arith) (λ ls. omega arith) (λ left l ls e. omega arith) (λ left l ls fs e f h. omega arith)

  pub prices_meets : (P : ℕ → Type 0) (left : ℕ) (ls : List Level) → Prices P ls → Prices P (meets split o left ls).levels
  prices_meets P = meets_all (λ left ls met. Prices P ls → Prices P met.levels) (λ left e. tt) (λ ls e. e) (λ left l ls x e. e)
      (λ left l ls fs x f h e. all_kept (λ l. P l.price) l.price (after_fills fs l.queue) (meets split o (left - total fs) ls).levels (λ _. e.0) (h e.1))

  pub sorted_meets : (side : Side) (left : ℕ) (ls : List Level) → Sorted side ls → Sorted side (meets split o left ls).levels
  sorted_meets side = meets_all (λ left ls met. Sorted side ls → Sorted side met.levels) (λ left s. tt) (λ ls s. s) (λ left l ls e s. s)
      (λ left l ls fs e f h s. sorted_kept side l.price (after_fills fs l.queue) (meets split o (left - total fs) ls).levels
      (prices_meets (Better side l.price) (left - total fs) ls s.0) (h s.1))

  pub occupied_meets : (left : ℕ) (ls : List Level) → AllByRecursion Occupied ls → AllByRecursion Occupied (meets split o left ls).levels
  occupied_meets = meets_all (λ left ls met. AllByRecursion Occupied ls → AllByRecursion Occupied met.levels) (λ left w. tt) (λ ls w. w) (λ left l ls e w. w)
      (λ left l ls fs e f h w. all_kept Occupied l.price (after_fills fs l.queue) (meets split o (left - total fs) ls).levels
      (λ some. (some, has_lots_after fs l.queue f.within)) (h w.1))

  -- where something is left of the order, no level that is left crosses it
  pub clear_meets : (left : ℕ) (ls : List Level) → Sorted (other o.side) ls → ((meets split o left ls).left ≡ 0) ⊎ Prices (Clear o.side o.price) (meets split o left ls).levels
  clear_meets = meets_all (λ left ls met. Sorted (other o.side) ls → (met.left ≡ 0) ⊎ Prices (Clear o.side o.price) met.levels)
      (λ left s. inr tt) (λ ls s. inl refl)
      (λ left l ls e s. inr (clear_all o.side o.price l ls s (clear_false o.side o.price l.price e)))
      (λ left l ls fs e f h s. go left l ls fs (h s.1) (done_or_gone split left l.queue fs f))
    where
      go : (left : ℕ) (l : Level) (ls : List Level) (fs : List ℕ)
          → ((meets split o (left - total fs) ls).left ≡ 0) ⊎ Prices (Clear o.side o.price) (meets split o (left - total fs) ls).levels
          → (left - total fs ≡ 0) ⊎ (after_fills fs l.queue ≡ [])
          → ((meets split o (left - total fs) ls).left ≡ 0) ⊎ Prices (Clear o.side o.price) (kept l.price (after_fills fs l.queue) (meets split o (left - total fs) ls).levels)
      go left l ls fs (inl z) t = inl z
      go left l ls fs (inr c) (inl z) = inl (omega (arith, left_less (left - total fs) ls))
      go left l ls fs (inr c) (inr e) = inr (rw e c)

  pub resting_meets : (left : ℕ) (ls : List Level) → resting (meets split o left ls).levels ≤ resting ls
  resting_meets = meets_all (λ left ls met. resting met.levels ≤ resting ls) (λ left. omega arith) (λ ls. omega arith) (λ left l ls e. omega arith)
      (λ left l ls fs e f h. omega (arith, resting_kept l.price (after_fills fs l.queue) (meets split o (left - total fs) ls).levels, length_after fs l.queue f.within))

  -- where something is left of an order that crosses, a place is free
  pub place_meets : (left : ℕ) (ls : List Level) → AllByRecursion Occupied ls → best_crosses o.side o.price ls ≡ true
      → ((meets split o left ls).left ≡ 0) ⊎ (resting (meets split o left ls).levels < resting ls)
  place_meets = meets_all (λ left ls met. AllByRecursion Occupied ls → best_crosses o.side o.price ls ≡ true → (met.left ≡ 0) ⊎ (resting met.levels < resting ls))
      (λ left w b. absurd (true≢false (sym b))) (λ ls w b. inl refl) (λ left l ls e w b. absurd (true≢false (sym b ∙ e)))
      (λ left l ls fs e f h w b. go left l ls fs w.0.0 (done_or_gone split left l.queue fs f))
    where
      go : (left : ℕ) (l : Level) (ls : List Level) (fs : List ℕ) → 0 < length l.queue → (left - total fs ≡ 0) ⊎ (after_fills fs l.queue ≡ [])
          → ((meets split o (left - total fs) ls).left ≡ 0) ⊎ (resting (kept l.price (after_fills fs l.queue) (meets split o (left - total fs) ls).levels) < resting (l ∷ ls))
      go left l ls fs p (inl z) = inl (omega (arith, left_less (left - total fs) ls))
      go left l ls fs p (inr e) = inr (rw e (omega (arith, resting_meets (left - total fs) ls)))

  pub times_meets : (member order left : ℕ) (ls : List Level) → times_at member order (meets split o left ls).levels ≤ times_at member order ls
  times_meets member order = meets_all (λ left ls met. times_at member order met.levels ≤ times_at member order ls) (λ left. omega arith) (λ ls. omega arith) (λ left l ls e. omega arith)
      (λ left l ls fs e f h. omega (arith, times_kept member order l.price (after_fills fs l.queue) (meets split o (left - total fs) ls).levels, times_after member order fs l.queue f.within))
