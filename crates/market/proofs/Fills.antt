-- What fills do to one queue.
use Rattle.std.proofs.Common.{◌≡◌, ℕ, ◌+◌, ◌-◌, ◌<◌, ◌≤◌, min, Bool, true, false, cond, ltb, ◌⊎◌, List, [], ◌∷◌, length, refl, ◌∙◌, inl, inr, arith}
use Rattle.std.specs.List.{AllZip, AllByRecursion}
use Rattle.std.proofs.lemmas.Bool.Decides.{nat_tests}
use Rattle.std.proofs.lemmas.Bool.{ltb-true, le-ltb, cases_lt, cond-false, cond_both}
use Rattle.market.specs.declared.resting.Resting.{Resting}
use Rattle.market.specs.Market.{lots_of, total}
use Rattle.market.specs.Put.{less, after_fills}
use Rattle.market.specs.Tally.{lots_in, times_in}
use Rattle.market.specs.Shape.{HasLots}

-- lots that count or not
pub part_add : (b : Bool) (m n : ℕ) → cond b (m + n) 0 ≡ cond b m 0 + cond b n 0
part_add true m n = refl
part_add false m n = refl

pub part_none : (b : Bool) → ◌≡◌ {A = ℕ} (cond b 0 0) 0
part_none true = refl
part_none false = refl

-- an order after its fill
pub lots_less : (who : ℕ → ℕ → Bool) (f : ℕ) (r : Resting) (rs : List Resting) → f ≤ r.lots
    → lots_in who (cond (ltb f r.lots) (less r f ∷ rs) rs) + cond (who r.member r.order) f 0 ≡ cond (who r.member r.order) r.lots 0 + lots_in who rs
lots_less who f r rs h = grind (arith, nat_tests)

-- fills never pass the lots
total_within : (fs ls : List ℕ) → AllZip ◌≤◌ fs ls → total fs ≤ total ls
total_within [] [] w = omega arith
total_within [] (l ∷ ls) w = absurd w
total_within (f ∷ fs) [] w = absurd w
total_within (f ∷ fs) (l ∷ ls) w = let h = total_within fs ls w.1 in omega arith

-- fills of everything leave nothing
pub all_filled : (fs : List ℕ) (rs : List Resting) → AllZip ◌≤◌ fs (lots_of rs) → total (lots_of rs) ≤ total fs → after_fills fs rs ≡ []
all_filled [] [] w h = refl
all_filled [] (r ∷ rs) w h = absurd w
all_filled (f ∷ fs) [] w h = absurd w
all_filled (f ∷ fs) (r ∷ rs) w h =
    let s = total_within fs (lots_of rs) w.1 in
    cond-false (ltb f r.lots) _ _ (le-ltb f r.lots (omega arith)) ∙ all_filled fs rs w.1 (omega arith)

pub length_after : (fs : List ℕ) (rs : List Resting) → AllZip ◌≤◌ fs (lots_of rs) → length (after_fills fs rs) ≤ length rs
length_after [] [] w = omega arith
length_after [] (r ∷ rs) w = absurd w
length_after (f ∷ fs) [] w = absurd w
length_after (f ∷ fs) (r ∷ rs) w = let h = length_after fs rs w.1 in grind (arith, nat_tests)

pub times_after : (member order : ℕ) (fs : List ℕ) (rs : List Resting) → AllZip ◌≤◌ fs (lots_of rs) → times_in member order (after_fills fs rs) ≤ times_in member order rs
times_after member order [] [] w = omega arith
times_after member order [] (r ∷ rs) w = absurd w
times_after member order (f ∷ fs) [] w = absurd w
times_after member order (f ∷ fs) (r ∷ rs) w = let h = times_after member order fs rs w.1 in grind (arith, nat_tests)

pub has_lots_after : (fs : List ℕ) (rs : List Resting) → AllZip ◌≤◌ fs (lots_of rs) → AllByRecursion HasLots (after_fills fs rs)
has_lots_after [] [] w = tt
has_lots_after [] (r ∷ rs) w = absurd w
has_lots_after (f ∷ fs) [] w = absurd w
has_lots_after (f ∷ fs) (r ∷ rs) w =
    let h = has_lots_after fs rs w.1 in
    cond_both (ltb f r.lots) _ _ (AllByRecursion HasLots) (λ e. (let l = ltb-true f r.lots e in omega arith, h)) (λ e. h)

-- the fills of a queue under a policy, where `left` lots are left
pub record Fills (split : ℕ → List ℕ → List ℕ) (left : ℕ) (rs : List Resting) (fs : List ℕ) : Type 0 where
  pub within : AllZip ◌≤◌ fs (lots_of rs)
  pub full : total fs ≡ min left (total (lots_of rs))
  pub by_split : fs ≡ split left (lots_of rs)
  pub some : 0 < left

-- nothing is left of the order, or nothing of the queue
pub done_or_gone : (split : ℕ → List ℕ → List ℕ) (left : ℕ) (rs : List Resting) (fs : List ℕ) → Fills split left rs fs → (left - total fs ≡ 0) ⊎ (after_fills fs rs ≡ [])
done_or_gone split left rs fs f = go (cases_lt (total (lots_of rs)) left)
  where
    go : (total (lots_of rs) < left) ⊎ (left ≤ total (lots_of rs)) → (left - total fs ≡ 0) ⊎ (after_fills fs rs ≡ [])
    go (inl h) = inr (all_filled fs rs f.within (let e = f.full in omega arith))
    go (inr h) = inl (let e = f.full in omega arith)
