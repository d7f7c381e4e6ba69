-- What an order that comes in leaves of a market.
use Rattle.std.proofs.Common.{◌≡◌, ℕ, zero, suc, ◌+◌, ◌-◌, ◌<◌, ◌≤◌, Bool, true, false, cond, not, ◌&&◌, ltb, leb, List, [], ◌∷◌, ◌++◌, length, is_some, Some, None, Option, sym, refl, ap, ◌∙◌, ⊎_elim, arith}
use Rattle.std.proofs.lemmas.Bool.{cases_Bool, cond-true, cond-false, false≢true, leb-false, and_cases, or_parts, or_from, not-false}
use Rattle.fix.specs.Command.{NewOrder}
use Rattle.fix.specs.declared.command.Side.{Side}
use Rattle.fix.specs.declared.command.Side.TheVariants.{Buy, Sell}
use Rattle.level.proofs.Queues.{length_after}
use Rattle.market.specs.declared.entry.Reason.{Reason}
use Rattle.market.specs.declared.entry.Reason.TheVariants.{BookFull, DuplicateOrder}
use Rattle.market.specs.declared.resting.Resting.{Resting}
use Rattle.market.specs.Market.{Level, Market, is_of, in_queue, in_levels, or_else, known, crosses, best_crosses, other, levels, with_levels, resting, all_resting, capacity, lots_of, total}
use Rattle.market.specs.Split.{Splits}
use Rattle.market.specs.Put.{Met, less, after_fills, kept, of_fills, meets}
use Rattle.side.specs.Meeting.{first_queue}
use Rattle.market.proofs.Levels.{resting_kept}
use Rattle.side.proofs.Meets.{done_or_gone, meets_zero}
use Rattle.book.proofs.Known.{none_from}

-- ---- an order that is not turned down

pub open_parts : (k f : Bool) → ◌≡◌ {A = Option Reason} (cond k (Some DuplicateOrder) (cond f (Some BookFull) None)) None → (k ≡ false) × (f ≡ false)
open_parts true f e = absurd (false≢true (sym (ap is_some e)))
open_parts false true e = absurd (false≢true (sym (ap is_some e)))
open_parts false false e = (refl, refl)

-- ---- an order that did not rest does not rest after

in_kept : (member order p : ℕ) (q : List Resting) (ls : List Level) → in_levels member order (kept p q ls) ≡ or_else (in_queue member order q) (in_levels member order ls)
in_kept member order p [] ls = refl
in_kept member order p (r ∷ rs) ls = refl

or_none : {A : Type 0} (x y : Option A) → or_else x y ≡ None → (x ≡ None) × (y ≡ None)
or_none None y e = (refl, e)
or_none (Some a) y e = absurd (false≢true (sym (ap is_some e)))

cond_none : {A : Type 0} (b : Bool) (x : A) (y : Option A) → cond b (Some x) y ≡ None → (b ≡ false) × (y ≡ None)
cond_none true x y e = absurd (false≢true (sym (ap is_some e)))
cond_none false x y e = (refl, e)

after_none : (member order : ℕ) (fs : List ℕ) (q : List Resting) → in_queue member order q ≡ None → in_queue member order (after_fills fs q) ≡ None
after_none member order [] q e = e
after_none member order (f ∷ fs) [] e = refl
after_none member order (f ∷ fs) (r ∷ q) e =
    let both = cond_none (is_of member order r) r (in_queue member order q) e in
    let rest = after_none member order fs q both.1 in
    let b = ltb f r.lots in
    let stays = less r f ∷ after_fills fs q in
    ⊎_elim
    (λ (t : b ≡ true).
    ap (in_queue member order) (cond-true b stays (after_fills fs q) t)
    ∙ cond-false (is_of member order r) (Some (less r f)) (in_queue member order (after_fills fs q)) both.0
    ∙ rest)
    (λ (t : b ≡ false). ap (in_queue member order) (cond-false b stays (after_fills fs q) t) ∙ rest)
    (cases_Bool b)

module _ (split : ℕ → List ℕ → List ℕ) (o : NewOrder) where
  abbrev met_level : ℕ → Level → List Level → Met
  met_level q l ls = record {
    left = (meets split o (q - total (split q (lots_of l.queue))) ls).left;
    levels = kept l.price (after_fills (split q (lots_of l.queue)) l.queue) (meets split o (q - total (split q (lots_of l.queue))) ls).levels;
    entries = of_fills o l.price q (split q (lots_of l.queue)) l.queue ++ (meets split o (q - total (split q (lots_of l.queue))) ls).entries;
  }

  abbrev stopped : ℕ → Level → List Level → Met
  stopped q l ls = record { left = q; levels = l ∷ ls; entries = [] }

  pub meets_left : (q : ℕ) (ls : List Level) → (meets split o q ls).left ≤ q
  meets_left q [] = omega arith
  meets_left zero (l ∷ ls) = omega arith
  meets_left (suc q) (l ∷ ls) =
      let b = crosses o.side o.price l.price in
      let met = met_level (suc q) l ls in
      let stop = stopped (suc q) l ls in
      ⊎_elim
      (λ (t : b ≡ true). let e = ap (λ (m : Met). m.left) (cond-true b met stop t) in omega (arith, meets_left (suc q - total (split (suc q) (lots_of l.queue))) ls))
      (λ (t : b ≡ false). let e = ap (λ (m : Met). m.left) (cond-false b met stop t) in omega arith)
      (cases_Bool b)

  pub meets_resting : (q : ℕ) (ls : List Level) → resting (meets split o q ls).levels ≤ resting ls
  meets_resting q [] = omega arith
  meets_resting zero (l ∷ ls) = omega arith
  meets_resting (suc q) (l ∷ ls) =
      let b = crosses o.side o.price l.price in
      let met = met_level (suc q) l ls in
      let stop = stopped (suc q) l ls in
      let fs : List ℕ = split (suc q) (lots_of l.queue) in
      ⊎_elim
      (λ (t : b ≡ true).
      let e = ap (λ (m : Met). resting m.levels) (cond-true b met stop t) ∙ resting_kept l.price (after_fills fs l.queue) (meets split o (suc q - total fs) ls).levels in
      omega (arith, length_after fs l.queue, meets_resting (suc q - total fs) ls))
      (λ (t : b ≡ false). let e = ap (λ (m : Met). resting m.levels) (cond-false b met stop t) in omega arith)
      (cases_Bool b)

  pub meets_none : (member order q : ℕ) (ls : List Level) → in_levels member order ls ≡ None → in_levels member order (meets split o q ls).levels ≡ None
  meets_none member order q [] e = refl
  meets_none member order zero (l ∷ ls) e = e
  meets_none member order (suc q) (l ∷ ls) e =
      let b = crosses o.side o.price l.price in
      let met = met_level (suc q) l ls in
      let stop = stopped (suc q) l ls in
      let fs : List ℕ = split (suc q) (lots_of l.queue) in
      let rest = (meets split o (suc q - total fs) ls).levels in
      let both = or_none (in_queue member order l.queue) (in_levels member order ls) e in
      ⊎_elim
      (λ (t : b ≡ true).
      ap (λ (m : Met). in_levels member order m.levels) (cond-true b met stop t)
      ∙ in_kept member order l.price (after_fills fs l.queue) rest
      ∙ ap (λ x. or_else x (in_levels member order rest)) (after_none member order fs l.queue both.0)
      ∙ meets_none member order (suc q - total fs) ls both.1)
      (λ (t : b ≡ false). ap (λ (m : Met). in_levels member order m.levels) (cond-false b met stop t) ∙ e)
      (cases_Bool b)

  module _ (means : Splits split) where
    -- an order that meets a level and is not done has taken one out
    pub meets_fewer : (q : ℕ) (ls : List Level) → best_crosses o.side o.price ls ≡ true → 0 < length (first_queue ls) → 0 < (meets split o q ls).left → resting (meets split o q ls).levels < resting ls
    meets_fewer q [] c some h = absurd (omega arith)
    meets_fewer zero (l ∷ ls) c some h = absurd (omega arith)
    meets_fewer (suc q) (l ∷ ls) c some h =
        let b = crosses o.side o.price l.price in
        let met = met_level (suc q) l ls in
        let stop = stopped (suc q) l ls in
        let fs : List ℕ = split (suc q) (lots_of l.queue) in
        let left = ap (λ (m : Met). m.left) (cond-true b met stop c) in
        let e = ap (λ (m : Met). resting m.levels) (cond-true b met stop c) ∙ resting_kept l.price (after_fills fs l.queue) (meets split o (suc q - total fs) ls).levels in
        ⊎_elim
        (λ (z : after_fills fs l.queue ≡ []). omega (arith, ap length z, meets_resting (suc q - total fs) ls))
        (λ (z : suc q - total fs ≡ 0). absurd (omega (arith, ap (λ n. (meets split o n ls).left) z, ap (λ (m : Met). m.left) (meets_zero split means o ls))))
        (done_or_gone split means (suc q) l.queue)

-- ---- the market that the trades leave

module _ (split : ℕ → List ℕ → List ℕ) (o : NewOrder) (m : Market) where
  known_at : (s : Side) (q : ℕ) → known o.member o.order m ≡ false → known o.member o.order (with_levels (other s) (meets split o q (levels (other s) m)).levels m) ≡ false
  known_at Buy q e =
      let both = or_parts (is_some (in_levels o.member o.order m.buys)) (is_some (in_levels o.member o.order m.sells)) e in
      or_from _ _ both.0 (ap is_some (meets_none split o o.member o.order q m.sells (none_from (in_levels o.member o.order m.sells) both.1)))
  known_at Sell q e =
      let both = or_parts (is_some (in_levels o.member o.order m.buys)) (is_some (in_levels o.member o.order m.sells)) e in
      or_from _ _ (ap is_some (meets_none split o o.member o.order q m.buys (none_from (in_levels o.member o.order m.buys) both.0))) both.1

  pub known_met : known o.member o.order m ≡ false → known o.member o.order (with_levels (other o.side) (meets split o o.lots (levels (other o.side) m)).levels m) ≡ false
  known_met e = known_at o.side o.lots e

  all_with : (s : Side) (ls : List Level) → all_resting (with_levels s ls m) + resting (levels s m) ≡ all_resting m + resting ls
  all_with Buy ls = omega arith
  all_with Sell ls = omega arith

  module _ (means : Splits split) where
    -- where something is left of an order that is not turned down, there is room for it
    pub room_left : all_resting m ≤ capacity
        → (leb capacity (all_resting m) && not (best_crosses o.side o.price (levels (other o.side) m))) ≡ false
        → (best_crosses o.side o.price (levels (other o.side) m) ≡ true → 0 < length (first_queue (levels (other o.side) m)))
        → 0 < (meets split o o.lots (levels (other o.side) m)).left
        → all_resting (with_levels (other o.side) (meets split o o.lots (levels (other o.side) m)).levels m) < capacity
    room_left few free some h =
        let ls = levels (other o.side) m in
        let all = all_with (other o.side) (meets split o o.lots ls).levels in
        ⊎_elim
        (λ (e : leb capacity (all_resting m) ≡ false). omega (arith, leb-false capacity (all_resting m) e, meets_resting split o o.lots ls))
        (λ (e : not (best_crosses o.side o.price ls) ≡ false).
        let c = not-false (best_crosses o.side o.price ls) e in
        omega (arith, meets_fewer split o means o.lots ls c (some c) h))
        (and_cases (leb capacity (all_resting m)) (not (best_crosses o.side o.price ls)) free)
