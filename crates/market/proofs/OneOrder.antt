-- One order's lots, as the entries of fills and of a meeting tell them.
use Rattle.std.proofs.Common.{◌≡◌, ℕ, zero, suc, ◌-◌, ◌≤◌, Bool, true, false, cond, ◌⊎◌, List, [], ◌∷◌, ◌++◌, refl, ap, inl, inr, arith}
use Rattle.std.specs.List.{AllZip}
use Rattle.std.proofs.lemmas.Bool.Decides.{nat_tests}
use Rattle.std.proofs.lemmas.Bool.{cases_eq, cases_Bool}
use Rattle.fix.specs.Command.{NewOrder}
use Rattle.market.specs.declared.resting.Resting.{Resting}
use Rattle.market.specs.declared.entry.Entry.{Entry}
use Rattle.market.specs.Market.{Level, is_of, lots_of, total}
use Rattle.market.specs.Put.{after_fills, kept, of_fill, of_fills, meets}
use Rattle.market.specs.Split.{Splits}
use Rattle.market.specs.Tally.{by_order, lots_in, lots_at, times_in, times_at}
use Rattle.market.specs.Told.{left_by, told}
use Rattle.market.proofs.Fills.{lots_less, times_after}
use Rattle.market.proofs.Levels.{lots_kept}
use Rattle.market.proofs.Leaves.{none_in, none_lots}
use Rattle.market.proofs.Meets.{meets_all, times_meets}

pub told_append : (member order n : ℕ) (xs ys : List Entry) → told member order n (xs ++ ys) ≡ told member order (told member order n xs) ys
told_append member order n [] ys = refl
told_append member order n (x ∷ xs) ys = told_append member order (cond (by_order member order x.member x.order) (left_by n x.event) n) xs ys

-- one order, and one incoming order
module _ (member order : ℕ) (o : NewOrder) where
  -- the incoming order's own entries
  own_fill : by_order member order o.member o.order ≡ true → (price f left : ℕ) (r : Resting) → is_of member order r ≡ false → told member order left (of_fill o price f left r) ≡ left - f
  own_fill own price zero left r e = omega arith
  own_fill own price (suc f) left r e = rw (e, own)

  own_fills : by_order member order o.member o.order ≡ true → (price left : ℕ) (fs : List ℕ) (rs : List Resting) → AllZip ◌≤◌ fs (lots_of rs) → times_in member order rs ≡ 0
      → told member order left (of_fills o price left fs rs) ≡ left - total fs
  own_fills own price left [] [] w t = omega arith
  own_fills own price left [] (r ∷ rs) w t = absurd w
  own_fills own price left (f ∷ fs) [] w t = absurd w
  own_fills own price left (f ∷ fs) (r ∷ rs) w t =
      let e : is_of member order r ≡ false = grind (arith, nat_tests) in
      let a = told_append member order left (of_fill o price f left r) (of_fills o price (left - f) fs rs) in
      let b = ap (λ (n : ℕ). told member order n (of_fills o price (left - f) fs rs)) (own_fill own price f left r e) in
      let h = own_fills own price (left - f) fs rs w.1 (omega arith) in
      omega arith

  -- another's entries
  other_fill : by_order member order o.member o.order ≡ false → (price f left n : ℕ) (r : Resting) → is_of member order r ≡ false → told member order n (of_fill o price f left r) ≡ n
  other_fill own price zero left n r e = refl
  other_fill own price (suc f) left n r e = rw (e, own)

  its_fill : by_order member order o.member o.order ≡ false → (price f left : ℕ) (r : Resting) → is_of member order r ≡ true → told member order r.lots (of_fill o price f left r) ≡ r.lots - f
  its_fill own price zero left r e = omega arith
  its_fill own price (suc f) left r e = rw (e, own)

  none_fills : by_order member order o.member o.order ≡ false → (price left n : ℕ) (fs : List ℕ) (rs : List Resting) → times_in member order rs ≡ 0 → told member order n (of_fills o price left fs rs) ≡ n
  none_fills own price left n [] rs t = refl
  none_fills own price left n (f ∷ fs) [] t = refl
  none_fills own price left n (f ∷ fs) (r ∷ rs) t =
      let e : is_of member order r ≡ false = grind (arith, nat_tests) in
      let a = told_append member order n (of_fill o price f left r) (of_fills o price (left - f) fs rs) in
      let b = ap (λ (k : ℕ). told member order k (of_fills o price (left - f) fs rs)) (other_fill own price f left n r e) in
      let h = none_fills own price (left - f) n fs rs (omega arith) in
      omega arith

  one_fills : by_order member order o.member o.order ≡ false → (price left : ℕ) (fs : List ℕ) (rs : List Resting) → AllZip ◌≤◌ fs (lots_of rs) → times_in member order rs ≡ 1
      → told member order (lots_in (by_order member order) rs) (of_fills o price left fs rs) ≡ lots_in (by_order member order) (after_fills fs rs)
  one_fills own price left [] [] w t = refl
  one_fills own price left [] (r ∷ rs) w t = absurd w
  one_fills own price left (f ∷ fs) [] w t = absurd w
  one_fills own price left (f ∷ fs) (r ∷ rs) w t = go (cases_Bool (is_of member order r)) (one_fills own price (left - f) fs rs w.1)
    where
      a : (n : ℕ) → told member order n (of_fills o price left (f ∷ fs) (r ∷ rs)) ≡ told member order (told member order n (of_fill o price f left r)) (of_fills o price (left - f) fs rs)
      a n = told_append member order n (of_fill o price f left r) (of_fills o price (left - f) fs rs)

      go : (is_of member order r ≡ true) ⊎ (is_of member order r ≡ false)
          → (times_in member order rs ≡ 1 → told member order (lots_in (by_order member order) rs) (of_fills o price (left - f) fs rs) ≡ lots_in (by_order member order) (after_fills fs rs))
          → told member order (lots_in (by_order member order) (r ∷ rs)) (of_fills o price left (f ∷ fs) (r ∷ rs)) ≡ lots_in (by_order member order) (after_fills (f ∷ fs) (r ∷ rs))
      go (inl e) h =
          let u : times_in member order rs ≡ 0 = grind (arith, nat_tests) in
          let z = none_in member order rs u in
          let v : lots_in (by_order member order) (r ∷ rs) ≡ r.lots = omega (arith, ap (λ (b : Bool). cond b r.lots 0) e) in
          let x = ap (λ (n : ℕ). told member order n (of_fills o price left (f ∷ fs) (r ∷ rs))) v in
          let y = a r.lots in
          let b = ap (λ (n : ℕ). told member order n (of_fills o price (left - f) fs rs)) (its_fill own price f left r e) in
          let c = none_fills own price (left - f) (r.lots - f) fs rs u in
          let k = lots_less (by_order member order) f r (after_fills fs rs) w.0 in
          let q = none_in member order (after_fills fs rs) (omega (arith, times_after member order fs rs w.1)) in
          omega (arith, ap (λ (b : Bool). cond b r.lots 0) e, ap (λ (b : Bool). cond b f 0) e, w.0)
      go (inr e) h =
          let u : times_in member order rs ≡ 1 = grind (arith, nat_tests) in
          let v : lots_in (by_order member order) (r ∷ rs) ≡ lots_in (by_order member order) rs = omega (arith, ap (λ (b : Bool). cond b r.lots 0) e) in
          let x = ap (λ (n : ℕ). told member order n (of_fills o price left (f ∷ fs) (r ∷ rs))) v in
          let y = a (lots_in (by_order member order) rs) in
          let b = ap (λ (n : ℕ). told member order n (of_fills o price (left - f) fs rs)) (other_fill own price f left (lots_in (by_order member order) rs) r e) in
          let c = h u in
          let k = lots_less (by_order member order) f r (after_fills fs rs) w.0 in
          omega (arith, ap (λ (b : Bool). cond b r.lots 0) e, ap (λ (b : Bool). cond b f 0) e)

  module _ (split : ℕ → List ℕ → List ℕ) (means : Splits split) where
    pub own_meets : by_order member order o.member o.order ≡ true → (left : ℕ) (ls : List Level) → times_at member order ls ≡ 0 → told member order left (meets split o left ls).entries ≡ (meets split o left ls).left
    own_meets own = meets_all split means o (λ left ls met. times_at member order ls ≡ 0 → told member order left met.entries ≡ met.left) (λ left t. refl) (λ ls t. refl) (λ left l ls e t. refl)
        (λ left l ls fs e f h t.
        let a = told_append member order left (of_fills o l.price left fs l.queue) (meets split o (left - total fs) ls).entries in
        let b = ap (λ (n : ℕ). told member order n (meets split o (left - total fs) ls).entries) (own_fills own l.price left fs l.queue f.within (omega arith)) in
        let c = h (omega arith) in
        omega arith)

    pub none_meets : by_order member order o.member o.order ≡ false → (n left : ℕ) (ls : List Level) → times_at member order ls ≡ 0 → told member order n (meets split o left ls).entries ≡ n
    none_meets own n = meets_all split means o (λ left ls met. times_at member order ls ≡ 0 → told member order n met.entries ≡ n) (λ left t. refl) (λ ls t. refl) (λ left l ls e t. refl)
        (λ left l ls fs e f h t.
        let a = told_append member order n (of_fills o l.price left fs l.queue) (meets split o (left - total fs) ls).entries in
        let b = ap (λ (n : ℕ). told member order n (meets split o (left - total fs) ls).entries) (none_fills own l.price left n fs l.queue (omega arith)) in
        let c = h (omega arith) in
        omega arith)

    pub one_meets : by_order member order o.member o.order ≡ false → (left : ℕ) (ls : List Level) → times_at member order ls ≡ 1
        → told member order (lots_at (by_order member order) ls) (meets split o left ls).entries ≡ lots_at (by_order member order) (meets split o left ls).levels
    one_meets own = meets_all split means o (λ left ls met. times_at member order ls ≡ 1 → told member order (lots_at (by_order member order) ls) met.entries ≡ lots_at (by_order member order) met.levels)
        (λ left t. refl) (λ ls t. refl) (λ left l ls e t. refl)
        (λ left l ls fs e f h t. go left l ls fs f.within h t (cases_eq (times_in member order l.queue) 0))
      where
        go : (left : ℕ) (l : Level) (ls : List Level) (fs : List ℕ) → AllZip ◌≤◌ fs (lots_of l.queue)
            → (times_at member order ls ≡ 1 → told member order (lots_at (by_order member order) ls) (meets split o (left - total fs) ls).entries ≡ lots_at (by_order member order) (meets split o (left - total fs) ls).levels)
            → times_at member order (l ∷ ls) ≡ 1 → (times_in member order l.queue ≡ 0) ⊎ (times_in member order l.queue ≡ 0 → ⊥)
            → told member order (lots_at (by_order member order) (l ∷ ls)) (of_fills o l.price left fs l.queue ++ (meets split o (left - total fs) ls).entries)
            ≡ lots_at (by_order member order) (kept l.price (after_fills fs l.queue) (meets split o (left - total fs) ls).levels)
        go left l ls fs w h t (inl z) =
            let q = none_in member order l.queue z in
            let v : lots_at (by_order member order) (l ∷ ls) ≡ lots_at (by_order member order) ls = omega arith in
            let x = ap (λ (n : ℕ). told member order n (of_fills o l.price left fs l.queue ++ (meets split o (left - total fs) ls).entries)) v in
            let a = told_append member order (lots_at (by_order member order) ls) (of_fills o l.price left fs l.queue) (meets split o (left - total fs) ls).entries in
            let b = ap (λ (n : ℕ). told member order n (meets split o (left - total fs) ls).entries) (none_fills own l.price left (lots_at (by_order member order) ls) fs l.queue z) in
            let c = h (omega arith) in
            let k = lots_kept (by_order member order) l.price (after_fills fs l.queue) (meets split o (left - total fs) ls).levels in
            let d = none_in member order (after_fills fs l.queue) (omega (arith, times_after member order fs l.queue w)) in
            omega arith
        go left l ls fs w h t (inr z) =
            let one : times_in member order l.queue ≡ 1 = omega arith in
            let none : times_at member order ls ≡ 0 = omega arith in
            let q = none_lots member order ls none in
            let v : lots_at (by_order member order) (l ∷ ls) ≡ lots_in (by_order member order) l.queue = omega arith in
            let x = ap (λ (n : ℕ). told member order n (of_fills o l.price left fs l.queue ++ (meets split o (left - total fs) ls).entries)) v in
            let a = told_append member order (lots_in (by_order member order) l.queue) (of_fills o l.price left fs l.queue) (meets split o (left - total fs) ls).entries in
            let b = ap (λ (n : ℕ). told member order n (meets split o (left - total fs) ls).entries) (one_fills own l.price left fs l.queue w one) in
            let c = none_meets own (lots_in (by_order member order) (after_fills fs l.queue)) (left - total fs) ls none in
            let k = lots_kept (by_order member order) l.price (after_fills fs l.queue) (meets split o (left - total fs) ls).levels in
            let d = none_lots member order (meets split o (left - total fs) ls).levels (omega (arith, times_meets split means o member order (left - total fs) ls)) in
            omega arith
