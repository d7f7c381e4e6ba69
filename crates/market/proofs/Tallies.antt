-- What the entries of fills, and of a whole meeting, come to.
use Rattle.std.proofs.Common.{◌≡◌, ℕ, zero, suc, ◌+◌, ◌-◌, ◌≤◌, Bool, true, false, cond, List, [], ◌∷◌, ◌++◌, sym, refl, ap, arith}
use Rattle.std.specs.List.{AllZip}
use Rattle.std.proofs.lemmas.Bool.Decides.{nat_tests}
use Rattle.fix.specs.declared.command.Side.{Side}
use Rattle.fix.specs.declared.command.Side.TheVariants.{Buy, Sell}
use Rattle.fix.specs.Command.{NewOrder}
use Rattle.market.specs.declared.resting.Resting.{Resting}
use Rattle.market.specs.declared.entry.Event.{Event}
use Rattle.market.specs.declared.entry.Event.TheVariants.{Filled}
use Rattle.market.specs.declared.entry.Entry.{Entry}
use Rattle.market.specs.Market.{Level, other, lots_of, total}
use Rattle.market.specs.Put.{after_fills, of_fill, of_fills, meets}
use Rattle.market.specs.Split.{Splits}
use Rattle.market.specs.Tally.{same_side, on_side, lots_traded, all_orders, tally, lots_in, lots_at}
use Rattle.market.proofs.Fills.{part_add, part_none, lots_less}
use Rattle.market.proofs.Levels.{lots_kept}
use Rattle.market.proofs.Meets.{meets_all}

pub same_itself : (s : Side) → same_side s s ≡ true
same_itself Buy = refl
same_itself Sell = refl

pub same_other : (s : Side) → same_side s (other s) ≡ false
same_other Buy = refl
same_other Sell = refl

other_same : (s : Side) → same_side (other s) s ≡ false
other_same Buy = refl
other_same Sell = refl

-- a fill counts once on each side
both_sides : (s t : Side) (n : ℕ) → on_side s (other t) n + on_side s t n ≡ n
both_sides Buy Buy n = omega arith
both_sides Buy Sell n = omega arith
both_sides Sell Buy n = omega arith
both_sides Sell Sell n = omega arith

pub tally_append : (who : ℕ → ℕ → Bool) (count : Event → ℕ) (xs ys : List Entry) → tally who count (xs ++ ys) ≡ tally who count xs + tally who count ys
tally_append who count [] ys = omega arith
tally_append who count (x ∷ xs) ys = let h = tally_append who count xs ys in omega arith

module _ (o : NewOrder) where
  -- the resting orders' lots
  fill_theirs : (who : ℕ → ℕ → Bool) (price f left : ℕ) (r : Resting) → tally who (lots_traded (other o.side)) (of_fill o price f left r) ≡ cond (who r.member r.order) f 0
  fill_theirs who price zero left r = grind (arith, nat_tests)
  fill_theirs who price (suc f) left r = let e = same_itself (other o.side) in let e' = other_same o.side in grind (arith, nat_tests)

  fills_theirs : (who : ℕ → ℕ → Bool) (price left : ℕ) (fs : List ℕ) (rs : List Resting) → AllZip ◌≤◌ fs (lots_of rs)
      → tally who (lots_traded (other o.side)) (of_fills o price left fs rs) + lots_in who (after_fills fs rs) ≡ lots_in who rs
  fills_theirs who price left [] [] w = omega arith
  fills_theirs who price left [] (r ∷ rs) w = absurd w
  fills_theirs who price left (f ∷ fs) [] w = absurd w
  fills_theirs who price left (f ∷ fs) (r ∷ rs) w =
      omega (
        arith,
        fills_theirs who price (left - f) fs rs w.1,
        fill_theirs who price f left r,
        lots_less who f r (after_fills fs rs) w.0,
        tally_append who (lots_traded (other o.side)) (of_fill o price f left r) (of_fills o price (left - f) fs rs),
      )

  -- the incoming order's
  fill_ours : (who : ℕ → ℕ → Bool) (price f left : ℕ) (r : Resting) → tally who (lots_traded o.side) (of_fill o price f left r) ≡ cond (who o.member o.order) f 0
  fill_ours who price zero left r = grind (arith, nat_tests)
  fill_ours who price (suc f) left r = let e = same_itself o.side in let e' = same_other o.side in grind (arith, nat_tests)

  fills_ours : (who : ℕ → ℕ → Bool) (price left : ℕ) (fs : List ℕ) (rs : List Resting) → AllZip ◌≤◌ fs (lots_of rs)
      → tally who (lots_traded o.side) (of_fills o price left fs rs) ≡ cond (who o.member o.order) (total fs) 0
  fills_ours who price left [] [] w = sym (part_none (who o.member o.order))
  fills_ours who price left [] (r ∷ rs) w = absurd w
  fills_ours who price left (f ∷ fs) [] w = absurd w
  fills_ours who price left (f ∷ fs) (r ∷ rs) w =
      omega (
        arith,
        fills_ours who price (left - f) fs rs w.1,
        fill_ours who price f left r,
        part_add (who o.member o.order) f (total fs),
        tally_append who (lots_traded o.side) (of_fill o price f left r) (of_fills o price (left - f) fs rs),
      )

  -- everybody's, on either side
  fill_all : (s : Side) (price f left : ℕ) (r : Resting) → tally all_orders (lots_traded s) (of_fill o price f left r) ≡ f
  fill_all s price zero left r = refl
  fill_all s price (suc f) left r = let e = both_sides s o.side (suc f) in omega arith

  fills_all : (s : Side) (price left : ℕ) (fs : List ℕ) (rs : List Resting) → AllZip ◌≤◌ fs (lots_of rs) → tally all_orders (lots_traded s) (of_fills o price left fs rs) ≡ total fs
  fills_all s price left [] [] w = refl
  fills_all s price left [] (r ∷ rs) w = absurd w
  fills_all s price left (f ∷ fs) [] w = absurd w
  fills_all s price left (f ∷ fs) (r ∷ rs) w =
      omega (
        arith,
        fills_all s price (left - f) fs rs w.1,
        fill_all s price f left r,
        tally_append all_orders (lots_traded s) (of_fill o price f left r) (of_fills o price (left - f) fs rs),
      )

  -- what fills do not count
  module _ (count : Event → ℕ) (not-fills : (side : Side) (lots price leaves : ℕ) → count (Filled side lots price leaves) ≡ 0) where
    fill_none : (who : ℕ → ℕ → Bool) (price f left : ℕ) (r : Resting) → tally who count (of_fill o price f left r) ≡ 0
    fill_none who price zero left r = refl
    fill_none who price (suc f) left r =
        let a = not-fills (other o.side) (suc f) price (r.lots - suc f) in
        let b = not-fills o.side (suc f) price (left - suc f) in
        grind (arith, nat_tests)

    fills_none : (who : ℕ → ℕ → Bool) (price left : ℕ) (fs : List ℕ) (rs : List Resting) → tally who count (of_fills o price left fs rs) ≡ 0
    fills_none who price left [] rs = refl
    fills_none who price left (f ∷ fs) [] = refl
    fills_none who price left (f ∷ fs) (r ∷ rs) =
        omega (
          arith,
          fills_none who price (left - f) fs rs,
          fill_none who price f left r,
          tally_append who count (of_fill o price f left r) (of_fills o price (left - f) fs rs),
        )

module _ (split : ℕ → List ℕ → List ℕ) (means : Splits split) (o : NewOrder) where
  pub meets_theirs : (who : ℕ → ℕ → Bool) (left : ℕ) (ls : List Level)
      → tally who (lots_traded (other o.side)) (meets split o left ls).entries + lots_at who (meets split o left ls).levels ≡ lots_at who ls
  meets_theirs who = meets_all split means o (λ left ls met. tally who (lots_traded (other o.side)) met.entries + lots_at who met.levels ≡ lots_at who ls)
      (λ left. omega arith) (λ ls. omega arith) (λ left l ls e. omega arith)
      (λ left l ls fs e f h.
      omega (
        arith,
        lots_kept who l.price (after_fills fs l.queue) (meets split o (left - total fs) ls).levels,
        fills_theirs o who l.price left fs l.queue f.within,
        tally_append who (lots_traded (other o.side)) (of_fills o l.price left fs l.queue) (meets split o (left - total fs) ls).entries,
      ))

  pub meets_ours : (who : ℕ → ℕ → Bool) (left : ℕ) (ls : List Level)
      → tally who (lots_traded o.side) (meets split o left ls).entries + cond (who o.member o.order) (meets split o left ls).left 0 ≡ cond (who o.member o.order) left 0
  meets_ours who = meets_all split means o (λ left ls met. tally who (lots_traded o.side) met.entries + cond (who o.member o.order) met.left 0 ≡ cond (who o.member o.order) left 0)
      (λ left. omega arith) (λ ls. omega arith) (λ left l ls e. omega arith)
      (λ left l ls fs e f h.
      let x = f.full in
      let d : total fs + (left - total fs) ≡ left = omega arith in
      omega (
        arith,
        fills_ours o who l.price left fs l.queue f.within,
        part_add (who o.member o.order) (total fs) (left - total fs),
        ap (λ (n : ℕ). cond (who o.member o.order) n 0) d,
        tally_append who (lots_traded o.side) (of_fills o l.price left fs l.queue) (meets split o (left - total fs) ls).entries,
      ))

  pub meets_both : (s : Side) (left : ℕ) (ls : List Level) → tally all_orders (lots_traded s) (meets split o left ls).entries + (meets split o left ls).left ≡ left
  meets_both s = meets_all split means o (λ left ls met. tally all_orders (lots_traded s) met.entries + met.left ≡ left)
      (λ left. omega arith) (λ ls. omega arith) (λ left l ls e. omega arith)
      (λ left l ls fs e f h.
      let x = f.full in
      omega (
        arith,
        fills_all o s l.price left fs l.queue f.within,
        tally_append all_orders (lots_traded s) (of_fills o l.price left fs l.queue) (meets split o (left - total fs) ls).entries,
      ))

  pub meets_none : (count : Event → ℕ) → ((side : Side) (lots price leaves : ℕ) → count (Filled side lots price leaves) ≡ 0)
      → (who : ℕ → ℕ → Bool) (left : ℕ) (ls : List Level) → tally who count (meets split o left ls).entries ≡ 0
  meets_none count not-fills who = meets_all split means o (λ left ls met. tally who count met.entries ≡ 0) (λ left. refl) (λ ls. refl) (λ left l ls e. refl)
      (λ left l ls fs e f h.
      omega (
        arith,
        fills_none o count not-fills who l.price left fs l.queue,
        tally_append who count (of_fills o l.price left fs l.queue) (meets split o (left - total fs) ls).entries,
      ))
