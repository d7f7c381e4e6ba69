-- The entries of every row tell what rests.
use Rattle.std.proofs.Common.{◌≡◌, ℕ, ◌+◌, ◌<◌, ◌≤◌, Bool, true, false, cond, eqb, ◌⊎◌, List, [], ◌∷◌, is_some, Some, sym, refl, ap, ◌∙◌, ap₂, inl, inr, arith}
use Rattle.std.proofs.lemmas.Bool.{eqb-true, and_parts, cases_eq, cases_Bool}
use Rattle.fix.specs.declared.command.Side.{Side}
use Rattle.fix.specs.Command.{NewOrder, Cancel, Command, new, cancel}
use Rattle.market.specs.declared.resting.Resting.{Resting}
use Rattle.market.specs.Market.{Level, Market, empty, other, levels, in_levels, known}
use Rattle.market.specs.Put.{Met, meets, rests, out_of_levels, trades, cancelled, put, after, entries_of}
use Rattle.market.specs.Split.{Splits}
use Rattle.market.specs.Tally.{by_order, lots_at, times_at}
use Rattle.market.specs.Shape.{Shape}
use Rattle.market.specs.Told.{told, lots_resting, AlwaysTold}
use Rattle.market.proofs.Joins.{lots_rests}
use Rattle.market.proofs.Leaves.{gone, lots_out, some_at, none_lots}
use Rattle.market.proofs.Meets.{times_meets}
use Rattle.market.proofs.Sides.{both_sum, one_sum, sum_of}
use Rattle.market.proofs.Cases.{order_cases, cancel_cases}
use Rattle.market.proofs.Shapes.{shape_empty, fresh, keeps_shape}
use Rattle.market.proofs.OneOrder.{told_append, own_meets, none_meets, one_meets}

-- a new order that is accepted
module _ (member order : ℕ) (o : NewOrder) (split : ℕ → List ℕ → List ℕ) (means : Splits split) where
  told_trades : (m : Market) → Shape m → known o.member o.order m ≡ false → told member order (lots_resting member order m) (trades split o m).entries ≡ lots_resting member order (trades split o m).market
  told_trades m g absent = go (cases_Bool (by_order member order o.member o.order)) (cases_eq (times_at member order (levels (other o.side) m)) 0)
    where
      met : Met
      met = meets split o o.lots (levels (other o.side) m)

      who : ℕ → ℕ → Bool
      who = by_order member order

      -- the lots before and after, by side
      facts : (lots_resting member order m ≡ lots_at who (levels o.side m) + lots_at who (levels (other o.side) m))
          × (lots_resting member order (trades split o m).market ≡ lots_at who (rests o met.left (levels o.side m)) + lots_at who met.levels)
          × (lots_at who (rests o met.left (levels o.side m)) ≡ cond (who o.member o.order) met.left 0 + lots_at who (levels o.side m))
          × (times_at member order met.levels ≤ times_at member order (levels (other o.side) m))
          × (cond (who o.member o.order) 1 0 + (times_at member order (levels o.side m) + times_at member order (levels (other o.side) m)) ≤ 1)
      facts = (
        sum_of (lots_at who) o.side m,
        both_sum (lots_at who) o.side (rests o met.left (levels o.side m)) met.levels m,
        lots_rests o who met.left (levels o.side m),
        times_meets split means o member order o.lots (levels (other o.side) m),
        omega (arith, fresh o m g absent member order, sum_of (times_at member order) o.side m),
      )

      start : (n : ℕ) → cond (who o.member o.order) o.lots (lots_resting member order m) ≡ n → told member order (lots_resting member order m) (trades split o m).entries ≡ told member order n met.entries
      start n e = ap (λ (k : ℕ). told member order k met.entries) e

      go : (by_order member order o.member o.order ≡ true) ⊎ (by_order member order o.member o.order ≡ false)
          → (times_at member order (levels (other o.side) m) ≡ 0) ⊎ (times_at member order (levels (other o.side) m) ≡ 0 → ⊥)
          → told member order (lots_resting member order m) (trades split o m).entries ≡ lots_resting member order (trades split o m).market
      go (inl own) y =
          let c = ap (λ (b : Bool). cond b met.left 0) own in
          let one : ◌≡◌ {A = ℕ} (cond (who o.member o.order) 1 0) 1 = ap {B = ℕ} (λ (b : Bool). cond b 1 0) own in
          let f = facts in
          let s = start o.lots (ap (λ (b : Bool). cond b o.lots (lots_resting member order m)) own) in
          let h = own_meets member order o split means own o.lots (levels (other o.side) m) (omega arith) in
          let x = none_lots member order (levels o.side m) (omega arith) in
          let z = none_lots member order met.levels (omega arith) in
          omega arith
      go (inr own) (inl z) =
          let c = ap (λ (b : Bool). cond b met.left 0) own in
          let f = facts in
          let s = start (lots_resting member order m) (ap (λ (b : Bool). cond b o.lots (lots_resting member order m)) own) in
          let h = none_meets member order o split means own (lots_resting member order m) o.lots (levels (other o.side) m) z in
          let x = none_lots member order (levels (other o.side) m) z in
          let y = none_lots member order met.levels (omega arith) in
          omega arith
      go (inr own) (inr z) =
          let c = ap (λ (b : Bool). cond b met.left 0) own in
          let f = facts in
          let x = none_lots member order (levels o.side m) (omega arith) in
          let s = start (lots_at who (levels (other o.side) m)) (ap (λ (b : Bool). cond b o.lots (lots_resting member order m)) own ∙ omega arith) in
          let h = one_meets member order o split means own o.lots (levels (other o.side) m) (omega arith) in
          omega arith

-- an order found is cancelled whole, and no other
told_cancelled : (member order : ℕ) (c : Cancel) (m : Market) → Shape m → (side : Side) (r : Resting) → in_levels c.member c.order (levels side m) ≡ Some r
    → told member order (lots_resting member order m) (cancelled c side r m).entries ≡ lots_resting member order (cancelled c side r m).market
told_cancelled member order c m g side r found = go (cases_Bool (by_order member order c.member c.order))
  where
    out : List Level
    out = out_of_levels c.member c.order (levels side m)

    some : 0 < times_at c.member c.order (levels side m)
    some = some_at c.member c.order (levels side m) (ap is_some found)

    once : times_at c.member c.order (levels side m) + times_at c.member c.order (levels (other side) m) ≤ 1
    once = omega (arith, sum_of (times_at c.member c.order) side m, g.once c.member c.order)

    go : (by_order member order c.member c.order ≡ true) ⊎ (by_order member order c.member c.order ≡ false)
        → told member order (lots_resting member order m) (cancelled c side r m).entries ≡ lots_resting member order (cancelled c side r m).market
    go (inl e) =
        let x = and_parts (eqb c.member member) (eqb c.order order) e in
        let here = none_lots c.member c.order out (gone c.member c.order (levels side m) (omega (arith, once))) in
        let there = none_lots c.member c.order (levels (other side) m) (omega (arith, once, some)) in
        let z : lots_resting c.member c.order (cancelled c side r m).market ≡ 0 = omega (arith, one_sum (lots_at (by_order c.member c.order)) side out m) in
        let s = ap₂ (λ (i j : ℕ). lots_resting i j (cancelled c side r m).market) (eqb-true c.member member x.0) (eqb-true c.order order x.1) in
        ap (λ (b : Bool). cond b 0 (lots_resting member order m)) e ∙ sym z ∙ s
    go (inr e) =
        ap (λ (b : Bool). cond b 0 (lots_resting member order m)) e
        ∙ omega (
          arith,
          sum_of (lots_at (by_order member order)) side m,
          one_sum (lots_at (by_order member order)) side out m,
          lots_out c.member c.order (by_order member order) (levels side m) r (omega (arith, once)) found,
          ap (λ (b : Bool). cond b r.lots 0) e,
        )

same_cond : (b : Bool) (n : ℕ) → cond b n n ≡ n
same_cond true n = refl
same_cond false n = refl

module _ (split : ℕ → List ℕ → List ℕ) (means : Splits split) (member order : ℕ) where
  told_put : (c : Command) (m : Market) → Shape m → told member order (lots_resting member order m) (put split c m).entries ≡ lots_resting member order (put split c m).market
  told_put (new o) m g =
      let same = same_cond (by_order member order o.member o.order) (lots_resting member order m) in
      order_cases split o m (λ out. told member order (lots_resting member order m) out.entries ≡ lots_resting member order out.market)
      (λ _. same) (λ _ _ _. same) (λ absent _. told_trades member order o split means m g absent)
  told_put (cancel c) m g =
      cancel_cases c m (λ out. told member order (lots_resting member order m) out.entries ≡ lots_resting member order out.market)
      (told_cancelled member order c m g) (λ _. same_cond (by_order member order c.member c.order) (lots_resting member order m))

  told_row : (cs : List Command) (m : Market) → Shape m → told member order (lots_resting member order m) (entries_of split cs m) ≡ lots_resting member order (after split cs m)
  told_row [] m g = refl
  told_row (c ∷ cs) m g =
      told_append member order (lots_resting member order m) (put split c m).entries (entries_of split cs (put split c m).market)
      ∙ ap (λ (n : ℕ). told member order n (entries_of split cs (put split c m).market)) (told_put c m g)
      ∙ told_row cs (put split c m).market (keeps_shape split means c m g)

pub always_told : (split : ℕ → List ℕ → List ℕ) → Splits split → AlwaysTold split
always_told split means cs member order = told_row split means member order cs empty shape_empty
