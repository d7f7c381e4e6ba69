-- Every command keeps a market's shape.
use Rattle.std.proofs.Common.{◌≡◌, ℕ, suc, ◌+◌, ◌<◌, ◌≤◌, true, false, cond, leb, ◌⊎◌, List, [], ◌∷◌, subst₂, inl, inr, arith}
use Rattle.std.specs.List.{AllByRecursion}
use Rattle.std.proofs.lemmas.Bool.{leb-false, eqb-true, and_parts, cond_both}
use Rattle.fix.specs.declared.command.Side.{Side}
use Rattle.fix.specs.declared.command.Side.TheVariants.{Buy, Sell}
use Rattle.fix.specs.Command.{NewOrder, Cancel, Command, new, cancel}
use Rattle.market.specs.declared.resting.Resting.{Resting}
use Rattle.market.specs.Market.{Level, Market, empty, other, levels, best_crosses, known, resting, all_resting, capacity}
use Rattle.market.specs.Put.{Met, meets, rests, out_of_levels, trades, cancelled, put, after}
use Rattle.market.specs.Split.{Splits}
use Rattle.market.specs.Tally.{by_order, times_at, times}
use Rattle.market.specs.Shape.{Sorted, Occupied, Shape, KeepsShape, AlwaysShaped}
use Rattle.market.proofs.Levels.{Prices, Clear, prices_weaker}
use Rattle.market.proofs.Joins.{sorted_rests, occupied_rests, prices_rests, times_rests, resting_rests}
use Rattle.market.proofs.Leaves.{prices_out, sorted_out, occupied_out, times_out, resting_out, unknown}
use Rattle.market.proofs.Meets.{prices_meets, sorted_meets, occupied_meets, clear_meets, resting_meets, place_meets, times_meets}
use Rattle.market.proofs.Sides.{both, both_levels, both_sum, one_levels, one_sum, sum_of, Facing, facing_of, both_facing, one_facing, facing_from_best, best_from_facing}
use Rattle.market.proofs.Cases.{order_cases, cancel_cases}

pub shape_empty : Shape empty
shape_empty = record {
  sorted = elim [ Buy ↦ tt | Sell ↦ tt ];
  occupied = elim [ Buy ↦ tt | Sell ↦ tt ];
  uncrossed = tt;
  few = omega arith;
  once = λ member order. omega arith;
}

pub facing : (m : Market) → Shape m → Facing Buy m.buys m.sells
facing m g = facing_from_best m.buys m.sells (g.sorted Buy) (g.sorted Sell) g.uncrossed

-- a new order's number may be added where it does not rest
pub fresh : (o : NewOrder) (m : Market) → Shape m → known o.member o.order m ≡ false → (member order : ℕ)
    → cond (by_order member order o.member o.order) 1 0 + times member order m ≤ 1
fresh o m g absent member order =
    cond_both (by_order member order o.member o.order) 1 0 (λ n. n + times member order m ≤ 1)
    (λ e. let x = and_parts _ _ e in
    let n : 1 + times o.member o.order m ≤ 1 = omega (arith, unknown o.member o.order m absent) in
    subst₂ (λ (i j : ℕ). 1 + times i j m ≤ 1) (eqb-true _ _ x.0) (eqb-true _ _ x.1) n)
    (λ _. omega (arith, g.once member order))

module _ (split : ℕ → List ℕ → List ℕ) (means : Splits split) where
  -- an order that is accepted
  module _ (o : NewOrder) (m : Market) (g : Shape m) where
    abbrev there : List Level
    there = levels (other o.side) m

    abbrev met : Met
    met = meets split o o.lots there

    abbrev own : List Level
    own = rests o met.left (levels o.side m)

    facing_trades : Facing o.side own met.levels
    facing_trades =
        prices_rests o (λ limit. Prices (Clear o.side limit) met.levels) met.left (levels o.side m)
        (clear_meets split means o o.lots there (g.sorted (other o.side)))
        (prices_weaker (λ limit. Prices (Clear o.side limit) there) (λ limit. Prices (Clear o.side limit) met.levels)
        (λ limit. prices_meets split means o (Clear o.side limit) o.lots there)
        (levels o.side m) (facing_of o.side m (facing m g)))

    few_trades : (leb capacity (all_resting m) ≡ false) ⊎ (best_crosses o.side o.price there ≡ true) → all_resting (both o.side own met.levels m) ≤ 1024
    few_trades room = go room (resting_rests o met.left (levels o.side m))
      where
        facts : (all_resting (both o.side own met.levels m) ≡ resting own + resting met.levels) × (all_resting m ≡ resting (levels o.side m) + resting there)
            × (resting met.levels ≤ resting there) × (all_resting m ≤ 1024)
        facts = (both_sum resting o.side own met.levels m, sum_of resting o.side m, resting_meets split means o o.lots there, g.few)

        go : (leb capacity (all_resting m) ≡ false) ⊎ (best_crosses o.side o.price there ≡ true)
            → (resting own ≡ resting (levels o.side m)) ⊎ ((0 < met.left) × (resting own ≡ suc (resting (levels o.side m))))
            → all_resting (both o.side own met.levels m) ≤ 1024
        go x (inl y) = omega (arith, facts)
        go (inl x) (inr y) = omega (arith, facts, leb-false capacity (all_resting m) x)
        go (inr x) (inr y) = omega (arith, facts, place_meets split means o o.lots there (g.occupied (other o.side)) x)

    once_trades : known o.member o.order m ≡ false → (member order : ℕ) → times member order (both o.side own met.levels m) ≤ 1
    once_trades absent member order =
        omega (
          arith,
          both_sum (times_at member order) o.side own met.levels m,
          sum_of (times_at member order) o.side m,
          fresh o m g absent member order,
          times_rests o member order met.left (levels o.side m),
          times_meets split means o member order o.lots there,
        )

    shape_trades : known o.member o.order m ≡ false → (leb capacity (all_resting m) ≡ false) ⊎ (best_crosses o.side o.price there ≡ true) → Shape (trades split o m).market
    shape_trades absent room = record {
      sorted = both_levels Sorted o.side own met.levels m
          (sorted_rests o met.left (levels o.side m) (g.sorted o.side))
          (sorted_meets split means o (other o.side) o.lots there (g.sorted (other o.side)));
      occupied = both_levels (λ s. AllByRecursion Occupied) o.side own met.levels m
          (occupied_rests o met.left (levels o.side m) (g.occupied o.side))
          (occupied_meets split means o o.lots there (g.occupied (other o.side)));
      uncrossed = best_from_facing _ _ (both_facing o.side own met.levels m facing_trades);
      few = few_trades room;
      once = once_trades absent;
    }

-- an order that is cancelled
module _ (c : Cancel) (m : Market) (g : Shape m) (side : Side) (r : Resting) where
  abbrev without : List Level
  without = out_of_levels c.member c.order (levels side m)

  shape_cancelled : Shape (cancelled c side r m).market
  shape_cancelled = record {
    sorted = one_levels Sorted side without m (sorted_out c.member c.order side (levels side m) (g.sorted side)) (g.sorted (other side));
    occupied = one_levels (λ s. AllByRecursion Occupied) side without m (occupied_out c.member c.order (levels side m) (g.occupied side)) (g.occupied (other side));
    uncrossed = best_from_facing _ _
        (one_facing side without m (prices_out c.member c.order (λ limit. Prices (Clear side limit) (levels (other side) m)) (levels side m) (facing_of side m (facing m g))));
    few = omega (arith, one_sum resting side without m, sum_of resting side m, resting_out c.member c.order (levels side m), g.few);
    once = λ member order.
        omega (arith, one_sum (times_at member order) side without m, sum_of (times_at member order) side m, times_out c.member c.order member order (levels side m), g.once member order);
  }

pub keeps_shape : (split : ℕ → List ℕ → List ℕ) → Splits split → KeepsShape split
keeps_shape split means (new o) m g = order_cases split o m (λ out. Shape out.market) (λ _. g) (λ _ _ _. g) (shape_trades split means o m g)
keeps_shape split means (cancel c) m g = cancel_cases c m (λ out. Shape out.market) (λ side r _. shape_cancelled c m g side r) (λ _. g)

shape_after : (split : ℕ → List ℕ → List ℕ) → Splits split → (cs : List Command) (m : Market) → Shape m → Shape (after split cs m)
shape_after split means [] m g = g
shape_after split means (c ∷ cs) m g = shape_after split means cs (put split c m).market (keeps_shape split means c m g)

pub always_shaped : (split : ℕ → List ℕ → List ℕ) → Splits split → AlwaysShaped split
always_shaped split means cs = shape_after split means cs empty shape_empty
