-- Every lot that was entered was traded, was cancelled, or rests.
use Rattle.std.proofs.Common.{◌≡◌, ℕ, ◌+◌, ◌≤◌, Bool, cond, List, [], ◌∷◌, Some, refl, arith}
use Rattle.fix.specs.declared.command.Side.{Side}
use Rattle.fix.specs.declared.command.Side.TheVariants.{Buy, Sell}
use Rattle.fix.specs.Command.{NewOrder, Cancel, Command, new, cancel}
use Rattle.market.specs.declared.resting.Resting.{Resting}
use Rattle.market.specs.declared.entry.Reason.{Reason}
use Rattle.market.specs.declared.entry.Reason.TheVariants.{BookFull, DuplicateOrder}
use Rattle.market.specs.declared.entry.Entry.{Entry}
use Rattle.market.specs.Market.{Level, Market, empty, other, levels, in_levels}
use Rattle.market.specs.Put.{Outcome, Met, meets, rests, trades, cancelled, put, after, entries_of}
use Rattle.market.specs.Split.{Splits}
use Rattle.market.specs.Tally.{on_side, lots_entered, lots_traded, lots_cancelled, all_orders, by_member, by_order, tally, lots_at, times_at}
use Rattle.market.specs.Balance.{AlwaysBalanced}
use Rattle.market.specs.Shape.{Shape}
use Rattle.market.proofs.Fills.{part_none}
use Rattle.market.proofs.Joins.{lots_rests}
use Rattle.market.proofs.Leaves.{lots_out}
use Rattle.market.proofs.Sides.{both_levels, one_levels, sum_of}
use Rattle.market.proofs.Cases.{turned_down, order_cases, cancel_cases}
use Rattle.market.proofs.Shapes.{shape_empty, keeps_shape}
use Rattle.market.proofs.Tallies.{tally_append, meets_theirs, meets_ours, meets_both, meets_none}

-- over any entries, between two states of a side
abbrev Balances : (ℕ → ℕ → Bool) → Side → List Entry → List Level → List Level → Type 0
Balances who s es before after =
    tally who (lots_entered s) es + lots_at who before ≡ tally who (lots_traded s) es + (tally who (lots_cancelled s) es + lots_at who after)

part_own : (b : Bool) (s : Side) (n : ℕ) → cond b (on_side s s n) 0 ≡ cond b n 0
part_own b Buy n = refl
part_own b Sell n = refl

part_other : (b : Bool) (s : Side) (n : ℕ) → cond b (on_side (other s) s n) 0 ≡ 0
part_other b Buy n = part_none b
part_other b Sell n = part_none b

-- what a command's outcome keeps
record Steps (m : Market) (out : Outcome) : Type 0 where
  balanced : (who : ℕ → ℕ → Bool) (s : Side) → Balances who s out.entries (levels s m) (levels s out.market)
  bought : tally all_orders (lots_traded Buy) out.entries ≡ tally all_orders (lots_traded Sell) out.entries

module _ (split : ℕ → List ℕ → List ℕ) (means : Splits split) where
  trades_steps : (o : NewOrder) (m : Market) → Steps m (trades split o m)
  trades_steps o m = record {
    balanced = λ who. both_levels (λ s. Balances who s (trades split o m).entries (levels s m)) o.side _ met.levels m (here who) (across who);
    bought = omega (arith, meets_both split means o Buy o.lots there, meets_both split means o Sell o.lots there);
  }
    where
      there : List Level
      there = levels (other o.side) m

      met : Met
      met = meets split o o.lots there

      here : (who : ℕ → ℕ → Bool) → Balances who o.side (trades split o m).entries (levels o.side m) (rests o met.left (levels o.side m))
      here who =
          omega (
            arith,
            meets_ours split means o who o.lots there,
            meets_none split means o (lots_entered o.side) (λ _ _ _ _. refl) who o.lots there,
            meets_none split means o (lots_cancelled o.side) (λ _ _ _ _. refl) who o.lots there,
            lots_rests o who met.left (levels o.side m),
            part_none (who o.member o.order),
            part_own (who o.member o.order) o.side o.lots,
          )

      across : (who : ℕ → ℕ → Bool) → Balances who (other o.side) (trades split o m).entries there met.levels
      across who =
          omega (
            arith,
            meets_theirs split means o who o.lots there,
            meets_none split means o (lots_entered (other o.side)) (λ _ _ _ _. refl) who o.lots there,
            meets_none split means o (lots_cancelled (other o.side)) (λ _ _ _ _. refl) who o.lots there,
            part_none (who o.member o.order),
            part_other (who o.member o.order) o.side o.lots,
          )

  cancelled_steps : (c : Cancel) (m : Market) → Shape m → (side : Side) (r : Resting) → in_levels c.member c.order (levels side m) ≡ Some r → Steps m (cancelled c side r m)
  cancelled_steps c m g side r found =
      let t : times_at c.member c.order (levels side m) ≤ 1 = omega (arith, sum_of (times_at c.member c.order) side m, g.once c.member c.order) in
      record {
        balanced = λ who. one_levels (λ s. Balances who s (cancelled c side r m).entries (levels s m)) side _ m
            (omega (arith, part_none (who c.member c.order), part_own (who c.member c.order) side r.lots, lots_out c.member c.order who (levels side m) r t found))
            (omega (arith, part_none (who c.member c.order), part_other (who c.member c.order) side r.lots));
        bought = refl;
      }

  put_steps : (c : Command) (m : Market) → Shape m → Steps m (put split c m)
  put_steps (new o) m g = order_cases split o m (Steps m) (λ _. down DuplicateOrder) (λ _ _ _. down BookFull) (λ _ _. trades_steps o m)
    where
      down : (reason : Reason) → Steps m (turned_down o reason m)
      down reason = record { balanced = λ who s. omega (arith, part_none (who o.member o.order)); bought = refl }
  put_steps (cancel c) m g =
      cancel_cases c m (Steps m) (cancelled_steps c m g) (λ _. record { balanced = λ who s. omega (arith, part_none (who c.member c.order)); bought = refl })

  balanced_after : (cs : List Command) (m : Market) → Shape m → (who : ℕ → ℕ → Bool) (s : Side) → Balances who s (entries_of split cs m) (levels s m) (levels s (after split cs m))
  balanced_after [] m g who s = omega arith
  balanced_after (c ∷ cs) m g who s =
      let es = (put split c m).entries in
      let more = entries_of split cs (put split c m).market in
      omega (
        arith,
        (put_steps c m g).balanced who s,
        balanced_after cs (put split c m).market (keeps_shape split means c m g) who s,
        tally_append who (lots_entered s) es more,
        tally_append who (lots_traded s) es more,
        tally_append who (lots_cancelled s) es more,
      )

  bought_after : (cs : List Command) (m : Market) → Shape m
      → tally all_orders (lots_traded Buy) (entries_of split cs m) ≡ tally all_orders (lots_traded Sell) (entries_of split cs m)
  bought_after [] m g = refl
  bought_after (c ∷ cs) m g =
      let es = (put split c m).entries in
      let more = entries_of split cs (put split c m).market in
      omega (
        arith,
        (put_steps c m g).bought,
        bought_after cs (put split c m).market (keeps_shape split means c m g),
        tally_append all_orders (lots_traded Buy) es more,
        tally_append all_orders (lots_traded Sell) es more,
      )

  nothing_rests : (who : ℕ → ℕ → Bool) (side : Side) → lots_at who (levels side empty) ≡ 0
  nothing_rests who Buy = refl
  nothing_rests who Sell = refl

  pub always_balanced : AlwaysBalanced split
  always_balanced cs = record {
    each_member = λ member side. omega (arith, balanced_after cs empty shape_empty (by_member member) side, nothing_rests (by_member member) side);
    each_order = λ member order side. omega (arith, balanced_after cs empty shape_empty (by_order member order) side, nothing_rests (by_order member order) side);
    bought_is_sold = bought_after cs empty shape_empty;
  }
