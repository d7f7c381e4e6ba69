-- The outcomes of a command, case by case.
use Rattle.std.proofs.Common.{◌≡◌, ℕ, true, false, not, ◌&&◌, leb, ◌⊎◌, List, [], ◌∷◌, is_some, Some, None, Option, refl, ap, inl, inr, ⊎_elim}
use Rattle.std.proofs.lemmas.Bool.{not-true, not-false, and_parts, and_cases, or_from, cond_both}
use Rattle.fix.specs.declared.command.Side.{Side}
use Rattle.fix.specs.declared.command.Side.TheVariants.{Buy, Sell}
use Rattle.fix.specs.Command.{NewOrder, Cancel}
use Rattle.market.specs.declared.resting.Resting.{Resting}
use Rattle.market.specs.declared.entry.Reason.{Reason}
use Rattle.market.specs.declared.entry.Reason.TheVariants.{BookFull, UnknownOrder, DuplicateOrder}
use Rattle.market.specs.declared.entry.Event.TheVariants.{OrderTurnedDown, CancelTurnedDown}
use Rattle.market.specs.Market.{Market, other, levels, best_crosses, in_levels, known, all_resting, capacity}
use Rattle.market.specs.Put.{Outcome, entry, trades, put_order_at, put_order, cancelled, put_cancel_at, put_cancel}

abbrev pub turned_down : NewOrder → Reason → Market → Outcome
turned_down o reason m = record { market = m; entries = entry o.number o.member o.order (OrderTurnedDown o.side reason) ∷ [] }

-- a new order
module _ (split : ℕ → List ℕ → List ℕ) (o : NewOrder) (m : Market) (P : Outcome → Type 0) where
  pub order_cases : (known o.member o.order m ≡ true → P (turned_down o DuplicateOrder m))
      → (known o.member o.order m ≡ false → leb capacity (all_resting m) ≡ true → best_crosses o.side o.price (levels (other o.side) m) ≡ false → P (turned_down o BookFull m))
      → (known o.member o.order m ≡ false → (leb capacity (all_resting m) ≡ false) ⊎ (best_crosses o.side o.price (levels (other o.side) m) ≡ true) → P (trades split o m))
      → P (put_order split o m)
  order_cases duplicate full traded =
      cond_both (known o.member o.order m) _ _ (λ (reason : Option Reason). P (put_order_at split o m reason)) duplicate
      (λ absent. cond_both (leb capacity (all_resting m) && not (best_crosses o.side o.price (levels (other o.side) m))) _ _ (λ (reason : Option Reason). P (put_order_at split o m reason))
      (λ e. let x = and_parts _ _ e in full absent x.0 (not-true _ x.1))
      (λ e. traded absent (⊎_elim inl (λ x. inr (not-false _ x)) (and_cases _ _ e))))

-- a cancel of an order that rests on a side, or nowhere
abbrev pub not_found : Cancel → Market → Outcome
not_found c m = record { market = m; entries = entry c.number c.member c.order (CancelTurnedDown UnknownOrder) ∷ [] }

module _ (c : Cancel) (m : Market) (P : Outcome → Type 0) where
  pub cancel_cases : ((side : Side) (r : Resting) → in_levels c.member c.order (levels side m) ≡ Some r → P (cancelled c side r m))
      → (known c.member c.order m ≡ false → P (not_found c m))
      → P (put_cancel c m)
  cancel_cases found none = go (in_levels c.member c.order m.buys) (in_levels c.member c.order m.sells) refl refl
    where
      go : (b s : Option Resting) → in_levels c.member c.order m.buys ≡ b → in_levels c.member c.order m.sells ≡ s → P (put_cancel_at c m b s)
      go (Some r) s x y = found Buy r x
      go None (Some r) x y = found Sell r y
      go None None x y = none (or_from _ _ (ap is_some x) (ap is_some y))
