-- Each resting order was entered, on its side, with the price at which it rests.
use Rattle.std.proofs.Common.{ℕ, List, [], ◌∷◌, refl, inl, inr}
use Rattle.fix.specs.declared.command.Side.{Side}
use Rattle.fix.specs.declared.command.Side.TheVariants.{Buy, Sell}
use Rattle.fix.specs.Command.{NewOrder, Command, new, cancel}
use Rattle.market.specs.declared.resting.Resting.{Resting}
use Rattle.market.specs.Market.{Market, empty, levels}
use Rattle.market.specs.Put.{put, after}
use Rattle.market.specs.Split.{Splits}
use Rattle.market.specs.Fair.{Entered, Placed}
use Rattle.market.proofs.Orders.{Orders, orders_put}

module _ (split : ℕ → List ℕ → List ℕ) (means : Splits split) where
  -- among the commands of a longer row
  module _ (row : List Command) where
    abbrev EnteredAt : Side → ℕ → Resting → Type 0
    EnteredAt side price r = Placed row side r.member r.order price

    placed_row : (cs : List Command) (m : Market) → ((o : NewOrder) → Entered o cs → Entered o row) → ((s : Side) → Orders (EnteredAt s) (levels s m))
        → (s : Side) → Orders (EnteredAt s) (levels s (after split cs m))
    placed_row [] m i a = a
    placed_row (new o ∷ cs) m i a =
        placed_row cs (put split (new o) m).market (λ p e. i p (inr e))
        (orders_put EnteredAt (λ _ _ _ _ q. q) split means (new o) m (λ left h. (o.number, o.lots, i o (inl refl))) a)
    placed_row (cancel c ∷ cs) m i a = placed_row cs (put split (cancel c) m).market i (orders_put EnteredAt (λ _ _ _ _ q. q) split means (cancel c) m tt a)

  pub placed_after : (cs : List Command) (s : Side) → Orders (λ price r. Placed cs s r.member r.order price) (levels s (after split cs empty))
  placed_after cs = placed_row cs cs empty (λ o e. e) (elim [ Buy ↦ tt | Sell ↦ tt ])
