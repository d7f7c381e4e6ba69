-- Trades keep to limits, and the best price comes first.
use Rattle.std.proofs.Common.{◌≡◌, ℕ, zero, suc, ◌-◌, ◌⊎◌, List, [], ◌∷◌, ◌++◌, sym, refl, ap, ◌∙◌, subst, inl, inr, arith}
use Rattle.std.specs.List.{AllByRecursion}
use Rattle.fix.specs.declared.command.Side.{Side}
use Rattle.fix.specs.declared.command.Side.TheVariants.{Buy, Sell}
use Rattle.fix.specs.Command.{NewOrder, Command, new, cancel}
use Rattle.market.specs.declared.resting.Resting.{Resting}
use Rattle.market.specs.declared.entry.Event.TheVariants.{Filled}
use Rattle.market.specs.declared.entry.Entry.{Entry}
use Rattle.market.specs.Market.{Level, Market, empty, other, levels, total}
use Rattle.market.specs.Put.{entry, after_fills, kept, of_fills, Met, meets, trades, after}
use Rattle.market.specs.Split.{Splits}
use Rattle.market.specs.Prices.{Better, Allows}
use Rattle.market.specs.Shape.{Sorted}
use Rattle.market.specs.Fair.{Placed, price_of, FairTrade, EachTrade, Fair, AlwaysFair}
use Rattle.market.proofs.Fills.{done_or_gone}
use Rattle.market.proofs.Levels.{Prices, better_differs, allowed, prices_weaker, all_kept}
use Rattle.market.proofs.Meets.{meets_all, prices_meets}
use Rattle.market.proofs.Sides.{levels_other}
use Rattle.market.proofs.Cases.{order_cases}
use Rattle.market.proofs.Orders.{Orders}
use Rattle.market.proofs.Shapes.{always_shaped}
use Rattle.market.proofs.Placed.{placed_after}

module _ (o : NewOrder) (P : Entry → Type 0) where
  -- the trades of a queue, and those that follow
  each_fills : (price : ℕ) (Q : Resting → Type 0)
      → ((r : Resting) (f : ℕ) → Q r → P (entry o.number r.member r.order (Filled (other o.side) (suc f) price (r.lots - suc f))))
      → (left : ℕ) (fs : List ℕ) (rs : List Resting) (es : List Entry) → AllByRecursion Q rs → EachTrade P es → EachTrade P (of_fills o price left fs rs ++ es)
  each_fills price Q trade left [] rs es a t = t
  each_fills price Q trade left (f ∷ fs) [] es a t = t
  each_fills price Q trade left (zero ∷ fs) (r ∷ rs) es a t = each_fills price Q trade (left - 0) fs rs es a.1 t
  each_fills price Q trade left (suc f ∷ fs) (r ∷ rs) es a t = (trade r f a.0, each_fills price Q trade (left - suc f) fs rs es a.1 t)

any_order : (rs : List Resting) → AllByRecursion (λ _. Unit {0}) rs
any_order [] = tt
any_order (r ∷ rs) = (tt, any_order rs)

both_of : (P Q R : Entry → Type 0) → ((e : Entry) → P e → Q e → R e) → (es : List Entry) → EachTrade P es → EachTrade Q es → EachTrade R es
both_of P Q R f [] a b = tt
both_of P Q R f (x ∷ []) a b = absurd a
both_of P Q R f (x ∷ (y ∷ es)) a b = (f x a.0 b.0, both_of P Q R f es a.1 b.1)

-- no level is better than a price
abbrev NoneBetter : Side → ℕ → List Level → Type 0
NoneBetter side price ls = Prices (λ p. Better side p price → ⊥) ls

better_once : (side : Side) (p q : ℕ) → Better side p q → Better side q p → ⊥
better_once Buy p q a b = omega arith
better_once Sell p q a b = omega arith

none_better : (side : Side) (p : ℕ) (rs : List Resting) (ls : List Level) → Prices (Better side p) ls → NoneBetter side p (kept p rs ls)
none_better side p rs ls e =
    all_kept (λ l. Better side l.price p → ⊥) p rs ls (λ _ b. better_differs side p p b refl) (prices_weaker (Better side p) (λ q. Better side q p → ⊥) (λ q a b. better_once side p q a b) ls e)

module _ (split : ℕ → List ℕ → List ℕ) (means : Splits split) (o : NewOrder) where
  limits_meets : (cs : List Command) (left : ℕ) (ls : List Level) → Orders (λ price r. Placed cs (other o.side) r.member r.order price) ls
      → EachTrade (λ e. Allows o.side o.price (price_of e.event) × Placed cs (other o.side) e.member e.order (price_of e.event)) (meets split o left ls).entries
  limits_meets cs = meets_all split means o (λ left ls met. Orders (λ price r. Placed cs (other o.side) r.member r.order price) ls → EachTrade Keeps met.entries)
      (λ left a. tt) (λ ls a. tt) (λ left l ls e a. tt)
      (λ left l ls fs e f h a. each_fills o Keeps l.price (λ r. Placed cs (other o.side) r.member r.order l.price)
      (λ r f q. (allowed o.side o.price l.price e, q)) left fs l.queue (meets split o (left - total fs) ls).entries a.0 (h a.1))
    where
      Keeps : Entry → Type 0
      Keeps e = Allows o.side o.price (price_of e.event) × Placed cs (other o.side) e.member e.order (price_of e.event)

  abbrev BestIn : List Level → Entry → Type 0
  BestIn ls theirs = NoneBetter (other o.side) (price_of theirs.event) ls

  meets_nothing : (ls : List Level) → (meets split o 0 ls).entries ≡ []
  meets_nothing [] = refl
  meets_nothing (l ∷ ls) = refl

  best_meets : (left : ℕ) (ls : List Level) → Sorted (other o.side) ls → EachTrade (BestIn (meets split o left ls).levels) (meets split o left ls).entries
  best_meets = meets_all split means o (λ left ls met. Sorted (other o.side) ls → EachTrade (BestIn met.levels) met.entries)
      (λ left s. tt) (λ ls s. tt) (λ left l ls e s. tt)
      (λ left l ls fs e f h s.
      let rest = meets split o (left - total fs) ls in
      let b = none_better (other o.side) l.price (after_fills fs l.queue) rest.levels (prices_meets split means o (Better (other o.side) l.price) (left - total fs) ls s.0) in
      each_fills o (BestIn (kept l.price (after_fills fs l.queue) rest.levels)) l.price (λ _. Unit {0}) (λ _ _ _. b) left fs l.queue rest.entries
      (any_order l.queue) (go left l ls fs (h s.1) (done_or_gone split left l.queue fs f)))
    where
      go : (left : ℕ) (l : Level) (ls : List Level) (fs : List ℕ)
          → EachTrade (BestIn (meets split o (left - total fs) ls).levels) (meets split o (left - total fs) ls).entries
          → (left - total fs ≡ 0) ⊎ (after_fills fs l.queue ≡ [])
          → EachTrade (BestIn (kept l.price (after_fills fs l.queue) (meets split o (left - total fs) ls).levels)) (meets split o (left - total fs) ls).entries
      go left l ls fs h (inl z) =
          let n : (meets split o (left - total fs) ls).entries ≡ [] = ap (λ (k : ℕ). (meets split o k ls).entries) z ∙ meets_nothing ls in rw n tt
      go left l ls fs h (inr e) = rw e h

pub always_fair : (split : ℕ → List ℕ → List ℕ) → Splits split → AlwaysFair split
always_fair split means cs (new o) =
    order_cases split o m (λ out. Fair cs (new o) out) (λ _. tt) (λ _ _ _. tt)
    (λ _ _. both_of (λ e. Allows o.side o.price (price_of e.event) × Placed cs (other o.side) e.member e.order (price_of e.event))
    (BestIn split means o met.levels) (FairTrade cs o (trades split o m).market)
    (λ e a b. record {
      allowed = a.0;
      own_limit = a.1;
      best_first = subst (NoneBetter (other o.side) (price_of e.event)) (sym (levels_other o.side _ met.levels m)) b;
    })
    met.entries (limits_meets split means o cs o.lots there (placed_after split means cs (other o.side)))
    (best_meets split means o o.lots there ((always_shaped split means cs).sorted (other o.side))))
  where
    m : Market
    m = after split cs empty

    there : List Level
    there = levels (other o.side) m

    met : Met
    met = meets split o o.lots there
always_fair split means cs (cancel c) = tt
