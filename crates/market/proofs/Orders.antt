-- What holds of each resting order, by its price, and is kept by every command.
use Rattle.std.proofs.Common.{ℕ, zero, suc, ◌-◌, ◌≤◌, ltb, List, [], ◌∷◌, subst, arith}
use Rattle.std.specs.List.{AllByRecursion}
use Rattle.std.proofs.lemmas.Bool.{cond_both}
use Rattle.std.proofs.ByRecursion.{All-push}
use Rattle.fix.specs.declared.command.Side.{Side}
use Rattle.fix.specs.Command.{NewOrder, Command, new, cancel}
use Rattle.market.specs.declared.resting.Resting.{Resting}
use Rattle.market.specs.Market.{Level, Market, other, levels, total}
use Rattle.market.specs.Put.{less, after_fills, meets, joins, rests, out_of_queue, out_of_levels, put}
use Rattle.market.specs.Split.{Splits}
use Rattle.market.specs.Shape.{KeepsLots}
use Rattle.market.proofs.Levels.{all_kept}
use Rattle.market.proofs.Joins.{joins_cases, remainder}
use Rattle.market.proofs.Leaves.{all_without}
use Rattle.market.proofs.Meets.{meets_all, left_less}
use Rattle.market.proofs.Sides.{both_levels, one_levels}
use Rattle.market.proofs.Cases.{order_cases, cancel_cases}

-- each order of levels
abbrev pub Orders : (ℕ → Resting → Type 0) → List Level → Type 0
Orders Q ls = AllByRecursion (λ l. AllByRecursion (Q l.price) l.queue) ls

-- a fact that an order keeps as it is filled
module _ (Q : ℕ → Resting → Type 0) (lessens : (price fill : ℕ) (r : Resting) → Q price r → Q price (less r fill)) where
  orders_after : (price : ℕ) (fs : List ℕ) (rs : List Resting) → AllByRecursion (Q price) rs → AllByRecursion (Q price) (after_fills fs rs)
  orders_after price [] rs a = a
  orders_after price (f ∷ fs) [] a = tt
  orders_after price (f ∷ fs) (r ∷ rs) a =
      cond_both (ltb f r.lots) _ _ (AllByRecursion (Q price)) (λ _. (lessens price f r a.0, orders_after price fs rs a.1)) (λ _. orders_after price fs rs a.1)

  orders_meets : (split : ℕ → List ℕ → List ℕ) → Splits split → (o : NewOrder) (left : ℕ) (ls : List Level) → Orders Q ls → Orders Q (meets split o left ls).levels
  orders_meets split means o = meets_all split means o (λ left ls met. Orders Q ls → Orders Q met.levels) (λ left a. tt) (λ ls a. a) (λ left l ls e a. a)
      (λ left l ls fs e f h a. all_kept (λ l. AllByRecursion (Q l.price) l.queue) l.price (after_fills fs l.queue) (meets split o (left - total fs) ls).levels
      (λ _. orders_after l.price fs l.queue a.0) (h a.1))

  orders_joins : (side : Side) (price : ℕ) (r : Resting) (ls : List Level) → Q price r → Orders Q ls → Orders Q (joins side price r ls)
  orders_joins side price r [] q a = ((q, tt), tt)
  orders_joins side price r (l ∷ ls) q a =
      joins_cases side price r (Orders Q) l ls (λ _. (a.0, orders_joins side price r ls q a.1)) (λ _. ((q, tt), a))
      (λ e. (All-push (Q l.price) l.queue r a.0 (subst (λ (p : ℕ). Q p r) e q), a.1))

  orders_rests : (o : NewOrder) (left : ℕ) (ls : List Level) → Q o.price (remainder o left) → Orders Q ls → Orders Q (rests o left ls)
  orders_rests o zero ls q a = a
  orders_rests o (suc left) ls q a = orders_joins o.side o.price (remainder o (suc left)) ls q a

  orders_out : (m o : ℕ) (ls : List Level) → Orders Q ls → Orders Q (out_of_levels m o ls)
  orders_out m o [] a = tt
  orders_out m o (l ∷ ls) a =
      all_kept (λ l. AllByRecursion (Q l.price) l.queue) l.price (out_of_queue m o l.queue) (out_of_levels m o ls)
      (λ _. all_without m o (Q l.price) l.queue a.0) (orders_out m o ls a.1)

module _ (Q : Side → ℕ → Resting → Type 0) (lessens : (side : Side) (price fill : ℕ) (r : Resting) → Q side price r → Q side price (less r fill)) where
  -- what is left of a new order has it
  abbrev pub Joining : Command → Type 0
  Joining (new o) = (left : ℕ) → left ≤ o.lots → Q o.side o.price (remainder o left)
  Joining (cancel c) = Unit {0}

  pub orders_put : (split : ℕ → List ℕ → List ℕ) → Splits split → (c : Command) (m : Market) → Joining c
      → ((s : Side) → Orders (Q s) (levels s m)) → (s : Side) → Orders (Q s) (levels s (put split c m).market)
  orders_put split means (new o) m q a =
      order_cases split o m (λ out. (s : Side) → Orders (Q s) (levels s out.market)) (λ _. a) (λ _ _ _. a)
      (λ _ _. both_levels (λ s. Orders (Q s)) o.side _ _ m
      (orders_rests (Q o.side) (lessens o.side) o (meets split o o.lots (levels (other o.side) m)).left (levels o.side m)
      (q _ (left_less split means o o.lots (levels (other o.side) m))) (a o.side))
      (orders_meets (Q (other o.side)) (lessens (other o.side)) split means o o.lots (levels (other o.side) m) (a (other o.side))))
  orders_put split means (cancel c) m q a =
      cancel_cases c m (λ out. (s : Side) → Orders (Q s) (levels s out.market))
      (λ side r _. one_levels (λ s. Orders (Q s)) side _ m (orders_out (Q side) (lessens side) c.member c.order (levels side m) (a side)) (a (other side))) (λ _. a)

-- no order has more lots than were asked for
pub keeps_lots : (split : ℕ → List ℕ → List ℕ) → Splits split → KeepsLots split
keeps_lots split means most (new o) m h a = orders_put (λ side price r. r.lots ≤ most) (λ side price fill r q. omega arith) split means (new o) m (λ left l. omega arith) a
keeps_lots split means most (cancel c) m h a = orders_put (λ side price r. r.lots ≤ most) (λ side price fill r q. omega arith) split means (cancel c) m tt a
