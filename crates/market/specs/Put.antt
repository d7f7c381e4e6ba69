-- What a command does to a market, under any split of a queue: the market after it, and the entries that tell of it.
use Rattle.std.specs.Prelude.{ℕ, zero, suc, ◌-◌, cond, not, ◌&&◌, List, [], ◌∷◌, ◌++◌, Some, None, Option, nat_le, nat_lt}
use Rattle.fix.specs.declared.command.Side.{Side}
use Rattle.fix.specs.declared.command.Side.TheVariants.{Buy, Sell}
use Rattle.fix.specs.Command.{NewOrder, Cancel, Command, new, cancel}
use Rattle.market.specs.declared.resting.Resting.{Resting}
use Rattle.market.specs.declared.entry.Reason.{Reason}
use Rattle.market.specs.declared.entry.Reason.TheVariants.{BookFull, UnknownOrder, DuplicateOrder}
use Rattle.market.specs.declared.entry.Event.{Event}
use Rattle.market.specs.declared.entry.Event.TheVariants.{Accepted, Filled, Cancelled, OrderTurnedDown, CancelTurnedDown}
use Rattle.market.specs.declared.entry.Entry.{Entry}
use Rattle.market.specs.Market.{Level, Market, other, levels, with_levels, better, crosses, best_crosses, is_of, in_levels, known, all_resting, capacity, lots_of, total}

-- a market, and the entries of the command that made it so
pub record Outcome : Type 0 where
  pub market : Market
  pub entries : List Entry

abbrev pub entry : ℕ → ℕ → ℕ → Event → Entry
entry command member order event = record { command = command; member = member; order = order; event = event }

-- a resting order after a fill
abbrev pub less : Resting → ℕ → Resting
less r fill = record { member = r.member; order = r.order; lots = r.lots - fill }

-- the queue after its fills: an order that is filled whole leaves it, the others keep their places
abbrev pub after_fills : List ℕ → List Resting → List Resting
after_fills [] rs = rs
after_fills (fill ∷ fills) [] = []
after_fills (fill ∷ fills) (r ∷ rs) = cond (nat_lt fill r.lots) (less r fill ∷ after_fills fills rs) (after_fills fills rs)

-- a level before the others, unless nothing rests at it any more
abbrev pub kept : ℕ → List Resting → List Level → List Level
kept price [] ls = ls
kept price (r ∷ rs) ls = record { price = price; queue = r ∷ rs } ∷ ls

module _ (o : NewOrder) where
  -- the two entries of a fill, the resting order's first; of a fill of 0 lots none
  abbrev pub of_fill : ℕ → ℕ → ℕ → Resting → List Entry
  of_fill price zero left r = []
  of_fill price (suc f) left r =
      entry o.number r.member r.order (Filled (other o.side) (suc f) price (r.lots - suc f))
      ∷ (entry o.number o.member o.order (Filled o.side (suc f) price (left - suc f)) ∷ [])

  -- the entries of a queue's fills, `left` lots being left of the incoming order before them
  abbrev pub of_fills : ℕ → ℕ → List ℕ → List Resting → List Entry
  of_fills price left [] rs = []
  of_fills price left (fill ∷ fills) [] = []
  of_fills price left (fill ∷ fills) (r ∷ rs) = of_fill price fill left r ++ of_fills price (left - fill) fills rs

-- what an incoming order comes to at some levels: the lots left of it, the levels after it, and the entries
pub record Met : Type 0 where
  pub left : ℕ
  pub levels : List Level
  pub entries : List Entry

module _ (split : ℕ → List ℕ → List ℕ) where
  -- an incoming order, of which `left` lots are left, meets the levels that cross it, best first
  abbrev pub meets : NewOrder → ℕ → List Level → Met
  meets o left [] = record { left = left; levels = []; entries = [] }
  meets o zero (l ∷ ls) = record { left = 0; levels = l ∷ ls; entries = [] }
  meets o (suc left) (l ∷ ls) =
      cond (crosses o.side o.price l.price)
      (let fills : List ℕ = split (suc left) (lots_of l.queue) in
      let rest : Met = meets o (suc left - total fills) ls in
      record {
        left = rest.left;
        levels = kept l.price (after_fills fills l.queue) rest.levels;
        entries = of_fills o l.price (suc left) fills l.queue ++ rest.entries;
      })
      (record { left = suc left; levels = l ∷ ls; entries = [] })

-- an order joins its level last, or opens the level where its price belongs
abbrev pub joins : Side → ℕ → Resting → List Level → List Level
joins side price r [] = record { price = price; queue = r ∷ [] } ∷ []
joins side price r (l ∷ ls) =
    cond (better side l.price price) (l ∷ joins side price r ls)
    (cond (better side price l.price) (record { price = price; queue = r ∷ [] } ∷ (l ∷ ls))
    (record { price = l.price; queue = l.queue ++ (r ∷ []) } ∷ ls))

-- what is left of an order rests; nothing does not
abbrev pub rests : NewOrder → ℕ → List Level → List Level
rests o zero ls = ls
rests o (suc left) ls = joins o.side o.price (record { member = o.member; order = o.order; lots = suc left }) ls

-- a queue, and levels, without the order of that member and number
abbrev pub out_of_queue : ℕ → ℕ → List Resting → List Resting
out_of_queue member order [] = []
out_of_queue member order (r ∷ rs) = cond (is_of member order r) rs (r ∷ out_of_queue member order rs)

abbrev pub out_of_levels : ℕ → ℕ → List Level → List Level
out_of_levels member order [] = []
out_of_levels member order (l ∷ ls) = kept l.price (out_of_queue member order l.queue) (out_of_levels member order ls)

-- why a new order is turned down, if it is
abbrev pub order_refusal : NewOrder → Market → Option Reason
order_refusal o m =
    cond (known o.member o.order m) (Some DuplicateOrder)
    (cond (nat_le capacity (all_resting m) && not (best_crosses o.side o.price (levels (other o.side) m))) (Some BookFull) None)

module _ (split : ℕ → List ℕ → List ℕ) where
  -- a new order that is not turned down
  abbrev pub trades : NewOrder → Market → Outcome
  trades o m =
      let met : Met = meets split o o.lots (levels (other o.side) m) in
      record {
        market = with_levels o.side (rests o met.left (levels o.side m)) (with_levels (other o.side) met.levels m);
        entries = entry o.number o.member o.order (Accepted o.side o.lots) ∷ met.entries;
      }

  abbrev pub put_order_at : NewOrder → Market → Option Reason → Outcome
  put_order_at o m (Some reason) = record { market = m; entries = entry o.number o.member o.order (OrderTurnedDown o.side reason) ∷ [] }
  put_order_at o m None = trades o m

  abbrev pub put_order : NewOrder → Market → Outcome
  put_order o m = put_order_at o m (order_refusal o m)

abbrev pub cancelled : Cancel → Side → Resting → Market → Outcome
cancelled c side r m = record {
  market = with_levels side (out_of_levels c.member c.order (levels side m)) m;
  entries = entry c.number c.member c.order (Cancelled side r.lots) ∷ [];
}

-- by where the order rests: among the buys, among the sells, or nowhere
abbrev pub put_cancel_at : Cancel → Market → Option Resting → Option Resting → Outcome
put_cancel_at c m (Some r) sold = cancelled c Buy r m
put_cancel_at c m None (Some r) = cancelled c Sell r m
put_cancel_at c m None None = record { market = m; entries = entry c.number c.member c.order (CancelTurnedDown UnknownOrder) ∷ [] }

abbrev pub put_cancel : Cancel → Market → Outcome
put_cancel c m = put_cancel_at c m (in_levels c.member c.order m.buys) (in_levels c.member c.order m.sells)

-- what a command does
abbrev pub put : (ℕ → List ℕ → List ℕ) → Command → Market → Outcome
put split (new o) m = put_order split o m
put split (cancel c) m = put_cancel c m

-- the market after a row of commands, and all their entries
abbrev pub after : (ℕ → List ℕ → List ℕ) → List Command → Market → Market
after split [] m = m
after split (c ∷ cs) m = after split cs (put split c m).market

abbrev pub entries_of : (ℕ → List ℕ → List ℕ) → List Command → Market → List Entry
entries_of split [] m = []
entries_of split (c ∷ cs) m = (put split c m).entries ++ entries_of split cs (put split c m).market
