-- A command's entries: one answer, and behind an acceptance its trades, two entries each.
use Rattle.std.specs.Prelude.{◌≡◌, ℕ, ◌-◌, ◌<◌, ◌≤◌, ◌⊎◌, List, [], ◌∷◌, ◌++◌}
use Rattle.fix.specs.declared.command.Side.{Side}
use Rattle.fix.specs.Command.{NewOrder, Cancel, Command, new, cancel}
use Rattle.market.specs.declared.resting.Resting.{Resting}
use Rattle.market.specs.declared.entry.Reason.{Reason}
use Rattle.market.specs.declared.entry.Event.{Event}
use Rattle.market.specs.declared.entry.Event.TheVariants.{Accepted, Filled, Cancelled, OrderTurnedDown, CancelTurnedDown}
use Rattle.market.specs.declared.entry.Entry.{Entry}
use Rattle.market.specs.Market.{Level, Market, other, levels}
use Rattle.market.specs.Put.{entry, put}

-- an order, and the price at which it rests
pub record Standing : Type 0 where
  pub price : ℕ
  pub order : Resting

-- the orders of a queue, and of levels: the best price first, and at each price the oldest first
abbrev pub standing_in : ℕ → List Resting → List Standing
standing_in price [] = []
standing_in price (r ∷ rs) = record { price = price; order = r } ∷ standing_in price rs

abbrev pub standing : List Level → List Standing
standing [] = []
standing (l ∷ ls) = standing_in l.price l.queue ++ standing ls

-- the lots of a fill
abbrev pub filled : Event → ℕ
filled (Accepted side lots) = 0
filled (Filled side lots price leaves) = lots
filled (Cancelled side lots) = 0
filled (OrderTurnedDown side reason) = 0
filled (CancelTurnedDown reason) = 0

-- a trade of the incoming order o, of which `left` lots were left, with one that rested: the other's entry, and then its own
pub record Trade (o : NewOrder) (left : ℕ) (rested : Standing) (theirs ours : Entry) : Type 0 where
  pub lots : ℕ
  pub some : 0 < lots
  pub enough : lots ≤ left
  pub within : lots ≤ rested.order.lots
  pub resting : theirs ≡ entry o.number rested.order.member rested.order.order (Filled (other o.side) lots rested.price (rested.order.lots - lots))
  pub incoming : ours ≡ entry o.number o.member o.order (Filled o.side lots rested.price (left - lots))

-- trades with some of the orders that stand, in their order
abbrev pub Trades : NewOrder → ℕ → List Standing → List Entry → Type 0
Trades o left ss [] = Unit {0}
Trades o left ss (theirs ∷ []) = ⊥
Trades o left [] (theirs ∷ (ours ∷ es)) = ⊥
Trades o left (s ∷ ss) (theirs ∷ (ours ∷ es)) = (Trade o left s theirs ours × Trades o (left - filled theirs.event) ss es) ⊎ Trades o left ss (theirs ∷ (ours ∷ es))

abbrev pub EntriesOfOrder : NewOrder → Market → List Entry → Type 0
EntriesOfOrder o before es =
    ((reason : Reason) × (es ≡ entry o.number o.member o.order (OrderTurnedDown o.side reason) ∷ []))
    ⊎ ((trades : List Entry) × (es ≡ entry o.number o.member o.order (Accepted o.side o.lots) ∷ trades) × Trades o o.lots (standing (levels (other o.side) before)) trades)

abbrev pub EntriesOfCancel : Cancel → List Entry → Type 0
EntriesOfCancel c es =
    ((reason : Reason) × (es ≡ entry c.number c.member c.order (CancelTurnedDown reason) ∷ []))
    ⊎ ((side : Side) × (lots : ℕ) × (es ≡ entry c.number c.member c.order (Cancelled side lots) ∷ []))

abbrev pub Answered : Command → Market → List Entry → Type 0
Answered (new o) before es = EntriesOfOrder o before es
Answered (cancel c) before es = EntriesOfCancel c es

-- on any market at all
abbrev pub AlwaysAnswered : (ℕ → List ℕ → List ℕ) → Type 0
AlwaysAnswered split = (c : Command) (m : Market) → Answered c m (put split c m).entries
