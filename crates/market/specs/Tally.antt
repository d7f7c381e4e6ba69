-- Lots and orders added up: over entries, over queues and over levels.
use Rattle.std.specs.Prelude.{ℕ, ◌+◌, Bool, true, false, cond, ◌&&◌, List, [], ◌∷◌, ◌==◌}
use Rattle.fix.specs.declared.command.Side.{Side}
use Rattle.fix.specs.declared.command.Side.TheVariants.{Buy, Sell}
use Rattle.market.specs.declared.resting.Resting.{Resting}
use Rattle.market.specs.declared.entry.Event.{Event}
use Rattle.market.specs.declared.entry.Event.TheVariants.{Accepted, Filled, Cancelled, OrderTurnedDown, CancelTurnedDown}
use Rattle.market.specs.declared.entry.Entry.{Entry}
use Rattle.market.specs.Market.{Level, Market, is_of}

abbrev pub same_side : Side → Side → Bool
same_side Buy Buy = true
same_side Sell Sell = true
same_side Buy Sell = false
same_side Sell Buy = false

-- lots that count where their side is the one asked for
abbrev pub on_side : Side → Side → ℕ → ℕ
on_side asked side lots = cond (same_side asked side) lots 0

-- the lots of a side that an event enters, trades or cancels
abbrev pub lots_entered : Side → Event → ℕ
lots_entered asked (Accepted side lots) = on_side asked side lots
lots_entered asked (Filled side lots price leaves) = 0
lots_entered asked (Cancelled side lots) = 0
lots_entered asked (OrderTurnedDown side reason) = 0
lots_entered asked (CancelTurnedDown reason) = 0

abbrev pub lots_traded : Side → Event → ℕ
lots_traded asked (Accepted side lots) = 0
lots_traded asked (Filled side lots price leaves) = on_side asked side lots
lots_traded asked (Cancelled side lots) = 0
lots_traded asked (OrderTurnedDown side reason) = 0
lots_traded asked (CancelTurnedDown reason) = 0

abbrev pub lots_cancelled : Side → Event → ℕ
lots_cancelled asked (Accepted side lots) = 0
lots_cancelled asked (Filled side lots price leaves) = 0
lots_cancelled asked (Cancelled side lots) = on_side asked side lots
lots_cancelled asked (OrderTurnedDown side reason) = 0
lots_cancelled asked (CancelTurnedDown reason) = 0

-- orders chosen by member and number: all of them, one member's, or a single one
abbrev pub all_orders : ℕ → ℕ → Bool
all_orders m o = true

abbrev pub by_member : ℕ → ℕ → ℕ → Bool
by_member member m o = m == member

abbrev pub by_order : ℕ → ℕ → ℕ → ℕ → Bool
by_order member order m o = m == member && o == order

-- what the entries of the chosen orders come to
abbrev pub tally : (ℕ → ℕ → Bool) → (Event → ℕ) → List Entry → ℕ
tally chosen count [] = 0
tally chosen count (e ∷ es) = cond (chosen e.member e.order) (count e.event) 0 + tally chosen count es

-- the lots of the chosen orders that rest in a queue, and at levels
abbrev pub lots_in : (ℕ → ℕ → Bool) → List Resting → ℕ
lots_in chosen [] = 0
lots_in chosen (r ∷ rs) = cond (chosen r.member r.order) r.lots 0 + lots_in chosen rs

abbrev pub lots_at : (ℕ → ℕ → Bool) → List Level → ℕ
lots_at chosen [] = 0
lots_at chosen (l ∷ ls) = lots_in chosen l.queue + lots_at chosen ls

-- how often a member's order number rests in a queue, at levels, and on both sides
abbrev pub times_in : ℕ → ℕ → List Resting → ℕ
times_in member order [] = 0
times_in member order (r ∷ rs) = cond (is_of member order r) 1 0 + times_in member order rs

abbrev pub times_at : ℕ → ℕ → List Level → ℕ
times_at member order [] = 0
times_at member order (l ∷ ls) = times_in member order l.queue + times_at member order ls

abbrev pub times : ℕ → ℕ → Market → ℕ
times member order m = times_at member order m.buys + times_at member order m.sells
