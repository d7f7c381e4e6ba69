-- An entry's nine values: those that its kind does not name are 0.
use Rattle.std.specs.Prelude.{ℕ}
use Rattle.fix.specs.Message.{side_number}
use Rattle.market.specs.declared.entry.Reason.{Reason}
use Rattle.market.specs.declared.entry.Reason.TheVariants.{BookFull, UnknownOrder, DuplicateOrder}
use Rattle.market.specs.declared.entry.Event.{Event}
use Rattle.market.specs.declared.entry.Event.TheVariants.{Accepted, Filled, Cancelled, OrderTurnedDown, CancelTurnedDown}
use Rattle.market.specs.declared.entry.Entry.{Entry}
use Rattle.market.specs.declared.figures.Figures.{Figures}

-- FIX's OrdRejReason
abbrev pub reason_number : Reason → ℕ
reason_number BookFull = 3
reason_number UnknownOrder = 5
reason_number DuplicateOrder = 6

module _ (command member order : ℕ) where
  -- the kinds are FIX's ExecType: the characters 0, F, 4 and 8
  abbrev pub figures_of : Event → Figures
  figures_of (Accepted side lots) = record { command = command; member = member; order = order; side = side_number side; kind = 48; lots = lots; price = 0; leaves = lots; reason = 0 }
  figures_of (Filled side lots price leaves) = record { command = command; member = member; order = order; side = side_number side; kind = 70; lots = lots; price = price; leaves = leaves; reason = 0 }
  figures_of (Cancelled side lots) = record { command = command; member = member; order = order; side = side_number side; kind = 52; lots = lots; price = 0; leaves = 0; reason = 0 }
  figures_of (OrderTurnedDown side reason) = record { command = command; member = member; order = order; side = side_number side; kind = 56; lots = 0; price = 0; leaves = 0; reason = reason_number reason }
  figures_of (CancelTurnedDown reason) = record { command = command; member = member; order = order; side = 0; kind = 56; lots = 0; price = 0; leaves = 0; reason = reason_number reason }

abbrev pub figures : Entry → Figures
figures e = figures_of e.command e.member e.order e.event
