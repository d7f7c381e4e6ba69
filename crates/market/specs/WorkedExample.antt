-- The worked example of docs/BOOK.md.
use Rattle.std.specs.Prelude.{◌≡◌, ℕ, List, [], ◌∷◌}
use Rattle.allocation.specs.Fifo.{fifo}
use Rattle.fix.specs.declared.command.Side.{Side}
use Rattle.fix.specs.declared.command.Side.TheVariants.{Buy, Sell}
use Rattle.fix.specs.Command.{Command, new, cancel}
use Rattle.market.specs.declared.entry.Reason.TheVariants.{DuplicateOrder}
use Rattle.market.specs.declared.entry.Event.TheVariants.{Accepted, Filled, Cancelled, OrderTurnedDown}
use Rattle.market.specs.Market.{empty}
use Rattle.market.specs.Put.{entry, after, entries_of}

-- a member's order of that number, side, lots and price
abbrev enters : ℕ → ℕ → ℕ → Side → ℕ → ℕ → Command
enters number member order side lots price = new (record { member = member; number = number; order = order; side = side; lots = lots; price = price })

abbrev pub commands : List Command
commands =
    enters 1 1 10 Sell 5 100
    ∷ enters 2 2 20 Sell 4 100
    ∷ enters 3 3 30 Buy 7 102
    ∷ enters 4 2 20 Buy 1 90
    ∷ cancel (record { member = 2; number = 5; order = 20 })
    ∷ []

pub record WorkedExample : Type 0 where
  pub entries : entries_of fifo commands empty
      ≡ entry 1 1 10 (Accepted Sell 5)
      ∷ entry 2 2 20 (Accepted Sell 4)
      ∷ entry 3 3 30 (Accepted Buy 7)
      ∷ entry 3 1 10 (Filled Sell 5 100 0)
      ∷ entry 3 3 30 (Filled Buy 5 100 2)
      ∷ entry 3 2 20 (Filled Sell 2 100 2)
      ∷ entry 3 3 30 (Filled Buy 2 100 0)
      ∷ entry 4 2 20 (OrderTurnedDown Buy DuplicateOrder)
      ∷ entry 5 2 20 (Cancelled Sell 2)
      ∷ []
  -- nothing rests afterwards
  pub market : after fifo commands empty ≡ empty
