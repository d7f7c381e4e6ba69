-- What a trade makes of a level, of the list of entries and of the incoming order.
use Rattle.std.specs.Prelude.{◌≡◌, ℕ, ◌+◌, ◌-◌, ◌*◌, ◌≤◌, List, ◌++◌, length, take, drop}
use Rattle.fix.specs.Command.{NewOrder}
use Rattle.market.specs.declared.resting.Resting.{Resting}
use Rattle.market.specs.declared.entry.Entry.{Entry}
use Rattle.market.specs.Market.{total}
use Rattle.market.specs.Put.{of_fills}
use Rattle.level.specs.declared.trade.Progress.{Progress}

-- The entries of a queue's fills stand in the list behind what was written before, and its back is as it was; the fills are taken off what was left.
pub record Reported (order : NewOrder) (price : ℕ) (fills : List ℕ) (queue : List Resting) (list list' : List Entry) (before after : Progress) : Type 0 where
  pub front : take after.written list' ≡ take before.written list ++ of_fills order price before.left fills queue
  pub back : drop after.written list' ≡ drop after.written list
  pub left : after.left ≡ before.left - total fills
  pub from : before.written ≤ after.written
  pub upto : after.written ≤ before.written + 2 * length queue
