use Rattle.std.proofs.Common.{◌≡◌, ◌&&◌, drop}
use Rattle.allocation.specs.Range.{all_tradable}
use Rattle.allocation.proofs.range.all_are_tradable.Given as goal

abbrev pub invariant-loop-order : goal.invariant-loop-order
invariant-loop-order l = (l.all && all_tradable (drop l.order-index l.lots)) ≡ all_tradable l.lots
