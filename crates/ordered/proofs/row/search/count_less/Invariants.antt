use Rattle.std.proofs.Common.{◌+◌, ◌-◌, ◌^◌}
use Rattle.ordered.specs.Place.{Between}
use Rattle.ordered.proofs.row.search.count_less.Given as goal

abbrev pub invariant-loop-bit : goal.invariant-loop-bit
invariant-loop-bit g l = Between g.K.Ord.cmp l.nodes l.key l.low (l.low + (2 ^ l.bit - 1))
