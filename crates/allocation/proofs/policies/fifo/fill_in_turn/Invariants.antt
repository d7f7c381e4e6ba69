use Rattle.std.proofs.Common.{◌≡◌, ◌++◌, take, drop}
use Rattle.allocation.specs.Fifo.{fifo}
use Rattle.allocation.proofs.policies.fifo.fill_in_turn.Given as goal

abbrev pub invariant-loop-i : goal.invariant-loop-i
invariant-loop-i l = take l.i l.fills ++ fifo l.left (drop l.i l.lots) ≡ fifo l.quantity l.lots
