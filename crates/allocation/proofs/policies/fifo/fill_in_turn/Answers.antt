use Rattle.std.proofs.Common.{arith}
use Rattle.allocation.specs.Fifo.{fifo}
use Rattle.allocation.specs.InTurn.{fifo_more, fifo_end}
use Rattle.allocation.proofs.policies.fifo.fill_in_turn.Goals as goal

pub loop-i-preserved : goal.loop-i-preserved
loop-i-preserved c = fifo_more c.loop-i.left c.min-fill.result c.loop-i.i c.loop-i.fills c.args.lots.now (fifo c.args.quantity c.args.lots.now) (omega arith) (omega arith) c.min-fill.ensures c.loop-i.invariant

pub returns : goal.returns
returns c = record { writes = fifo_end c.loop-i.left c.loop-i.i c.loop-i.fills c.args.lots.now (fifo c.args.quantity c.args.lots.now) (omega arith) (omega arith) c.loop-i.invariant }
