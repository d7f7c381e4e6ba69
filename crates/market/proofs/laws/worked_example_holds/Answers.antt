use Rattle.std.proofs.Common.{refl}
use Rattle.allocation.specs.Fifo.{fifo}
use Rattle.market.proofs.laws.worked_example_holds.Goals as goal

pub returns : goal.returns
unfolding fifo
returns c = record { example = record { entries = refl; market = refl } }
