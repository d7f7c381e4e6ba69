use Rattle.std.proofs.Common.{refl}
use mathlib.Core.List.{zip_with}
use Rattle.allocation.specs.Fifo.{fifo}
use Rattle.allocation.specs.ProRata.{topped_up, pro_rata}
use Rattle.allocation.proofs.promises.worked_examples_hold.Goals as goal

pub returns : goal.returns
unfolding fifo pro_rata topped_up zip_with
returns c = record { examples = record { fifo_10 = refl; pro_rata_10 = refl; fifo_7 = refl; pro_rata_7 = refl; fifo_3 = refl; pro_rata_3 = refl; fifo_5 = refl; pro_rata_5 = refl } }
