use Rattle.allocation.specs.InTurn.{fifo_fills_all, fifo_in_turn}
use Rattle.allocation.specs.Shares.{remainder_small, pro_rata_fills_all, pro_rata_at_least, pro_rata_in_turn}
use Rattle.allocation.proofs.promises.promises_hold.Goals as goal

pub returns : goal.returns
returns c = record { fills_all = λ q ls h. (fifo_fills_all q ls h, pro_rata_fills_all q ls h); in_turn = fifo_in_turn; at_least_the_share = pro_rata_at_least; remainder_is_small = remainder_small; remainder_in_turn = pro_rata_in_turn }
