use Rattle.std.proofs.Common.{◌*◌}
use Rattle.sealed.proofs.Zeros.{Left}
use Rattle.sealed.proofs.zero.is_zero.Given as goal

abbrev pub invariant-loop-w : goal.invariant-loop-w
invariant-loop-w l = Left l.any (l.w-index * 8) l.bytes
