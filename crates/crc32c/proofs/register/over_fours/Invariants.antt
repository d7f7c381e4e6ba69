use Rattle.std.proofs.Common.{◌≡◌, ◌*◌, drop}
use Rattle.crc32c.specs.Crc.{register}
use Rattle.crc32c.proofs.register.over_fours.Given as goal

abbrev pub invariant-loop-w : goal.invariant-loop-w
invariant-loop-w l = register l.c (drop (l.w-index * 4) l.bytes) ≡ register l.start l.bytes
