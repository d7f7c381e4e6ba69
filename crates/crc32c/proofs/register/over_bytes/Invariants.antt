use Rattle.std.proofs.Common.{◌≡◌, drop}
use Rattle.crc32c.specs.Crc.{register}
use Rattle.crc32c.proofs.register.over_bytes.Given as goal

abbrev pub invariant-loop-b : goal.invariant-loop-b
invariant-loop-b l = register l.c (drop l.b-index l.bytes) ≡ register l.start l.bytes
