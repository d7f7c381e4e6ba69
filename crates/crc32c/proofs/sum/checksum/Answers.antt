use Rattle.std.proofs.Common.{ℕ, ap}
use lib.Bits.{bit_xor}
use Rattle.crc32c.specs.Crc.{crc}
use Rattle.crc32c.proofs.sum.checksum.Goals as goal

pub returns : goal.returns
unfolding crc
returns c = record { value = ap (λ (t : ℕ). bit_xor t 0xFFFF_FFFF) c.over.ensures.value }
