use Rattle.std.proofs.Common.{refl}
use Rattle.crc32c.specs.Crc.{crc, register, steps, step}
use Rattle.crc32c.proofs.law.check_value_holds.Goals as goal

pub returns : goal.returns
unfolding crc register steps step
returns c = record { value = refl }
