use Rattle.crc32c.proofs.Burst.{burst_seen}
use Rattle.crc32c.proofs.law.burst_seen_holds.Goals as goal

pub returns : goal.returns
returns c = record { seen = burst_seen }
