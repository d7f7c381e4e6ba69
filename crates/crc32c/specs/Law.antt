-- What CRC-32C is sure to notice.
use Rattle.std.specs.Prelude.{◌≡◌, ℕ, ◌≤◌, List, ◌++◌, length}
use Rattle.crc32c.specs.Byte.{Bytes}
use Rattle.crc32c.specs.Crc.{crc}

-- a change within four neighbouring bytes changes the checksum
abbrev pub BurstSeen : Type 0
BurstSeen = (before was is after : List ℕ) → Bytes before → Bytes was → Bytes is → length was ≡ length is → length is ≤ 4 → crc (before ++ (was ++ after)) ≡ crc (before ++ (is ++ after)) → was ≡ is
