-- The sealed block of a payload of at most 505 bytes: the masked checksum of the kind and the payload in four bytes, the
-- length in two, the kind 1 (a full record of LevelDB's log format), the payload, and zeros up to 512 bytes.
use Rattle.std.specs.Prelude.{ℕ, ◌-◌, List, ◌∷◌, ◌++◌, length, replicate}
use Rattle.crc32c.specs.Crc.{crc}
use Rattle.sealed.specs.Mask.{masked}
use Rattle.sealed.specs.Number.{low_bytes}

unfoldable pub sealing : List ℕ → List ℕ
sealing p = low_bytes 4 (masked (crc (1 ∷ p))) ++ (low_bytes 2 (length p) ++ (1 ∷ (p ++ replicate (505 - length p) 0)))
