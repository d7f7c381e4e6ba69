-- What sealing and reading are to each other.
use Rattle.std.specs.Prelude.{◌≡◌, ℕ, ◌<◌, ◌≤◌, List, length, replicate, Some, None, ◌≢◌, slice_index, slice_set}
use Rattle.crc32c.specs.Byte.{Bytes}
use Rattle.sealed.specs.Sealing.{sealing}
use Rattle.sealed.specs.Part.{part}

-- what was sealed is read back
abbrev pub ReadsBack : Type 0
ReadsBack = (p : List ℕ) → 1 ≤ length p → length p ≤ 505 → part (sealing p) ≡ Some p

-- a sealed block is the sealing of its payload: no payload has two sealed blocks
abbrev pub IsSealing : Type 0
IsSealing = (b p : List ℕ) → Bytes b → part b ≡ Some p → b ≡ sealing p

-- a sealed block has 512 bytes, and its payload 1 to 505
abbrev pub HasSize : Type 0
HasSize = (b p : List ℕ) → part b ≡ Some p → (length b ≡ 512) × (1 ≤ length p) × (length p ≤ 505)

-- a sealing is a block of bytes
abbrev pub IsBlock : Type 0
IsBlock = (p : List ℕ) → length p ≤ 505 → (length (sealing p) ≡ 512) × (Bytes p → Bytes (sealing p))

-- zeros are not sealed
abbrev pub ZerosUnsealed : Type 0
ZerosUnsealed = part (replicate 512 0) ≡ None

-- one changed byte shows, unless it is a byte of the length
abbrev pub ChangeSeen : Type 0
ChangeSeen = (b p : List ℕ) (place byte : ℕ) → Bytes b → part b ≡ Some p → place < 512 → (place ≢ 4) → (place ≢ 5) → byte < 256 → (byte ≢ slice_index b place) → part (slice_set b place byte) ≡ None
