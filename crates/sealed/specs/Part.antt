-- The fields of a block, when it is sealed, and the payload of a sealed one.
use Rattle.std.specs.Prelude.{◌≡◌, ℕ, ◌+◌, ◌≤◌, Bool, cond, ◌&&◌, List, length, take, drop, Some, None, Option, ◌==◌, nat_le, slice_index}
use Rattle.crc32c.specs.Crc.{crc}
use Rattle.sealed.specs.Mask.{masked}
use Rattle.sealed.specs.Number.{number}
use Rattle.sealed.specs.Zero.{all_zero}

module _ (block : List ℕ) where
  abbrev pub stored : ℕ
  stored = number (take 4 block)

  abbrev pub size : ℕ
  size = number (take 2 (drop 4 block))

  abbrev pub kind : ℕ
  kind = slice_index block 6

  abbrev pub payload : List ℕ
  payload = take size (drop 7 block)

  -- what the checksum covers: the kind and the payload
  abbrev pub covered : List ℕ
  covered = take (1 + size) (drop 6 block)

  -- what it does not cover
  abbrev pub tail : List ℕ
  tail = drop (7 + size) block

  unfoldable pub is_sealed : Bool
  is_sealed =
      (length block == 512)
      && kind == 1
      && nat_le 1 size
      && nat_le size 505
      && stored == masked (crc covered)
      && all_zero tail

  unfoldable pub part : Option (List ℕ)
  part = cond is_sealed (Some payload) None

-- what a check hands back of a sealed block: its payload, as a part of the block at its place
pub record Handed (block bytes : List ℕ) (place : ℕ) : Type 0 where
  pub is : part block ≡ Some bytes
  pub placed : place ≡ 7
  pub within : bytes ≡ take (length bytes) (drop place block)
  pub some : 1 ≤ length bytes
  pub most : length bytes ≤ 505
  pub whole : length block ≡ 512
