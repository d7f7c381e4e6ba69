-- CRC-32C (Castagnoli), bit by bit. A register of 32 bits starts with all ones. Each byte is added to it without carries
-- (xor), and eight steps follow. At the end the register is complemented.
use Rattle.std.specs.Prelude.{ℕ, zero, suc, ◌*◌, ◌/◌, ◌%◌, List, [], ◌∷◌, bit_xor}

-- one step: the register moves right by a bit; where that bit was 1, the polynomial is added, here with its low power in the high bit
unfoldable pub step : ℕ → ℕ
step c = bit_xor (c / 2) (c % 2 * 0x82F6_3B78)

unfoldable pub steps : ℕ → ℕ → ℕ
steps zero c = c
steps (suc n) c = steps n (step c)

-- the register after some bytes, from c on
unfoldable pub register : ℕ → List ℕ → ℕ
register c [] = c
register c (b ∷ bs) = register (steps 8 (bit_xor c b)) bs

unfoldable pub crc : List ℕ → ℕ
crc bs = bit_xor (register 0xFFFF_FFFF bs) 0xFFFF_FFFF
