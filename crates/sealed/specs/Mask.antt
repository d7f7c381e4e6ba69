-- A checksum as it is stored. LevelDB masks it so, since a checksum over bytes that hold a checksum is weak.
use Rattle.std.specs.Prelude.{ℕ, ◌+◌, ◌*◌, ◌/◌, ◌%◌, ◌^◌}

-- c rotated right by 15 of its 32 bits, plus A282EAD8 hex, modulo 2 ^ 32
unfoldable pub masked : ℕ → ℕ
masked c = (c / 2 ^ 15 + c % 2 ^ 15 * 2 ^ 17 + 0xA282_EAD8) % 2 ^ 32
