use Rattle.std.proofs.Common.{◌≡◌, ℕ, ◌+◌, ◌*◌, ◌/◌, ◌%◌, ◌^◌, ◌<◌, ap, ◌∙◌, add_comm, arith}
use lib.Bits.{bit_or, or_shifted_r}
use Rattle.sealed.specs.Mask.{masked}
use Rattle.sealed.proofs.mask.mask.Goals as goal

pub returns : goal.returns
unfolding masked
returns c =
    let x : ℕ = c.args.sum in
    let up : x * 2 ^ 17 % 2 ^ 32 ≡ x % 2 ^ 15 * 2 ^ 17 = omega arith in
    let small : x / 2 ^ 15 < 2 ^ 17 = omega arith in
    record {
      value =
          ap (λ (t : ℕ). (t + 0xA282_EAD8) % 2 ^ 32)
          (c.rotate_right.ensures
          ∙ ap (bit_or (x / 2 ^ 15)) up
          ∙ or_shifted_r (x % 2 ^ 15) 17 (x / 2 ^ 15) small
          ∙ add_comm (x % 2 ^ 15 * 2 ^ 17) (x / 2 ^ 15));
    }
