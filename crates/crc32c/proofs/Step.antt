-- Steps of the register: they are linear over xor, and the low bits of a number decide what they add to its high bits.
use Rattle.std.proofs.Common.{◌≡◌, ℕ, zero, suc, ◌+◌, ◌*◌, ◌/◌, ◌%◌, ◌^◌, ◌<◌, ◌⊎◌, sym, refl, ap, ◌∙◌, inl, inr, mod-lt, mul_assoc, suc-add, one-mul, pow-suc, zero-add, zero-mul, arith, pow_pos}
use native.Mathlib.Nat.{div-eq_of_lt}
use lib.Bits.{bit_xor, xor_assoc, xor_comm, xor_zero_l, xor_zero_r, xor_shr, xor_mod, xor_shifted, xor_self}
use lib.Pow.{split}
use Rattle.crc32c.specs.Crc.{step, steps}

-- (a ^ b) ^ (c ^ d) = (a ^ c) ^ (b ^ d)
swap : (a b c d : ℕ) → bit_xor (bit_xor a b) (bit_xor c d) ≡ bit_xor (bit_xor a c) (bit_xor b d)
swap a b c d =
    xor_assoc a b (bit_xor c d)
    ∙ ap (bit_xor a) (sym (xor_assoc b c d) ∙ ap (λ (t : ℕ). bit_xor t d) (xor_comm b c) ∙ xor_assoc c b d)
    ∙ sym (xor_assoc a c (bit_xor b d))

bit : (x : ℕ) → (x % 2 ≡ 0) ⊎ (x % 2 ≡ 1)
bit x = grind arith

-- the product of a bit and p is linear
bit_mul : (p u v : ℕ) → (u ≡ 0) ⊎ (u ≡ 1) → (v ≡ 0) ⊎ (v ≡ 1) → bit_xor u v * p ≡ bit_xor (u * p) (v * p)
bit_mul p u v (inl a) (inl b) = simp (a, b, zero-mul)
bit_mul p u v (inl a) (inr b) = simp (a, b, zero-mul, one-mul, xor_zero_l)
bit_mul p u v (inr a) (inl b) = simp (a, b, zero-mul, one-mul, xor_zero_r)
bit_mul p u v (inr a) (inr b) = simp (a, b, zero-mul, one-mul, xor_self)

step_xor : (a b : ℕ) → step (bit_xor a b) ≡ bit_xor (step a) (step b)
unfolding step
step_xor a b =
    ap (λ (t : ℕ). bit_xor t (bit_xor a b % 2 * 0x82F6_3B78)) (xor_shr a b 1)
    ∙ ap (bit_xor (bit_xor (a / 2) (b / 2)))
    (ap (λ (t : ℕ). t * 0x82F6_3B78) (xor_mod a b 1) ∙ bit_mul 0x82F6_3B78 (a % 2) (b % 2) (bit a) (bit b))
    ∙ swap (a / 2) (b / 2) (a % 2 * 0x82F6_3B78) (b % 2 * 0x82F6_3B78)

pub steps_xor : (n a b : ℕ) → steps n (bit_xor a b) ≡ bit_xor (steps n a) (steps n b)
unfolding steps
steps_xor zero a b = refl
steps_xor (suc n) a b = ap (steps n) (step_xor a b) ∙ steps_xor n (step a) (step b)

pub steps_add : (m n c : ℕ) → steps (m + n) c ≡ steps n (steps m c)
unfolding steps
steps_add zero n c = ap (λ (t : ℕ). steps t c) (zero-add n)
steps_add (suc m) n c = ap (λ (t : ℕ). steps t c) (suc-add m n) ∙ steps_add m n (step c)

-- an even number is only halved
step_even : (x : ℕ) → step (x * 2) ≡ x
unfolding step
step_even x =
    let e : x * 2 / 2 ≡ x = omega arith in
    let o : x * 2 % 2 ≡ 0 = omega arith in
    simp (e, o, zero-mul, xor_zero_r)

pub steps_shift : (n x : ℕ) → steps n (x * 2 ^ n) ≡ x
unfolding steps
steps_shift zero x = omega arith
steps_shift (suc n) x =
    let e : x * 2 ^ suc n ≡ x * 2 ^ n * 2 = ap (λ (t : ℕ). x * t) (pow-suc 2 n) ∙ sym (mul_assoc x (2 ^ n) 2) in
    ap (λ (t : ℕ). steps n (step t)) e ∙ ap (steps n) (step_even (x * 2 ^ n)) ∙ steps_shift n x

pub steps_zero : (n : ℕ) → steps n 0 ≡ 0
steps_zero n = ap (steps n) (sym (zero-mul (2 ^ n))) ∙ steps_shift n 0

-- a number is its high part and its low part
pub cut : (n x : ℕ) → x ≡ bit_xor (x / 2 ^ n * 2 ^ n) (x % 2 ^ n)
cut n x = sym (xor_shifted (x / 2 ^ n) n (x % 2 ^ n) (mod-lt x (pow_pos n)) ∙ split x n)

-- n steps move the high part down and look up the low part
steps_cut : (n x : ℕ) → steps n x ≡ bit_xor (x / 2 ^ n) (steps n (x % 2 ^ n))
steps_cut n x =
    ap (steps n) (cut n x)
    ∙ steps_xor n (x / 2 ^ n * 2 ^ n) (x % 2 ^ n)
    ∙ ap (λ (t : ℕ). bit_xor t (steps n (x % 2 ^ n))) (steps_shift n (x / 2 ^ n))

-- the register over one byte
pub byte_step : (c b : ℕ) → b < 256 → steps 8 (bit_xor c b) ≡ bit_xor (c / 256) (steps 8 (bit_xor c b % 256))
byte_step c b h =
    steps_cut 8 (bit_xor c b)
    ∙ ap (λ (t : ℕ). bit_xor t (steps 8 (bit_xor c b % 256)))
    (xor_shr c b 8 ∙ ap (bit_xor (c / 256)) (div-eq_of_lt h) ∙ xor_zero_r (c / 256))
