-- No two registers of 32 bits come to the same after the same steps, so that a burst of at most 32 bits shows.
use Rattle.std.proofs.Common.{◌≡◌, ℕ, zero, suc, ◌+◌, ◌*◌, ◌/◌, ◌%◌, ◌^◌, ◌<◌, ◌≤◌, List, [], ◌∷◌, ◌++◌, length, sym, refl, ap, ◌∙◌, arith, pow_mono, pow-add}
use lib.Bits.{bit_xor, xor_assoc, xor_comm, xor_zero_r, xor_self, xor_lt}
use Rattle.crc32c.specs.Byte.{Bytes}
use Rattle.crc32c.specs.Crc.{step, steps, register, crc}
use Rattle.crc32c.specs.Law.{BurstSeen}
use Rattle.crc32c.proofs.Step.{steps_xor}
use Rattle.crc32c.proofs.Word.{register-++, register_two, word, value, word_value, by_word}

xor_twice : (a b : ℕ) → bit_xor (bit_xor a b) b ≡ a
xor_twice a b = xor_assoc a b b ∙ ap (bit_xor a) (xor_self b) ∙ xor_zero_r a

xor_same : (a b : ℕ) → bit_xor a b ≡ 0 → a ≡ b
xor_same a b e = sym (xor_twice a b) ∙ ap (λ (t : ℕ). bit_xor t b) e

xor_cancel : (a b c : ℕ) → bit_xor a c ≡ bit_xor b c → a ≡ b
xor_cancel a b c e = sym (xor_twice a c) ∙ ap (λ (t : ℕ). bit_xor t c) e ∙ xor_twice b c

step_lt : (c : ℕ) → c < 2 ^ 32 → step c < 2 ^ 32
unfolding step
step_lt c h = xor_lt 32 (c / 2) (c % 2 * 0x82F6_3B78) (omega arith) (omega arith)

steps_lt : (n c : ℕ) → c < 2 ^ 32 → steps n c < 2 ^ 32
unfolding steps
steps_lt zero c h = h
steps_lt (suc n) c h = steps_lt n (step c) (step_lt c h)

register_lt : (c : ℕ) (bs : List ℕ) → c < 2 ^ 32 → Bytes bs → register c bs < 2 ^ 32
unfolding register
register_lt c [] h bytes = h
register_lt c (b ∷ bs) h bytes =
    let lt : b < 2 ^ 32 = omega (arith, bytes 0) in
    register_lt (steps 8 (bit_xor c b)) bs (steps_lt 8 (bit_xor c b) (xor_lt 32 c b h lt)) (λ k. bytes (suc k))

pub crc_lt : (bs : List ℕ) → Bytes bs → crc bs < 2 ^ 32
unfolding crc
crc_lt bs bytes = xor_lt 32 (register 0xFFFF_FFFF bs) 0xFFFF_FFFF (register_lt 0xFFFF_FFFF bs (omega arith) bytes) (omega arith)

-- the polynomial has its high bit set, so that only 0 steps to 0
step_kernel : (x : ℕ) → x < 2 ^ 32 → step x ≡ 0 → x ≡ 0
unfolding step
step_kernel x h e =
    let s : x / 2 ≡ x % 2 * 0x82F6_3B78 = xor_same (x / 2) (x % 2 * 0x82F6_3B78) e in
    omega arith

steps_kernel : (n x : ℕ) → x < 2 ^ 32 → steps n x ≡ 0 → x ≡ 0
unfolding steps
steps_kernel zero x h e = e
steps_kernel (suc n) x h e = step_kernel x h (steps_kernel n (step x) (step_lt x h) e)

steps_same : (n a b : ℕ) → a < 2 ^ 32 → b < 2 ^ 32 → steps n a ≡ steps n b → a ≡ b
steps_same n a b ha hb e =
    xor_same a b
    (steps_kernel n (bit_xor a b) (xor_lt 32 a b ha hb)
    (steps_xor n a b ∙ ap (λ (t : ℕ). bit_xor t (steps n b)) e ∙ xor_self (steps n b)))

value_same : (xs ys : List ℕ) → Bytes xs → Bytes ys → length xs ≡ length ys → value xs ≡ value ys → xs ≡ ys
value_same [] [] hx hy long e = refl
value_same [] (y ∷ ys) hx hy long e = absurd (omega arith)
value_same (x ∷ xs) [] hx hy long e = absurd (omega arith)
value_same (x ∷ xs) (y ∷ ys) hx hy long e =
    let head : x ≡ y = omega (arith, hx 0, hy 0) in
    let rest : xs ≡ ys = value_same xs ys (λ k. hx (suc k)) (λ k. hy (suc k)) (omega arith) (omega (arith, hx 0, hy 0)) in
    ap (λ (t : ℕ). t ∷ xs) head ∙ ap (λ (t : List ℕ). y ∷ t) rest

value_lt : (xs : List ℕ) → Bytes xs → value xs < 2 ^ (8 * length xs)
value_lt [] h = omega arith
value_lt (x ∷ xs) h =
    let width : 8 * suc (length xs) ≡ 8 * length xs + 8 = omega arith in
    let p : 2 ^ (8 * suc (length xs)) ≡ 2 ^ (8 * length xs) * 256 = ap (λ (t : ℕ). 2 ^ t) width ∙ pow-add 2 (8 * length xs) 8 in
    omega (arith, h 0, value_lt xs (λ k. h (suc k)))

word_lt : (xs : List ℕ) → Bytes xs → length xs ≤ 4 → word xs < 2 ^ 32
word_lt xs h short = omega (arith, word_value xs h, value_lt xs h, pow_mono {i = 8 * length xs} {j = 32} (omega arith))

pub burst_same : (c : ℕ) (was is after : List ℕ) → c < 2 ^ 32 → Bytes was → Bytes is → length was ≡ length is → length is ≤ 4 → register c (was ++ after) ≡ register c (is ++ after) → was ≡ is
burst_same c was is after h hw hi long short e =
    let n : ℕ = 8 * length after in
    let m : ℕ = 8 * length is in
    let same : register c was ≡ register c is =
    steps_same n (register c was) (register c is) (register_lt c was h hw) (register_lt c is h hi)
    (xor_cancel (steps n (register c was)) (steps n (register c is)) (register 0 after)
    (sym (register_two c was after) ∙ e ∙ register_two c is after)) in
    let words : bit_xor c (word was) ≡ bit_xor c (word is) =
    steps_same m (bit_xor c (word was)) (bit_xor c (word is))
    (xor_lt 32 c (word was) h (word_lt was hw (omega arith))) (xor_lt 32 c (word is) h (word_lt is hi short))
    (ap (λ (k : ℕ). steps (8 * k) (bit_xor c (word was))) (sym long) ∙ sym (by_word was c) ∙ same ∙ by_word is c) in
    let word-is : word was ≡ word is =
    xor_cancel (word was) (word is) c (xor_comm (word was) c ∙ words ∙ xor_comm c (word is)) in
    value_same was is hw hi long (sym (word_value was hw) ∙ word-is ∙ word_value is hi)

pub burst_seen : BurstSeen
unfolding crc
burst_seen before was is after hb hw hi long short e =
    let c : ℕ = register 0xFFFF_FFFF before in
    burst_same c was is after (register_lt 0xFFFF_FFFF before (omega arith) hb) hw hi long short
    (sym (register-++ 0xFFFF_FFFF before (was ++ after))
    ∙ xor_cancel (register 0xFFFF_FFFF (before ++ (was ++ after))) (register 0xFFFF_FFFF (before ++ (is ++ after))) 0xFFFF_FFFF e
    ∙ register-++ 0xFFFF_FFFF before (is ++ after))
