use Rattle.std.proofs.Common.{◌≡◌, ℕ, ◌+◌, ◌*◌, ◌/◌, ◌%◌, ◌^◌, ◌<◌, List, length, sym, ap, ◌∙◌, arith}
use lib.Bits.{bit_xor, xor_comm, xor_lt, and_mask}
use Rattle.crc32c.specs.Crc.{steps, register}
use Rattle.crc32c.proofs.Step.{steps_add}
use Rattle.crc32c.proofs.Word.{word, word_value, value_four, by_word, by_looks, looks_four}
use Rattle.crc32c.proofs.register.over_four.Goals as goal

-- four look-ups, and the register over four bytes
looked : (z x a b d e : ℕ) → x < 2 ^ 32 → a ≡ steps (8 * (z + 3 + 1)) (x % 256) → b ≡ steps (8 * (z + 2 + 1)) (x / 2 ^ 8 % 256) → d ≡ steps (8 * (z + 1 + 1)) (x / 2 ^ 16 % 256) → e ≡ steps (8 * (z + 1)) (x / 2 ^ 24) → bit_xor (bit_xor a b) (bit_xor d e) ≡ steps (8 * (z + 4)) x
looked z x a b d e lt ha hb hd he =
    let four : z + 3 + 1 ≡ z + 4 = omega arith in
    let three : z + 2 + 1 ≡ z + 3 = omega arith in
    let two : z + 1 + 1 ≡ z + 2 = omega arith in
    let top : x / 2 ^ 24 ≡ x / 2 ^ 24 % 256 = omega arith in
    simp (ha, hb, hd, he, four, three, two) (ap (λ (t : ℕ). bit_xor (bit_xor (steps (8 * (z + 4)) (x % 256)) (steps (8 * (z + 3)) (x / 2 ^ 8 % 256))) (bit_xor (steps (8 * (z + 2)) (x / 2 ^ 16 % 256)) (steps (8 * (z + 1)) t))) top)
    ∙ sym (looks_four z x)
    ∙ sym (by_looks z 4 x lt)

stepped : (z s x : ℕ) (bs : List ℕ) → length bs ≡ 4 → x ≡ bit_xor (word bs) s → steps (8 * (z + 4)) x ≡ steps (8 * z) (register s bs)
stepped z s x bs long is =
    let sum : 8 * (z + 4) ≡ 32 + 8 * z = omega arith in
    ap (λ (t : ℕ). steps t x) sum
    ∙ steps_add 32 (8 * z) x
    ∙ ap (λ (t : ℕ). steps (8 * z) (steps 32 t)) (is ∙ xor_comm (word bs) s)
    ∙ ap (λ (t : ℕ). steps (8 * z) (steps (8 * t) (bit_xor s (word bs)))) (sym long)
    ∙ sym (ap (steps (8 * z)) (by_word bs s))

pub returns : goal.returns
returns c =
    let bs : List ℕ = c.args.bytes.now in
    let w : ℕ = c.from_le_bytes.result in
    let x : ℕ = bit_xor w c.args.c in
    let is : w ≡ word bs = c.from_le_bytes.ensures ∙ sym (value_four bs c.told-bytes) ∙ sym (word_value bs c.fits-bytes) in
    let lt : x < 2 ^ 32 = xor_lt 32 w c.args.c (omega arith) (omega arith) in
    record {
      value =
          looked c.args.zeros x _ _ _ _ lt
          (c.entry.ensures.value ∙ ap (steps (8 * (c.args.zeros + 3 + 1))) (and_mask x 8))
          (c.entry-2.ensures.value ∙ ap (steps (8 * (c.args.zeros + 2 + 1))) (and_mask (x / 2 ^ 8) 8))
          (c.entry-3.ensures.value ∙ ap (steps (8 * (c.args.zeros + 1 + 1))) (and_mask (x / 2 ^ 16) 8))
          c.entry-4.ensures.value
          ∙ stepped c.args.zeros c.args.c x bs c.told-bytes (ap (λ (t : ℕ). bit_xor t c.args.c) is);
    }
