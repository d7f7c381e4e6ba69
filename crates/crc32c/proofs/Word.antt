-- Bytes as one word: the word, added to the register at once and stepped past, is the register over the bytes; and the
-- steps over a word are one look-up for each of its bytes.
use Rattle.std.proofs.Common.{◌≡◌, ℕ, zero, suc, ◌+◌, ◌*◌, ◌/◌, ◌%◌, ◌^◌, ◌<◌, List, [], ◌∷◌, ◌++◌, length, get_or, drop, sym, refl, ap, ◌∙◌, subst, arith}
use lib.Bits.{bit_xor, xor_assoc, xor_comm, xor_zero_l, xor_zero_r, xor_shifted}
use Rattle.std.proofs.lemmas.Nat.{shr_below, shr-shr}
use Rattle.std.proofs.lemmas.List.{at_drop_all}
use Rattle.crc32c.specs.Crc.{steps, register}
use Rattle.crc32c.proofs.Step.{steps_xor, steps_add, steps_shift, steps_zero, cut}

pub register-++ : (c : ℕ) (xs ys : List ℕ) → register c (xs ++ ys) ≡ register (register c xs) ys
unfolding register
register-++ c [] ys = refl
register-++ c (x ∷ xs) ys = register-++ (steps 8 (bit_xor c x)) xs ys

-- the bytes as one word, the first lowest
abbrev pub word : List ℕ → ℕ
word [] = 0
word (b ∷ bs) = bit_xor b (word bs * 2 ^ 8)

-- a later byte may as well be added before the steps of the earlier one
join : (b w c : ℕ) → bit_xor (steps 8 (bit_xor c b)) w ≡ steps 8 (bit_xor c (bit_xor b (w * 2 ^ 8)))
join b w c =
    ap (bit_xor (steps 8 (bit_xor c b))) (sym (steps_shift 8 w))
    ∙ sym (steps_xor 8 (bit_xor c b) (w * 2 ^ 8))
    ∙ ap (steps 8) (xor_assoc c b (w * 2 ^ 8))

pub by_word : (bs : List ℕ) (c : ℕ) → register c bs ≡ steps (8 * length bs) (bit_xor c (word bs))
unfolding register steps
by_word [] c = sym (xor_zero_r c)
by_word (b ∷ bs) c =
    let x : ℕ = bit_xor c (bit_xor b (word bs * 2 ^ 8)) in
    let more : 8 + 8 * length bs ≡ 8 * suc (length bs) = omega arith in
    by_word bs (steps 8 (bit_xor c b))
    ∙ ap (steps (8 * length bs)) (join b (word bs) c)
    ∙ sym (steps_add 8 (8 * length bs) x)
    ∙ ap (λ (t : ℕ). steps t x) more

-- two parts, each on its own: the first is carried on over the bits of the second
pub register_two : (c : ℕ) (xs ys : List ℕ) → register c (xs ++ ys) ≡ bit_xor (steps (8 * length ys) (register c xs)) (register 0 ys)
register_two c xs ys =
    register-++ c xs ys
    ∙ by_word ys (register c xs)
    ∙ steps_xor (8 * length ys) (register c xs) (word ys)
    ∙ ap (bit_xor (steps (8 * length ys) (register c xs)))
    (sym (by_word ys 0 ∙ ap (steps (8 * length ys)) (xor_zero_l (word ys))))

-- the look-ups of the n bytes of x, the lowest first, z bytes of zero further on
abbrev pub looks : ℕ → ℕ → ℕ → ℕ
looks z zero x = 0
looks z (suc n) x = bit_xor (steps (8 * (z + suc n)) (x % 2 ^ 8)) (looks z n (x / 2 ^ 8))

pub by_looks : (z n x : ℕ) → x < 2 ^ (8 * n) → steps (8 * (z + n)) x ≡ looks z n x
by_looks z zero x h = ap (steps (8 * (z + 0))) (omega arith) ∙ steps_zero (8 * (z + 0))
by_looks z (suc n) x h =
    let m : ℕ = 8 * (z + suc n) in
    let hi : ℕ = x / 2 ^ 8 * 2 ^ 8 in
    let lo : ℕ = x % 2 ^ 8 in
    let less : m ≡ 8 + 8 * (z + n) = omega arith in
    let width : 8 * suc n ≡ 8 * n + 8 = omega arith in
    ap (steps m) (cut 8 x)
    ∙ steps_xor m hi lo
    ∙ xor_comm (steps m hi) (steps m lo)
    ∙ ap (bit_xor (steps m lo))
    (ap (λ (t : ℕ). steps t hi) less
    ∙ steps_add 8 (8 * (z + n)) hi
    ∙ ap (steps (8 * (z + n))) (steps_shift 8 (x / 2 ^ 8))
    ∙ by_looks z n (x / 2 ^ 8) (shr_below x (8 * n) 8 (subst (λ (t : ℕ). x < 2 ^ t) width h)))

pub looks_four : (z x : ℕ) → looks z 4 x ≡ bit_xor (bit_xor (steps (8 * (z + 4)) (x % 256)) (steps (8 * (z + 3)) (x / 2 ^ 8 % 256))) (bit_xor (steps (8 * (z + 2)) (x / 2 ^ 16 % 256)) (steps (8 * (z + 1)) (x / 2 ^ 24 % 256)))
looks_four z x = simp (shr-shr x 8 8, shr-shr x 16 8, xor_assoc, xor_zero_r)

-- the word as a sum
abbrev pub value : List ℕ → ℕ
value [] = 0
value (b ∷ bs) = value bs * 256 + b

pub word_value : (bs : List ℕ) → ((k : ℕ) → get_or bs k 0 < 256) → word bs ≡ value bs
word_value [] h = refl
word_value (b ∷ bs) h =
    xor_comm b (word bs * 2 ^ 8)
    ∙ xor_shifted (word bs) 8 b (h 0)
    ∙ ap (λ (t : ℕ). t * 256 + b) (word_value bs (λ k. h (suc k)))

value_drop : (k : ℕ) (bs : List ℕ) → value (drop k bs) ≡ value (drop (suc k) bs) * 256 + get_or bs k 0
value_drop zero [] = refl
value_drop zero (b ∷ bs) = refl
value_drop (suc k) [] = refl
value_drop (suc k) (b ∷ bs) = value_drop k bs

pub value_four : (bs : List ℕ) → length bs ≡ 4 → value bs ≡ get_or bs 0 0 + get_or bs 1 0 * 256 + get_or bs 2 0 * 65536 + get_or bs 3 0 * 16777216
value_four bs h =
    let z : value (drop 4 bs) ≡ 0 = at_drop_all value bs 4 (omega arith) in
    omega (arith, value_drop 0 bs, value_drop 1 bs, value_drop 2 bs, value_drop 3 bs)
