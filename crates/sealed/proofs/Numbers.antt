-- Numbers and the bytes that spell them.
use Rattle.std.proofs.Common.{◌≡◌, ℕ, zero, suc, ◌+◌, ◌*◌, ◌/◌, ◌%◌, ◌^◌, ◌<◌, List, [], ◌∷◌, ◌++◌, length, take, drop, refl, ap, ◌∙◌, pow-suc, arith}
use Rattle.crc32c.specs.Byte.{Bytes}
use Rattle.sealed.specs.Number.{low_bytes, number}

pub number_low_bytes : (n x : ℕ) → x < 256 ^ n → number (low_bytes n x) ≡ x
unfolding low_bytes number
number_low_bytes zero x h = omega arith
number_low_bytes (suc n) x h =
    let p : 256 ^ suc n ≡ 256 ^ n * 256 = pow-suc 256 n in
    let e : number (low_bytes n (x / 256)) ≡ x / 256 = number_low_bytes n (x / 256) (omega arith) in
    omega arith

pub low_bytes_number : (bs : List ℕ) → Bytes bs → low_bytes (length bs) (number bs) ≡ bs
unfolding low_bytes number
low_bytes_number [] h = refl
low_bytes_number (b ∷ bs) h =
    let lt : b < 256 = h 0 in
    let r : (b + 256 * number bs) % 256 ≡ b = omega arith in
    let q : (b + 256 * number bs) / 256 ≡ number bs = omega arith in
    ap (λ (t : ℕ). t ∷ low_bytes (length bs) ((b + 256 * number bs) / 256)) r
    ∙ ap (λ (t : ℕ). b ∷ low_bytes (length bs) t) q
    ∙ ap (λ (t : List ℕ). b ∷ t) (low_bytes_number bs (λ k. h (suc k)))

-- bytes stay bytes in a part
pub bytes_take : (n : ℕ) (bs : List ℕ) → Bytes bs → Bytes (take n bs)
bytes_take zero bs h k = omega arith
bytes_take (suc n) [] h k = omega arith
bytes_take (suc n) (b ∷ bs) h zero = h 0
bytes_take (suc n) (b ∷ bs) h (suc k) = bytes_take n bs (λ j. h (suc j)) k

pub bytes_drop : (n : ℕ) (bs : List ℕ) → Bytes bs → Bytes (drop n bs)
bytes_drop zero bs h = h
bytes_drop (suc n) [] h = h
bytes_drop (suc n) (b ∷ bs) h = bytes_drop n bs (λ j. h (suc j))

pub bytes-++ : (xs ys : List ℕ) → Bytes xs → Bytes ys → Bytes (xs ++ ys)
bytes-++ [] ys a b k = b k
bytes-++ (x ∷ xs) ys a b zero = a 0
bytes-++ (x ∷ xs) ys a b (suc k) = bytes-++ xs ys (λ j. a (suc j)) b k

pub bytes_low_bytes : (n x : ℕ) → Bytes (low_bytes n x)
unfolding low_bytes
bytes_low_bytes zero x k = omega arith
bytes_low_bytes (suc n) x zero = omega arith
bytes_low_bytes (suc n) x (suc k) = bytes_low_bytes n (x / 256) k
