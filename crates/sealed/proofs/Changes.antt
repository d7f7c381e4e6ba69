-- One changed byte of a sealed block shows, unless it is one of the length's.
use Rattle.std.proofs.Common.{◌≡◌, ℕ, zero, suc, ◌+◌, ◌-◌, ◌*◌, ◌/◌, ◌%◌, ◌^◌, ◌<◌, ◌≤◌, ◌≢◌, List, [], ◌∷◌, ◌++◌, length, get_or, take, drop, set, sym, refl, ap, ◌∙◌, ⊎_elim, arith, drop-cons}
use Rattle.std.proofs.lemmas.List.{drop-set-lt, drop-set-add, take-set-le, take-append-drop, set_split, get_or-set_same, get_or-set_other, get_or-take, get_or-drop}
use Rattle.std.proofs.lemmas.Bool.{cases_lt}
use Rattle.crc32c.specs.Byte.{Bytes}
use Rattle.crc32c.specs.Crc.{crc}
use Rattle.crc32c.proofs.Burst.{crc_lt, burst_seen}
use Rattle.sealed.specs.Mask.{masked}
use Rattle.sealed.specs.Sealing.{sealing}
use Rattle.sealed.specs.Part.{stored, size, payload}
use Rattle.sealed.specs.Law.{ChangeSeen}
use Rattle.sealed.proofs.Numbers.{bytes_take, bytes_drop}
use Rattle.sealed.proofs.Parts.{Sealed, part_none, part_sealed, length_payload, size_is, stored_is}
use Rattle.sealed.proofs.Laws.{is_covered, is_sealing}

delta_same : (a b : ℕ) → a < 2 ^ 32 → b < 2 ^ 32 → (a + 0xA282_EAD8) % 2 ^ 32 ≡ (b + 0xA282_EAD8) % 2 ^ 32 → a ≡ b
delta_same a b ha hb e = omega arith

digits_same : (q r s t : ℕ) → q < 2 ^ 17 → s < 2 ^ 17 → q + r * 2 ^ 17 ≡ s + t * 2 ^ 17 → (q ≡ s) × (r ≡ t)
digits_same q r s t hq hs e = (omega arith, omega arith)

rotated_lt : (c : ℕ) → c < 2 ^ 32 → c / 2 ^ 15 + c % 2 ^ 15 * 2 ^ 17 < 2 ^ 32
rotated_lt c h = omega arith

masked_same : (c d : ℕ) → c < 2 ^ 32 → d < 2 ^ 32 → masked c ≡ masked d → c ≡ d
unfolding masked
masked_same c d hc hd e =
    let rotated : c / 2 ^ 15 + c % 2 ^ 15 * 2 ^ 17 ≡ d / 2 ^ 15 + d % 2 ^ 15 * 2 ^ 17 =
    delta_same (c / 2 ^ 15 + c % 2 ^ 15 * 2 ^ 17) (d / 2 ^ 15 + d % 2 ^ 15 * 2 ^ 17) (rotated_lt c hc) (rotated_lt d hd) e in
    let parts = digits_same (c / 2 ^ 15) (c % 2 ^ 15) (d / 2 ^ 15) (d % 2 ^ 15) (omega arith) (omega arith) rotated in
    omega (arith, parts.0, parts.1)

bytes_set : (bs : List ℕ) (k v : ℕ) → Bytes bs → v < 256 → Bytes (set bs k v)
bytes_set [] k v h lt j = h j
bytes_set (b ∷ bs) zero v h lt zero = lt
bytes_set (b ∷ bs) zero v h lt (suc j) = h (suc j)
bytes_set (b ∷ bs) (suc k) v h lt zero = h 0
bytes_set (b ∷ bs) (suc k) v h lt (suc j) = bytes_set bs k v (λ i. h (suc i)) lt j

bytes_cons : (b : ℕ) (bs : List ℕ) → b < 256 → Bytes bs → Bytes (b ∷ bs)
bytes_cons b bs lt h zero = lt
bytes_cons b bs lt h (suc k) = h k

take_set_below : (n : ℕ) (xs : List ℕ) (i v : ℕ) → i < n → take n (set xs i v) ≡ set (take n xs) i v
take_set_below zero xs i v h = absurd (omega arith)
take_set_below (suc n) [] i v h = refl
take_set_below (suc n) (x ∷ xs) zero v h = refl
take_set_below (suc n) (x ∷ xs) (suc i) v h = ap (λ (t : List ℕ). x ∷ t) (take_set_below n xs i v (omega arith))

-- one byte of what the checksum covers
byte_seen : (p : List ℕ) (j v : ℕ) → Bytes p → j < length p → v < 256 → crc (1 ∷ p) ≡ crc (1 ∷ set p j v) → v ≡ get_or p j 0
byte_seen p j v h lt small e =
    let front : List ℕ = 1 ∷ take j p in
    let back : List ℕ = drop (suc j) p in
    let old : 1 ∷ p ≡ front ++ ((get_or p j 0 ∷ []) ++ back) =
    ap (λ (t : List ℕ). 1 ∷ t) (sym (take-append-drop j p) ∙ ap (λ (t : List ℕ). take j p ++ t) (drop-cons p j 0 lt)) in
    let new : 1 ∷ set p j v ≡ front ++ ((v ∷ []) ++ back) = ap (λ (t : List ℕ). 1 ∷ t) (set_split p j v lt) in
    let same : get_or p j 0 ∷ [] ≡ v ∷ [] =
    burst_seen front (get_or p j 0 ∷ []) (v ∷ []) back
    (bytes_cons 1 (take j p) (omega arith) (bytes_take j p h))
    (bytes_cons (get_or p j 0) [] (h j) (λ k. omega arith)) (bytes_cons v [] small (λ k. omega arith))
    refl (omega arith) (sym (ap crc old) ∙ e ∙ ap crc new) in
    sym (ap (λ (t : List ℕ). get_or t 0 0) same)

module _ (b : List ℕ) (k v : ℕ) (bytes : Bytes b) (s : Sealed b) (in' : k < 512) (small : v < 256) (s' : Sealed (set b k v)) where
  abbrev changed : List ℕ
  changed = set b k v

  -- where the payload is the same, so is the block
  same_payload : payload changed ≡ payload b → v ≡ get_or b k 0
  same_payload e =
      let lt : k < length b = omega (arith, s.whole) in
      let same : changed ≡ b =
      is_sealing changed (bytes_set b k v bytes small) s' ∙ ap sealing e ∙ sym (is_sealing b bytes s) in
      sym (get_or-set_same b k v 0 lt) ∙ ap (λ (t : List ℕ). get_or t k 0) same

  same_size : 4 ≢ k → 5 ≢ k → size changed ≡ size b
  same_size n4 n5 =
      size_is changed
      ∙ ap (λ (t : ℕ). t + get_or changed 5 0 * 256) (get_or-set_other b k 4 v 0 n4)
      ∙ ap (λ (t : ℕ). get_or b 4 0 + t * 256) (get_or-set_other b k 5 v 0 n5)
      ∙ sym (size_is b)

  same_stored : 7 ≤ k → stored changed ≡ stored b
  same_stored le =
      let n0 : 0 ≢ k = λ e. omega arith in
      let n1 : 1 ≢ k = λ e. omega arith in
      let n2 : 2 ≢ k = λ e. omega arith in
      let n3 : 3 ≢ k = λ e. omega arith in
      stored_is changed
      ∙ (simp (get_or-set_other b k 0 v 0 n0, get_or-set_other b k 1 v 0 n1, get_or-set_other b k 2 v 0 n2, get_or-set_other b k 3 v 0 n3))
      ∙ sym (stored_is b)

  -- a byte before the payload
  before : size changed ≡ size b → k < 7 → v ≡ get_or b k 0
  before e lt =
      same_payload (ap (take (size changed)) (drop-set-lt 7 b k v lt) ∙ ap (λ (n : ℕ). take n (drop 7 b)) e)

  module _ (e : size changed ≡ size b) (le : 7 ≤ k) where
    abbrev place : ℕ
    place = k - 7

    rest : drop 7 changed ≡ set (drop 7 b) place v
    rest =
        let at : k ≡ 7 + place = omega arith in
        ap (λ (i : ℕ). drop 7 (set b i v)) at ∙ drop-set-add 7 b place v

    -- a byte of the tail
    after : size b ≤ place → v ≡ get_or b k 0
    after past =
        same_payload (ap (take (size changed)) rest ∙ ap (λ (n : ℕ). take n (set (drop 7 b) place v)) e ∙ take-set-le (size b) (drop 7 b) place v past)

    -- a byte of the payload
    inside : place < size b → v ≡ get_or b k 0
    inside lt =
        let p : List ℕ = payload b in
        let p-bytes : Bytes p = bytes_take (size b) (drop 7 b) (bytes_drop 7 b bytes) in
        let new : payload changed ≡ set p place v =
        ap (take (size changed)) rest
        ∙ ap (λ (n : ℕ). take n (set (drop 7 b) place v)) e
        ∙ take_set_below (size b) (drop 7 b) place v lt in
        let sums : masked (crc (1 ∷ p)) ≡ masked (crc (1 ∷ set p place v)) =
        sym (s.sum ∙ ap (λ (t : List ℕ). masked (crc t)) (is_covered b bytes s))
        ∙ sym (same_stored le)
        ∙ s'.sum
        ∙ ap (λ (t : List ℕ). masked (crc t)) (is_covered changed (bytes_set b k v bytes small) s' ∙ ap (λ (t : List ℕ). 1 ∷ t) new) in
        let same : crc (1 ∷ p) ≡ crc (1 ∷ set p place v) =
        masked_same (crc (1 ∷ p)) (crc (1 ∷ set p place v)) (crc_lt (1 ∷ p) (bytes_cons 1 p (omega arith) p-bytes))
        (crc_lt (1 ∷ set p place v) (bytes_cons 1 (set p place v) (omega arith) (bytes_set p place v p-bytes small))) sums in
        let at : 7 + place ≡ k = omega arith in
        byte_seen p place v p-bytes (omega (arith, length_payload b s)) small same
        ∙ get_or-take (size b) (drop 7 b) place 0 lt
        ∙ get_or-drop 7 b place 0
        ∙ ap (λ (i : ℕ). get_or b i 0) at

  seen : 4 ≢ k → 5 ≢ k → v ≡ get_or b k 0
  seen n4 n5 =
      let e : size changed ≡ size b = same_size n4 n5 in
      ⊎_elim (before e) (λ le. ⊎_elim (inside e le) (after e le) (cases_lt (k - 7) (size b))) (cases_lt k 7)

pub change_seen : ChangeSeen
change_seen b p k v bytes e in' n4 n5 small other =
    part_none (set b k v)
    (λ s'. other (seen b k v bytes (part_sealed b p e).0 in' small s' (λ h. n4 (sym h)) (λ h. n5 (sym h))))
