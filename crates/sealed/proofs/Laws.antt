-- Sealing and reading undo each other.
use Rattle.std.proofs.Common.{◌≡◌, ℕ, zero, suc, ◌-◌, ◌^◌, ◌<◌, ◌≤◌, List, [], ◌∷◌, ◌++◌, length, take, drop, replicate, Some, sym, refl, ap, ◌∙◌, one-add, arith, length-drop}
use Rattle.std.proofs.lemmas.List.{length-append, length-replicate, length-take-le, take_at, drop_at, drop-drop, drop_more, take-append-drop}
use Rattle.crc32c.specs.Crc.{crc}
use Rattle.sealed.specs.Mask.{masked}
use Rattle.crc32c.specs.Byte.{Bytes}
use Rattle.sealed.specs.Number.{low_bytes, number}
use Rattle.sealed.specs.Zero.{all_zero}
use Rattle.sealed.specs.Sealing.{sealing}
use Rattle.sealed.specs.Part.{stored, size, payload, covered, tail}
use Rattle.sealed.specs.Law.{ReadsBack, IsSealing, HasSize, IsBlock, ZerosUnsealed}
use Rattle.sealed.proofs.Numbers.{number_low_bytes, low_bytes_number, bytes_take, bytes_drop, bytes-++, bytes_low_bytes}
use Rattle.sealed.proofs.Zeros.{zeros_replicate, zeros_are}
use Rattle.sealed.proofs.Parts.{Sealed, part_some, part_none, part_sealed, length_payload}

masked_fits : (c : ℕ) → masked c < 2 ^ 32
unfolding masked
masked_fits c = omega arith

bytes_replicate : (n : ℕ) → Bytes (replicate n 0)
bytes_replicate zero k = omega arith
bytes_replicate (suc n) zero = omega arith
bytes_replicate (suc n) (suc k) = bytes_replicate n k

bytes_one : Bytes (1 ∷ [])
bytes_one zero = omega arith
bytes_one (suc k) = omega arith

-- the fields of a sealing
module _ (p : List ℕ) (most : length p ≤ 505) where
  abbrev padding : List ℕ
  padding = replicate (505 - length p) 0

  sealing_size : size (sealing p) ≡ length p
  unfolding sealing low_bytes
  sealing_size = number_low_bytes 2 (length p) (omega arith)

  sealing_payload : payload (sealing p) ≡ p
  unfolding sealing low_bytes
  sealing_payload = ap (λ (n : ℕ). take n (p ++ padding)) sealing_size ∙ take_at p padding (length p) refl

  sealing_covered : covered (sealing p) ≡ 1 ∷ p
  unfolding sealing low_bytes
  sealing_covered =
      ap (λ (n : ℕ). take n (1 ∷ (p ++ padding))) (one-add (size (sealing p)))
      ∙ ap (λ (t : List ℕ). 1 ∷ t) sealing_payload

  sealing_tail : tail (sealing p) ≡ padding
  unfolding sealing low_bytes
  sealing_tail =
      sym (drop-drop (size (sealing p)) 7 (sealing p))
      ∙ ap (λ (n : ℕ). drop n (p ++ padding)) sealing_size
      ∙ drop_at p padding (length p) refl

  sealing_stored : stored (sealing p) ≡ masked (crc (1 ∷ p))
  unfolding sealing low_bytes
  sealing_stored = number_low_bytes 4 (masked (crc (1 ∷ p))) (masked_fits (crc (1 ∷ p)))

  pub sealing_whole : length (sealing p) ≡ 512
  unfolding sealing low_bytes
  sealing_whole = simp (length-append, length-replicate) (omega arith)

  pub sealing_sealed : 1 ≤ length p → Sealed (sealing p)
  unfolding sealing low_bytes
  sealing_sealed some =
      record {
        whole = sealing_whole;
        full = refl;
        some = omega (arith, sealing_size);
        most = omega (arith, sealing_size);
        sum = sealing_stored ∙ ap (λ (t : List ℕ). masked (crc t)) (sym sealing_covered);
        zeros = ap all_zero sealing_tail ∙ zeros_replicate (505 - length p);
      }

  pub sealing_bytes : Bytes p → Bytes (sealing p)
  unfolding sealing
  sealing_bytes h =
      bytes-++ (low_bytes 4 (masked (crc (1 ∷ p)))) _ (bytes_low_bytes 4 (masked (crc (1 ∷ p))))
      (bytes-++ (low_bytes 2 (length p)) _ (bytes_low_bytes 2 (length p))
      (bytes-++ (1 ∷ []) (p ++ padding) (λ k. bytes_one k) (bytes-++ p padding h (bytes_replicate (505 - length p)))))

pub reads_back : ReadsBack
reads_back p some most =
    part_some (sealing p) (sealing_sealed p most some) ∙ ap (λ (t : List ℕ). Some t) (sealing_payload p most)

-- four and two bytes in front, and the rest
split_off : (n : ℕ) (b : List ℕ) → Bytes b → n ≤ length b → b ≡ low_bytes n (number (take n b)) ++ drop n b
split_off n b h le =
    let long : length (take n b) ≡ n = length-take-le n b le in
    let e : low_bytes n (number (take n b)) ≡ take n b =
    ap (λ (k : ℕ). low_bytes k (number (take n b))) (sym long) ∙ low_bytes_number (take n b) (bytes_take n b h) in
    sym (take-append-drop n b) ∙ ap (λ (t : List ℕ). t ++ drop n b) (sym e)

module _ (b : List ℕ) (bytes : Bytes b) (s : Sealed b) where
  is_tail : tail b ≡ replicate (505 - length (payload b)) 0
  is_tail =
      let long : length (tail b) ≡ 505 - length (payload b) = simp length-drop (omega (arith, length_payload b s)) in
      zeros_are (tail b) s.zeros ∙ ap (λ (n : ℕ). replicate n 0) long

  is_rest : drop 6 b ≡ 1 ∷ (payload b ++ replicate (505 - length (payload b)) 0)
  is_rest =
      drop_more b 6 0 (omega arith)
      ∙ ap (λ (k : ℕ). k ∷ drop 7 b) s.full
      ∙ ap (λ (t : List ℕ). 1 ∷ t)
      (sym (take-append-drop (size b) (drop 7 b)) ∙ ap (λ (t : List ℕ). payload b ++ t) (drop-drop (size b) 7 b ∙ is_tail))

  pub is_covered : covered b ≡ 1 ∷ payload b
  is_covered =
      ap (λ (n : ℕ). take n (drop 6 b)) (one-add (size b))
      ∙ ap (take (suc (size b))) (drop_more b 6 0 (omega arith))
      ∙ ap (λ (k : ℕ). k ∷ payload b) s.full

  pub is_sealing : b ≡ sealing (payload b)
  unfolding sealing
  is_sealing =
      split_off 4 b bytes (omega arith)
      ∙ ap (λ (t : ℕ). low_bytes 4 t ++ drop 4 b) (s.sum ∙ ap (λ (t : List ℕ). masked (crc t)) is_covered)
      ∙ ap (λ (t : List ℕ). low_bytes 4 (masked (crc (1 ∷ payload b))) ++ t)
      (split_off 2 (drop 4 b) (bytes_drop 4 b bytes) (simp length-drop (omega arith))
      ∙ ap (λ (t : ℕ). low_bytes 2 t ++ drop 2 (drop 4 b)) (sym (length_payload b s))
      ∙ ap (λ (t : List ℕ). low_bytes 2 (length (payload b)) ++ t) (drop-drop 2 4 b ∙ is_rest))

pub only_sealing : IsSealing
only_sealing b p bytes e =
    let s = part_sealed b p e in
    is_sealing b bytes s.0 ∙ ap sealing (sym s.1)

pub has_size : HasSize
has_size b p e =
    let s = part_sealed b p e in
    let long : length p ≡ size b = ap length s.1 ∙ length_payload b s.0 in
    (s.0.whole, omega (arith, s.0.some), omega (arith, s.0.most))

pub is_block : IsBlock
is_block p most = (sealing_whole p most, sealing_bytes p most)

pub zeros_unsealed : ZerosUnsealed
zeros_unsealed = part_none (replicate 512 0) (λ s. let z : ◌≡◌ {A = ℕ} 0 1 = s.full in omega arith)
