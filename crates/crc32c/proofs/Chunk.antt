-- A loop over `as_chunks` keeps: what is left of the bytes, from the register so far, gives the register over all.
use Rattle.std.proofs.Common.{◌≡◌, ℕ, zero, suc, ◌+◌, ◌*◌, ◌/◌, ◌<◌, List, [], length, get_or, take, drop, sym, ap, ◌∙◌, le_of_suc-le-suc, not-suc-le-zero, suc-mul, add_comm, zero-mul, add-one}
use lib.Lanes.{chunk}
use Rattle.std.proofs.lemmas.Simd.{chunk-drop}
use Rattle.std.proofs.lemmas.List.{drop-drop}
use Rattle.std.specs.Simd.{first_chunks}
use Rattle.crc32c.specs.Crc.{register}
use Rattle.crc32c.proofs.Word.{register-++}

pub getD_chunked : (n m : ℕ) (xs : List ℕ) (i : ℕ) (d : List ℕ) → i < m → get_or (first_chunks n m xs) i d ≡ chunk (i * n) n xs
getD_chunked n zero xs i d h = absurd (not-suc-le-zero h)
getD_chunked n (suc m) xs zero d h = ap (λ (t : ℕ). take n (drop t xs)) (sym (zero-mul n))
getD_chunked n (suc m) xs (suc i) d h =
    getD_chunked n m (drop n xs) i d (le_of_suc-le-suc h)
    ∙ ap (take n) (drop-drop (i * n) n xs)
    ∙ ap (λ (t : ℕ). take n (drop t xs)) (add_comm n (i * n) ∙ sym (suc-mul i n))

pub chunk_more : (n : ℕ) (xs : List ℕ) (ws : List (List ℕ)) (i c r t : ℕ) → ws ≡ first_chunks n (length xs / n) xs → i < length xs / n → r ≡ register c (get_or ws i []) → register c (drop (i * n) xs) ≡ t → register r (drop ((i + 1) * n) xs) ≡ t
chunk_more n xs ws i c r t front lt e inv =
    let at : get_or ws i [] ≡ chunk (i * n) n xs =
    ap (λ (v : List (List ℕ)). get_or v i []) front ∙ getD_chunked n (length xs / n) xs i [] lt in
    let next : (i + 1) * n ≡ i * n + n = ap (λ (v : ℕ). v * n) (add-one i) ∙ suc-mul i n in
    ap (λ (v : ℕ). register r (drop v xs)) next
    ∙ ap (λ (v : ℕ). register v (drop (i * n + n) xs)) (e ∙ ap (register c) at)
    ∙ sym (ap (register c) (chunk-drop (i * n) n xs) ∙ register-++ c (chunk (i * n) n xs) (drop (i * n + n) xs))
    ∙ inv

-- past the last chunk: r is what comes of the rest
pub chunk_all : (n : ℕ) (xs rest : List ℕ) (i c r t : ℕ) → i ≡ length xs / n → rest ≡ drop (length xs / n * n) xs → r ≡ register c rest → register c (drop (i * n) xs) ≡ t → r ≡ t
chunk_all n xs rest i c r t e back last inv =
    last ∙ ap (register c) (back ∙ ap (λ (v : ℕ). drop (v * n) xs) (sym e)) ∙ inv
