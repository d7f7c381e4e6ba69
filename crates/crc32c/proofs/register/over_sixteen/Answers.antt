use Rattle.std.proofs.Common.{◌≡◌, ℕ, ◌*◌, ◌/◌, ◌<◌, List, [], ◌++◌, length, get_or, drop, sym, ap, ◌∙◌, arith}
use lib.Bits.{bit_xor}
use lib.Lanes.{chunk}
use Rattle.std.proofs.lemmas.Simd.{chunk-drop}
use Rattle.std.proofs.lemmas.List.{take_all, length-drop}
use Rattle.crc32c.specs.Crc.{steps, register}
use Rattle.crc32c.proofs.Word.{register_two}
use Rattle.crc32c.proofs.Chunk.{getD_chunked}
use Rattle.crc32c.proofs.register.over_sixteen.Goals as goal

-- one part off the front
off : (n s : ℕ) (xs a rest : List ℕ) → xs ≡ a ++ rest → length rest ≡ n → register s xs ≡ bit_xor (steps (8 * n) (register s a)) (register 0 rest)
off n s xs a rest e long =
    ap (register s) e ∙ register_two s a rest ∙ ap (λ (t : ℕ). bit_xor (steps (8 * t) (register s a)) (register 0 rest)) long

parts : (s : ℕ) (xs : List ℕ) → length xs ≡ 16 → register s xs ≡ bit_xor (steps 96 (register s (chunk 0 4 xs))) (bit_xor (steps 64 (register 0 (chunk 4 4 xs))) (bit_xor (steps 32 (register 0 (chunk 8 4 xs))) (steps 0 (register 0 (chunk 12 4 xs)))))
unfolding steps
parts s xs long =
    let last : chunk 12 4 xs ≡ drop 12 xs = take_all 4 (drop 12 xs) (simp length-drop (omega arith)) in
    off 12 s xs (chunk 0 4 xs) (drop 4 xs) (chunk-drop 0 4 xs) (simp length-drop (omega arith))
    ∙ ap (bit_xor (steps 96 (register s (chunk 0 4 xs))))
    (off 8 0 (drop 4 xs) (chunk 4 4 xs) (drop 8 xs) (chunk-drop 4 4 xs) (simp length-drop (omega arith))
    ∙ ap (bit_xor (steps 64 (register 0 (chunk 4 4 xs))))
    (off 4 0 (drop 8 xs) (chunk 8 4 xs) (drop 12 xs) (chunk-drop 8 4 xs) (simp length-drop (omega arith))
    ∙ ap (λ (t : List ℕ). bit_xor (steps 32 (register 0 (chunk 8 4 xs))) (register 0 t)) (sym last)))

pub returns : goal.returns
returns c =
    let xs : List ℕ = c.args.bytes.now in
    let ws : List (List ℕ) = c.as_chunks.result.0.now in
    let at : (i : ℕ) → i < 4 → get_or ws i [] ≡ chunk (i * 4) 4 xs =
    λ i lt. ap (λ (t : List (List ℕ)). get_or t i []) c.as_chunks.ensures.front ∙ getD_chunked 4 (length xs / 4) xs i [] (omega arith) in
    let a : c.over_four-4.result ≡ steps 96 (register c.args.c (chunk 0 4 xs)) =
    c.over_four-4.ensures.value ∙ ap (λ (t : List ℕ). steps 96 (register c.args.c t)) (at 0 (omega arith)) in
    let b : c.over_four.result ≡ steps 64 (register 0 (chunk 4 4 xs)) =
    c.over_four.ensures.value ∙ ap (λ (t : List ℕ). steps 64 (register 0 t)) (at 1 (omega arith)) in
    let d : c.over_four-2.result ≡ steps 32 (register 0 (chunk 8 4 xs)) =
    c.over_four-2.ensures.value ∙ ap (λ (t : List ℕ). steps 32 (register 0 t)) (at 2 (omega arith)) in
    let e : c.over_four-3.result ≡ steps 0 (register 0 (chunk 12 4 xs)) =
    c.over_four-3.ensures.value ∙ ap (λ (t : List ℕ). steps 0 (register 0 t)) (at 3 (omega arith)) in
    record { value = simp (a, b, d, e) (sym (parts c.args.c xs c.told-bytes)) }
