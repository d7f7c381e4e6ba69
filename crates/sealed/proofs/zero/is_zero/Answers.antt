use Rattle.std.proofs.Common.{◌≡◌, ℕ, ◌*◌, ◌/◌, ◌<◌, eqb, List, [], length, get_or, drop, sym, ap, ◌∙◌, arith, eq-eqb, eqb-true, fold, refl, rules}
use lib.Bits.{bit_or}
use lib.Lanes.{chunk}
use Rattle.std.proofs.lemmas.Simd.{length-chunk}
use Rattle.std.proofs.lemmas.Iterator.{YieldsList-from_slice}
use Rattle.std.proofs.lemmas.Iterator.Consumers.{fold_from_yields_List}
use Rattle.crc32c.proofs.Chunk.{getD_chunked}
use Rattle.sealed.specs.Number.{number}
use Rattle.sealed.specs.Zero.{all_zero}
use Rattle.sealed.proofs.Zeros.{left_word, number_eight, decided, zeros_number, number_zeros, zeros_decides, or_zeros, zeros_or}
use Rattle.sealed.proofs.zero.is_zero.Goals as goal

pub loop-w-preserved : goal.loop-w-preserved
loop-w-preserved c =
    let xs : List ℕ = c.args.bytes.now in
    let i : ℕ = c.loop-w.w-index in
    let w : List ℕ = get_or c.as_chunks.result.0.now i [] in
    let lt : i < length xs / 8 = omega arith in
    let at : w ≡ chunk (i * 8) 8 xs =
    ap (λ (t : List (List ℕ)). get_or t i []) c.as_chunks.ensures.front ∙ getD_chunked 8 (length xs / 8) xs i [] lt in
    let long : length w ≡ 8 = ap length at ∙ length-chunk (i * 8) 8 xs (omega arith) in
    left_word c.loop-w.any i c.from_le_bytes-any.result xs
    (c.from_le_bytes-any.ensures ∙ sym (number_eight w long) ∙ ap number at) c.loop-w.invariant

-- past the last word
rest_is : (xs rest : List ℕ) (i : ℕ) → i ≡ length xs / 8 → rest ≡ drop (length xs / 8 * 8) xs → number (drop (i * 8) xs) ≡ number rest
rest_is xs rest i e f = ap number (ap (λ (t : ℕ). drop (t * 8) xs) e ∙ sym f)

pub returns-then-any-eq0 : goal.returns-then-any-eq0
returns-then-any-eq0 c =
    let xs : List ℕ = c.args.bytes.now in
    let rest : List ℕ = c.as_chunks.result.1.now in
    let e : number (drop (c.loop-w.w-index * 8) xs) ≡ number rest = rest_is xs rest c.loop-w.w-index (omega arith) c.as_chunks.ensures.back in
    let folded : c.fold.result ≡ fold bit_or 0 rest = fold_from_yields_List _ bit_or 0 _ c.fold.ensures.ran (YieldsList-from_slice rest cc) (λ a x b q k. search rules) in
    let is : eqb c.fold.result 0 ≡ all_zero xs =
    decided (eqb c.fold.result 0) xs
    (λ t. c.loop-w.invariant.0 c.if-any-eq0.true (e ∙ zeros_number rest (or_zeros 0 rest (sym folded ∙ eqb-true c.fold.result 0 t)).1))
    (λ z. eq-eqb c.fold.result 0 (folded ∙ zeros_or 0 rest refl (number_zeros rest (sym e ∙ (c.loop-w.invariant.1 z).1)))) in
    record { value = is; told = zeros_decides (eqb c.fold.result 0) xs is }

pub returns-else-any-eq0 : goal.returns-else-any-eq0
returns-else-any-eq0 c =
    let xs : List ℕ = c.args.bytes.now in
    let is : eqb c.loop-w.any 0 ≡ all_zero xs =
    decided (eqb c.loop-w.any 0) xs (λ t. absurd (c.if-any-eq0.false (eqb-true c.loop-w.any 0 t)))
    (λ z. eq-eqb c.loop-w.any 0 (c.loop-w.invariant.1 z).0) in
    record { value = is; told = zeros_decides (eqb c.loop-w.any 0) xs is }
