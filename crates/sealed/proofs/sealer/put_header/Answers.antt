use Rattle.std.proofs.Common.{◌≡◌, ℕ, ◌/◌, ◌%◌, List, [], ◌∷◌, ◌++◌, drop, ap, ◌∙◌, arith}
use borrow.Rule.Slice.PartMut.{put_mid}
use Rattle.std.proofs.lemmas.List.{drop-drop}
use Rattle.sealed.specs.Number.{low_bytes}
use Rattle.sealed.proofs.sealer.put_header.Goals as goal

four : (x : ℕ) → (x % 256) ∷ (x / 256 % 256) ∷ (x / 65536 % 256) ∷ (x / 16777216 % 256) ∷ [] ≡ low_bytes 4 x
unfolding low_bytes
four x =
    let two : x / 65536 ≡ x / 256 / 256 = omega arith in
    let three : x / 16777216 ≡ x / 256 / 256 / 256 = omega arith in
    simp (two, three)

header : (s n : ℕ) (a d b : List ℕ) → a ≡ low_bytes 4 s → d ≡ low_bytes 2 n → put_mid 4 2 (a ++ drop 4 b) d ≡ low_bytes 4 s ++ (low_bytes 2 n ++ drop 6 b)
unfolding low_bytes
header s n a d b e f =
    ap (λ (t : List ℕ). put_mid 4 2 (t ++ drop 4 b) d) e
    ∙ ap (λ (t : List ℕ). low_bytes 4 s ++ (t ++ drop 2 (drop 4 b))) f
    ∙ ap (λ (t : List ℕ). low_bytes 4 s ++ (low_bytes 2 n ++ t)) (drop-drop 2 4 b)

pub returns : goal.returns
unfolding low_bytes
returns c =
    record {
      after =
          header c.args.stored c.args.length c.copy_from_slice.new.self c.copy_from_slice-2.new.self c.args.block.now
          (c.copy_from_slice.ensures.after ∙ c.to_le_bytes.ensures ∙ four c.args.stored)
          (c.copy_from_slice-2.ensures.after ∙ c.to_le_bytes-2.ensures);
    }
