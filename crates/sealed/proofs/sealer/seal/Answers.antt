use Rattle.std.proofs.Common.{◌≡◌, ℕ, suc, ◌+◌, ◌-◌, leb, List, ◌∷◌, ◌++◌, length, take, drop, replicate, sym, refl, ap, ◌∙◌, arith}
use Rattle.answers.specs.Answer.{Answer, answered, if_answered}
use Rattle.std.proofs.lemmas.List.{take_at}
use Rattle.std.proofs.lemmas.Bool.{cond-true, and_from, le-leb}
use Rattle.crc32c.specs.Crc.{crc}
use Rattle.sealed.specs.Mask.{masked}
use Rattle.sealed.specs.Number.{low_bytes}
use Rattle.sealed.specs.Refusal.{tested}
use Rattle.sealed.specs.Sealing.{sealing}
use Rattle.sealed.proofs.sealer.seal.Goals as goal

-- the record, then what its checksum covers, then the header before it
sealed : (p record' after : List ℕ) (sum stored : ℕ) → record' ≡ replicate 6 0 ++ (1 ∷ (p ++ replicate (505 - length p) 0)) → sum ≡ crc (take (7 + length p - 6) (drop 6 record')) → stored ≡ masked sum → after ≡ low_bytes 4 stored ++ (low_bytes 2 (length p) ++ drop 6 record') → after ≡ sealing p
unfolding sealing
sealed p r after sum stored is-record is_sum is-stored is-after =
    let padding : List ℕ = replicate (505 - length p) 0 in
    let n : 7 + length p - 6 ≡ suc (length p) = omega arith in
    let rest : drop 6 r ≡ 1 ∷ (p ++ padding) = ap (drop 6) is-record in
    let covered : take (7 + length p - 6) (drop 6 r) ≡ 1 ∷ p =
    ap (take (7 + length p - 6)) rest
    ∙ ap (λ (k : ℕ). take k (1 ∷ (p ++ padding))) n
    ∙ ap (λ (t : List ℕ). 1 ∷ t) (take_at p padding (length p) refl) in
    is-after
    ∙ ap (λ (t : List ℕ). low_bytes 4 stored ++ (low_bytes 2 (length p) ++ t)) rest
    ∙ ap (λ (k : ℕ). low_bytes 4 k ++ (low_bytes 2 (length p) ++ (1 ∷ (p ++ padding))))
    (is-stored ∙ ap masked (is_sum ∙ ap crc covered))

pub returns : goal.returns
returns c =
    let p : List ℕ = c.args.payload.now in
    let done : tested p ≡ answered tt =
    cond-true _ _ _ (and_from (leb 1 (length p)) (leb (length p) 505) (le-leb 1 (length p) (omega arith)) (le-leb (length p) 505 (omega arith))) in
    let made : c.put_header.new.block ≡ sealing p =
    sealed p c.put_record.new.block c.put_header.new.block c.checksum.result c.mask-stored.result
    c.put_record.ensures.after c.checksum.ensures.value c.mask-stored.ensures.value c.put_header.ensures.after in
    record {
      whole = sym done;
      block = made ∙ ap (λ (a : Answer (Unit {0})). if_answered a (sealing p) c.args.block.now) (sym done);
      told = (omega arith, omega arith, made);
    }
