use Rattle.std.proofs.Common.{◌≡◌, ℕ, ◌-◌, false, List, sym, ap, ◌∙◌, arith, ltb-true}
use Rattle.std.proofs.lemmas.Bool.{both_ways}
use Rattle.crc32c.specs.Crc.{crc}
use Rattle.sealed.specs.Mask.{masked}
use Rattle.sealed.specs.Zero.{all_zero}
use Rattle.sealed.specs.Part.{stored, size, covered, tail}
use Rattle.sealed.proofs.Parts.{Sealed, part_none, handed, size_is, stored_is, payload_is, tail_is, covered_is, rest_long}
use Rattle.sealed.proofs.payload.check.Goals as goal

pub returns-in_default : goal.returns-in_default
returns-in_default c =
    let e = part_none c.args.block.now (λ s. let w = s.whole in omega (arith, ltb-true)) in
    record { whole = sym e; told = e }

pub returns-then-rest-ne-LONGEST : goal.returns-then-rest-ne-LONGEST
returns-then-rest-ne-LONGEST c =
    let b : List ℕ = c.args.block.now in
    let e = part_none b (λ s. c.if-rest-ne-LONGEST.true (rest_long b ∙ ap (λ (n : ℕ). n - 7) s.whole)) in
    record { whole = sym e; told = e }

pub returns-then-kind-ne-FULL : goal.returns-then-kind-ne-FULL
returns-then-kind-ne-FULL c =
    let e = part_none c.args.block.now (λ s. c.if-kind-ne-FULL.true s.full) in
    record { whole = sym e; told = e }

pub returns-then-length-eq0 : goal.returns-then-length-eq0
returns-then-length-eq0 c =
    let e = part_none c.args.block.now (λ s. omega (arith, s.some, size_is c.args.block.now)) in
    record { whole = sym e; told = e }

pub returns-then-length-gt-LONGEST : goal.returns-then-length-gt-LONGEST
returns-then-length-gt-LONGEST c =
    let e = part_none c.args.block.now (λ s. omega (arith, s.most, size_is c.args.block.now)) in
    record { whole = sym e; told = e }

pub returns-then-stored-mask : goal.returns-then-stored-mask
returns-then-stored-mask c =
    let b : List ℕ = c.args.block.now in
    let n : c.from_le_bytes-length.result ≡ size b = c.from_le_bytes-length.ensures ∙ sym (size_is b) in
    let left : c.from_le_bytes-stored.result ≡ stored b = c.from_le_bytes-stored.ensures ∙ sym (stored_is b) in
    let right : c.mask.result ≡ masked (crc (covered b)) =
    c.mask.ensures.value ∙ ap masked (c.checksum.ensures.value ∙ ap crc (covered_is b c.from_le_bytes-length.result n)) in
    let e = part_none b (λ s. c.if-stored-mask.true (left ∙ s.sum ∙ sym right)) in
    record { whole = sym e; told = e }

pub returns-then-not-is_zero : goal.returns-then-not-is_zero
returns-then-not-is_zero c =
    let b : List ℕ = c.args.block.now in
    let n : c.from_le_bytes-length.result ≡ size b = c.from_le_bytes-length.ensures ∙ sym (size_is b) in
    let t = tail_is b c.from_le_bytes-length.result n c.split_at.result.1.now c.split_at.ensures.back in
    let f : all_zero (tail b) ≡ false = ap all_zero (sym t) ∙ sym c.is_zero.ensures.value ∙ c.if-not-is_zero.true in
    let e = part_none b (λ s. both_ways (all_zero (tail b)) f s.zeros) in
    record { whole = sym e; told = e }

pub returns : goal.returns
returns c =
    let b : List ℕ = c.args.block.now in
    let n : c.from_le_bytes-length.result ≡ size b = c.from_le_bytes-length.ensures ∙ sym (size_is b) in
    let t = tail_is b c.from_le_bytes-length.result n c.split_at.result.1.now c.split_at.ensures.back in
    let p = payload_is b c.from_le_bytes-length.result n c.split_at.result.0.now c.split_at.ensures.front in
    let right : c.mask.result ≡ masked (crc (covered b)) =
    c.mask.ensures.value ∙ ap masked (c.checksum.ensures.value ∙ ap crc (covered_is b c.from_le_bytes-length.result n)) in
    let s : Sealed b =
    record {
      whole = omega (arith, rest_long b);
      full = c.if-kind-ne-FULL.false;
      some = omega arith;
      most = omega arith;
      sum = stored_is b ∙ sym c.from_le_bytes-stored.ensures ∙ c.if-stored-mask.false ∙ right;
      zeros = ap all_zero (sym t) ∙ sym c.is_zero.ensures.value ∙ c.if-not-is_zero.false;
    } in
    let h = handed b s c.split_at.result.0.now p in
    record { whole = sym h.is; told = h }
