use Rattle.std.proofs.Common.{◌≡◌, ℕ, ◌+◌, ◌*◌, ◌/◌, ◌%◌, ap, ◌∙◌, arith}
use Rattle.std.proofs.lemmas.Nat.{div-mul-add, mod-mul-add}
use Rattle.std.proofs.lemmas.List.FromFn.{get_or-map-range_with_len}
use Rattle.crc32c.specs.Crc.{steps, step}
use Rattle.crc32c.proofs.table.entry.Goals as goal

rule : ℕ → ℕ
rule j = steps (8 * (j / 256 + 1)) (j % 256)

-- the table is the list of its rule's values, which antt computes
pub returns : goal.returns
unfolding rule steps step
returns c =
    let k : ℕ = c.args.k in
    let b : ℕ = c.args.byte in
    let d : (k * 256 + b) / 256 ≡ k = div-mul-add k 256 b c.requires.byte in
    let m : (k * 256 + b) % 256 ≡ b = mod-mul-add k 256 b c.requires.byte in
    record {
      value =
          get_or-map-range_with_len rule 0 4096 (k * 256 + b) (k * 256 + b) 0 (omega arith) (omega arith)
          ∙ ap (λ (t : ℕ). steps (8 * (t + 1)) ((k * 256 + b) % 256)) d
          ∙ ap (λ (t : ℕ). steps (8 * (k + 1)) t) m;
    }
