use Rattle.std.proofs.Common.{◌≡◌, ℕ, ◌+◌, ◌-◌, List, ◌∷◌, ◌++◌, length, drop, replicate, ap, ◌∙◌, arith}
use Rattle.std.proofs.lemmas.List.{drop-replicate}
use Rattle.sealed.proofs.sealer.put_record.Goals as goal

pub returns : goal.returns
returns c =
    let p : List ℕ = c.args.payload.now in
    let k : ℕ = 7 + length p - 7 in
    let e : k ≡ length p = omega arith in
    record {
      after =
          ap (λ (t : List ℕ). replicate 6 0 ++ (1 ∷ t))
          (ap (λ (t : List ℕ). t ++ drop k (replicate 505 0)) c.copy_from_slice.ensures.after
          ∙ ap (λ (t : List ℕ). p ++ t) (drop-replicate k 505 0 ∙ ap (λ (n : ℕ). replicate (505 - n) 0) e));
    }
