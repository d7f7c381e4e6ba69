use Rattle.std.proofs.Common.{◌<◌, length, get_or, set, ap, ◌∙◌, arith}
use Rattle.std.proofs.lemmas.List.Edits.{map_over_more}
use Rattle.std.proofs.lemmas.List.{get_or_default}
use Rattle.console.specs.Shown.{unshown}
use Rattle.console.proofs.shown.unshow.Goals as goal

pub loop-b-preserved : goal.loop-b-preserved
loop-b-preserved c =
    let xs = c.args.bytes.now in
    let ys = c.loop-b.bytes in
    let i = c.loop-b.b-index in
    let here : i < length ys = omega arith in
    ap (λ x. set ys i x) c.meant.ensures.value ∙ map_over_more unshown xs ys i (get_or ys i 0) (omega arith) c.loop-b.invariant (get_or_default ys i 0 (get_or ys i 0) here)
