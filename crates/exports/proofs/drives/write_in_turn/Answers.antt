use Rattle.std.proofs.Common.{◌≡◌, ◌%◌, ◌<◌, refl, ap, ◌∙◌, arith}
use Rattle.std.proofs.lemmas.Nat.{mod_below}
use Rattle.std.specs.Int.{from_bool}
use Rattle.drive.specs.Medium.{medium, Written}
use Rattle.drive.proofs.Tested.{passed_case, passed_ok}
use Rattle.exports.proofs.drives.write_in_turn.Goals as goal

pub loop-i-preserved : goal.loop-i-preserved
loop-i-preserved g c =
    let means = medium g.D.ReadDrive.visible g.D.Drive.durable in
    let inv = c.loop-i.invariant in
    let d = c.loop-i.drive in
    let e = c.write.new.self in
    let count = c.count-count.result in
    let at = c.loop-i.i % count in
    let n = c.count-count.ensures.value in
    let some : 0 < count = omega (arith, c.requires.some) in
    let low = mod_below c.loop-i.i count some in
    let within : at < (means d).count = omega (arith, low, inv.1) in
    let w = passed_case (Written (means d) at _ (means e)) (e ≡ d) c.write.result (means d).count at _ within refl c.write.ensures.answers c.write.ensures.writes in
    let one : c.from-answered.result ≡ 1 = c.from-answered.ensures ∙ ap from_bool (c.is_ok.ensures.value ∙ passed_ok c.write.result (means d).count at _ within refl c.write.ensures.answers) in
    (omega (arith, one, inv.0), w.as_many ∙ inv.1)
