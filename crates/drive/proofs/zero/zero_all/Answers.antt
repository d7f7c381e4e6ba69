use Rattle.std.proofs.Common.{◌≡◌, ◌<◌, sym, refl, ap, ◌∙◌, subst, inl, inr, add-one, arith}
use Rattle.std.proofs.lemmas.Bool.{cases_eq}
use Rattle.drive.specs.Act.{write, flush, Acted, Does}
use Rattle.drive.specs.Medium.{medium, Written}
use Rattle.drive.specs.Zero.{zeros, zeroing, zeroing_all}
use Rattle.drive.proofs.Tested.{passed_case}
use Rattle.drive.proofs.Rows.{does_more}
use Rattle.drive.proofs.zero.zero_all.Goals as goal

pub loop-b-init : goal.loop-b-init
unfolding zeroing Does
loop-b-init g c = (refl, λ k h. absurd (omega arith), refl)

pub loop-b-preserved : goal.loop-b-preserved
unfolding zeroing zeros Acted
loop-b-preserved g c =
    let means = medium g.D.ReadDrive.visible g.D.Drive.durable in
    let inv = c.loop-b.invariant in
    let b = c.loop-b.b in
    let d = c.loop-b.drive in
    let e = c.write.new.self in
    let n = c.count-b-end.ensures.value in
    let within : b < (means d).count = omega (arith, inv.0) in
    let w : Written (means d) b zeros (means e) = passed_case (Written (means d) b zeros (means e)) (e ≡ d) c.write.result (means d).count b _ within refl c.write.ensures.answers c.write.ensures.writes in (
      w.as_many ∙ inv.0,
      (λ k h. elim (cases_eq k b) [
        | inl same ↦ ap (means e).shown same ∙ w.here
        | inr other ↦ (w.others k (omega arith) other).same ∙ inv.1 k (omega arith)
      ]),
      subst (λ k. Does means (zeroing k) c.args.drive.now e) (sym (add-one b)) (does_more means (zeroing b) (write b zeros) _ _ _ inv.2 w),
    )

pub returns : goal.returns
unfolding zeroing_all Acted
returns g c =
    let means = medium g.D.ReadDrive.visible g.D.Drive.durable in
    let inv = c.loop-b.invariant in
    let d = c.args.drive.now in
    let f = c.flush.ensures.flushes in
    let n = c.count-b-end.ensures.value in
    let all : c.loop-b.b ≡ (means d).count = omega arith in
    record {
      acts = subst (λ k. Does means (zeroing_all k) d c.flush.new.self) all (does_more means (zeroing c.loop-b.b) flush _ _ _ inv.2 f);
      as_many = f.as_many ∙ inv.0;
      blank = λ b h. f.same b (omega (arith, inv.0)) ∙ inv.1 b (omega arith);
      settles = λ b h. f.settles b (omega (arith, inv.0));
    }
