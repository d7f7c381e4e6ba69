use Rattle.std.proofs.Common.{T}
use Rattle.drive.specs.Medium.{medium}
use Rattle.drive.proofs.Survival.{flushed_survives, spared_survives, cut_leaves}
use Rattle.drive.proofs.promises.drives_promise.Goals as goal

pub returns : goal.returns
returns g c =
    let means = medium g.D.ReadDrive.visible g.D.Drive.durable in
    let sound = g.met.D.Drive.sound in
    record {
      flushed_survives = λ junk d f e. flushed_survives means sound (λ x. T (junk x)) d f (means e);
      spared_survives = λ junk acts d e. spared_survives means sound (λ x. T (junk x)) acts d (means e);
      cut_leaves = λ junk acts d e. cut_leaves means sound (λ x. T (junk x)) acts d (means e);
    }
