use Rattle.std.proofs.Common.{◌≡◌, ℕ, ◌<◌}
use Rattle.drive.specs.Act.{Does}
use Rattle.drive.specs.Medium.{medium}
use Rattle.drive.specs.Zero.{zeros, zeroing}
use Rattle.drive.proofs.zero.zero_all.Given as goal

abbrev pub invariant-loop-b : goal.invariant-loop-b
invariant-loop-b g l =
    ((g.D.ReadDrive.visible l.drive).count ≡ (g.D.ReadDrive.visible l.initial.drive).count)
    × ((k : ℕ) → k < l.b → (g.D.ReadDrive.visible l.drive).shown k ≡ zeros)
    × Does (medium g.D.ReadDrive.visible g.D.Drive.durable) (zeroing l.b) l.initial.drive l.drive
