use Rattle.std.proofs.Common.{◌≡◌}
use Rattle.exports.proofs.drives.write_in_turn.Given as goal

abbrev pub invariant-loop-i : goal.invariant-loop-i
invariant-loop-i g l = (l.answered ≡ l.i) × ((g.D.ReadDrive.visible l.drive).count ≡ (g.D.ReadDrive.visible l.initial.drive).count)
