use Rattle.std.proofs.Common.{length}
use Rattle.drive.specs.HeldBack.{PutOut}
use Rattle.drive.proofs.drives.held_back.HeldBack.put_all_out.Given as goal

abbrev pub invariant-loop-self : goal.invariant-loop-self
invariant-loop-self l = PutOut l.initial.self l.self

abbrev pub decreases-loop-self : goal.decreases-loop-self
decreases-loop-self l = length l.self.held.items
