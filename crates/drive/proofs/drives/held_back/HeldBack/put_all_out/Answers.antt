use Rattle.std.proofs.Common.{rules}
use Rattle.drive.specs.Held.{out_then, out_all}
use Rattle.drive.proofs.drives.held_back.HeldBack.put_all_out.Goals as goal

pub loop-self-preserved : goal.loop-self-preserved
loop-self-preserved c = out_then _ _ _ c.loop-self.invariant c.put_last_out.ensures.out

pub returns-clause-memory : goal.returns-clause-memory
returns-clause-memory c = out_all _ _ c.loop-self.invariant (search rules)
