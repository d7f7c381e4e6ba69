use Rattle.std.proofs.Common.{length}
use Rattle.allocation.proofs.Ranges.{tested_answered}
use Rattle.allocation.proofs.policies.Policy.allocate.Goals as goal

pub fill-requires : goal.fill-requires
fill-requires g c =
    let told = tested_answered c.args.quantity c.args.lots.now (length c.args.fills.now) c.in_ok-test.field-0 c.in_ok-test.ensures.value in
    record { range = told.1; level = told.0 }
