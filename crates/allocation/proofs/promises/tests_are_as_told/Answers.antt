use Rattle.allocation.proofs.Ranges.{tests}
use Rattle.allocation.proofs.promises.tests_are_as_told.Goals as goal

pub returns : goal.returns
returns c = record { as_told = tests }
