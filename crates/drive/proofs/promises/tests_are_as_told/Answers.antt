use Rattle.drive.proofs.Tested.{tests}
use Rattle.drive.proofs.promises.tests_are_as_told.Goals as goal

pub returns : goal.returns
returns c = record { as_told = tests }
