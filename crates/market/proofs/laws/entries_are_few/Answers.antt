use Rattle.market.proofs.Splits.{splits}
use Rattle.market.proofs.Counts.{few_entries}
use Rattle.market.proofs.laws.entries_are_few.Goals as goal

pub returns : goal.returns
returns g c =
    let means = splits g.P.Policy.split g.met.P.Policy.as_many g.met.P.Policy.within g.met.P.Policy.full in
    record { few = λ p. few_entries (g.P.Policy.split p) (means p) }
