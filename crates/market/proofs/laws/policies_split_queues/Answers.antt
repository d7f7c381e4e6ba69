use Rattle.market.proofs.Splits.{splits}
use Rattle.market.proofs.laws.policies_split_queues.Goals as goal

pub returns : goal.returns
returns g c = record { splits = splits g.P.Policy.split g.met.P.Policy.as_many g.met.P.Policy.within g.met.P.Policy.full }
