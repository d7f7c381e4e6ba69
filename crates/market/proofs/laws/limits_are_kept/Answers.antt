use Rattle.market.proofs.Splits.{splits}
use Rattle.market.proofs.Fairness.{always_fair}
use Rattle.market.proofs.laws.limits_are_kept.Goals as goal

pub returns : goal.returns
returns g c =
    let means = splits g.P.Policy.split g.met.P.Policy.as_many g.met.P.Policy.within g.met.P.Policy.full in
    record { fair = λ p. always_fair (g.P.Policy.split p) (means p) }
