use Rattle.market.proofs.Splits.{splits}
use Rattle.market.proofs.Reasons.{always_for_a_reason}
use Rattle.market.proofs.laws.commands_are_answered.Goals as goal

pub returns : goal.returns
returns g c =
    let means = splits g.P.Policy.split g.met.P.Policy.as_many g.met.P.Policy.within g.met.P.Policy.full in
    record { for_a_reason = λ p. always_for_a_reason (g.P.Policy.split p) (means p) }
