use Rattle.market.proofs.Splits.{splits}
use Rattle.market.proofs.Trading.{always_answered}
use Rattle.market.proofs.laws.trades_follow_the_answer.Goals as goal

pub returns : goal.returns
returns g c =
    let means = splits g.P.Policy.split g.met.P.Policy.as_many g.met.P.Policy.within g.met.P.Policy.full in
    record { answered = λ p. always_answered (g.P.Policy.split p) (means p) }
