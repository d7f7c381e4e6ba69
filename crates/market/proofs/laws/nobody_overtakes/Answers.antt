use Rattle.market.proofs.Splits.{splits}
use Rattle.market.proofs.Turns.{always_in_turn}
use Rattle.market.proofs.laws.nobody_overtakes.Goals as goal

pub returns : goal.returns
returns g c =
    let means = splits g.P.Policy.split g.met.P.Policy.as_many g.met.P.Policy.within g.met.P.Policy.full in
    record { in_turn = λ p. always_in_turn (g.P.Policy.split p) (means p) }
