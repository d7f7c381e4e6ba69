use Rattle.market.proofs.Splits.{splits}
use Rattle.market.proofs.Balances.{always_balanced}
use Rattle.market.proofs.laws.lots_add_up.Goals as goal

pub returns : goal.returns
returns g c =
    let means = splits g.P.Policy.split g.met.P.Policy.as_many g.met.P.Policy.within g.met.P.Policy.full in
    record { balanced = λ p. always_balanced (g.P.Policy.split p) (means p) }
