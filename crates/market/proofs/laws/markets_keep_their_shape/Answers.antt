use Rattle.market.proofs.Splits.{splits}
use Rattle.market.proofs.Shapes.{always_shaped, keeps_shape}
use Rattle.market.proofs.Orders.{keeps_lots}
use Rattle.market.proofs.laws.markets_keep_their_shape.Goals as goal

pub returns : goal.returns
returns g c =
    let means = splits g.P.Policy.split g.met.P.Policy.as_many g.met.P.Policy.within g.met.P.Policy.full in
    record { always = λ p. always_shaped (g.P.Policy.split p) (means p); kept = λ p. keeps_shape (g.P.Policy.split p) (means p); lots = λ p. keeps_lots (g.P.Policy.split p) (means p) }
