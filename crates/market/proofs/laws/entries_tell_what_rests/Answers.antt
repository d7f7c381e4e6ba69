use Rattle.market.proofs.Splits.{splits}
use Rattle.market.proofs.Told.{always_told}
use Rattle.market.proofs.laws.entries_tell_what_rests.Goals as goal

pub returns : goal.returns
returns g c =
    let means = splits g.P.Policy.split g.met.P.Policy.as_many g.met.P.Policy.within g.met.P.Policy.full in
    record { told = λ p. always_told (g.P.Policy.split p) (means p) }
