use Rattle.std.proofs.Common.{◌<◌, length, Some, sym, refl, ap, ◌∙◌, subst}
use Rattle.ordered.specs.Kept.{Kept, Sound, with_nodes}
use Rattle.ordered.proofs.Values.{written, value_there, sound_value_set}
use Rattle.ordered.proofs.ordered_map.OrderedMap.value_at.Goals as goal

-- the keys stay whatever is written
pub invariant_of-self-lent : goal.invariant_of-self-lent
invariant_of-self-lent g c w =
    let order = g.K.Ord.cmp in
    let place = c.args.place in
    let map : Kept g.row.K.Denot g.row.V.Denot = record { nodes = c.self.inside.nodes.items; capacity = c.self.inside.capacity } in
    let within = subst (λ (m : Kept g.row.K.Denot g.row.V.Denot). place < length m.nodes) (sym c.self.view_is) c.requires.within in
    let there = written map.nodes place c.index_mut-node.result.now w c.index_mut-node.ensures.value within in
    (subst (λ ms. Sound order (with_nodes map ms)) (sym there) (sound_value_set order map place w c.self.invariant.0), c.self.invariant.1)

pub returns : goal.returns
returns g c =
    let ns = c.self.inside.nodes.items in
    let n = c.index_mut-node.result.now in
    let within = subst (λ (m : Kept g.row.K.Denot g.row.V.Denot). c.args.place < length m.nodes) (sym c.self.view_is) c.requires.within in
    rw (← c.self.view_is) (
      (refl, λ w. ap (λ ms. record { nodes = ms; capacity = c.self.inside.capacity }) (written ns c.args.place n w c.index_mut-node.ensures.value within)),
      record { writes_back = tt; value = value_there ns c.args.place n within ∙ ap (λ m. Some m.value) (sym c.index_mut-node.ensures.value) },
    )
