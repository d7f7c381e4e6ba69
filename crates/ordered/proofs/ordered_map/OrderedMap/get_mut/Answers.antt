use Rattle.std.proofs.Common.{inl, ap}
use Rattle.ordered.specs.Kept.{with_nodes}
use Rattle.ordered.proofs.Orders.{total_from}
use Rattle.ordered.proofs.Values.{value_set_at, value_at}
use Rattle.ordered.proofs.ordered_map.OrderedMap.get_mut.Goals as goal

pub returns-in-Ok : goal.returns-in-Ok
returns-in-Ok g c =
    let order = g.K.Ord.cmp in
    let total = total_from g.met.K.Ord.total g.met.K.Key.same in
    let map = c.args.self.now in
    let up = c.in-Ok.ensures.sound.ascends in
    let at = c.in-Ok.ensures.places in
    let written = λ (w : g.row.V.Denot). ap (with_nodes map) (value_set_at order total map.nodes up c.args.key.now c.in-Ok.place (record { key = c.args.key.now; value = w }) w at) in (
      (λ i. inl (c.value_at.result.ghost_name, λ w. written w i)),
      record { writes_back = tt; value = value_at order total map.nodes up c.args.key.now c.in-Ok.place c.value_at.result.now at c.value_at.ensures.value; sound = c.in-Ok.ensures.sound },
    )
