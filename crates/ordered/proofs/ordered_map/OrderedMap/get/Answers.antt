use Rattle.std.proofs.Common.{Some, vec_items, sym, ap, ◌∙◌}
use Rattle.std.specs.Option.{option_map}
use Rattle.ordered.specs.Place.{At}
use Rattle.ordered.proofs.Found.{node_at}
use Rattle.ordered.proofs.Orders.{total_from}
use Rattle.ordered.proofs.ordered_map.OrderedMap.get.Goals as goal

pub returns-in-Ok : goal.returns-in-Ok
returns-in-Ok g c =
    let order = g.K.Ord.cmp in
    let total = total_from g.met.K.Ord.total g.met.K.Key.same in
    let at : At order (vec_items c.self.inside.nodes) c.args.key.now c.in-Ok.place = rw (← c.as_slice.ensures.value) c.in-Ok.ensures.places in
    let found = node_at order total (vec_items c.self.inside.nodes) c.self.invariant.0.ascends _ _ c.index.result.now at in
    record { value = rw (← c.self.view_is) (sym (ap (option_map (λ n. n.value)) (found ∙ ap Some (sym c.index.ensures)))); sound = rw (← c.self.view_is) c.self.invariant.0 }
