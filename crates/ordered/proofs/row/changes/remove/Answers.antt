use Rattle.std.proofs.Common.{◌≡◌, true, Some, vec_items, sym, ap, ◌∙◌, subst, rules}
use Rattle.ordered.specs.Order.{Total}
use Rattle.ordered.proofs.Orders.{total_from}
use Rattle.ordered.specs.Place.{At, Gap}
use Rattle.ordered.specs.Row.{ascending}
use Rattle.ordered.proofs.Ascends.{ascending_without}
use Rattle.ordered.proofs.Found.{node_at, removed_at, node_gap, without_gap}
use Rattle.ordered.proofs.row.changes.remove.Given as given
use Rattle.ordered.proofs.row.changes.remove.Goals as goal

total : (g : given.Over) → Total g.K.Ord.cmp
total g = total_from g.met.K.Ord.total g.met.K.Key.same

pub returns-in-Ok : goal.returns-in-Ok
returns-in-Ok g c =
    let order = g.K.Ord.cmp in
    let ns = vec_items c.args.nodes.now in
    let key = c.args.key.now in
    let place = c.in-Ok.place in
    let at : At order ns key place = subst (λ ms. At order ms key place) c.as_slice.ensures.value c.in-Ok.ensures.places in
    let after = c.remove.ensures.items ∙ removed_at order (total g) ns c.requires.ascending key place c.remove.result at in
    record {
      value = sym (node_at order (total g) ns c.requires.ascending key place c.remove.result at ∙ ap Some (sym c.remove.ensures.value));
      nodes = after;
      fewer = search rules;
      memory = search rules;
      ascending = subst (λ ms. ascending order ms ≡ true) (sym after) (ascending_without order ns key c.requires.ascending);
    }

pub returns-in-Err : goal.returns-in-Err
returns-in-Err g c =
    let order = g.K.Ord.cmp in
    let ns = vec_items c.args.nodes.now in
    let key = c.args.key.now in
    let place = c.in-Err.field-0 in
    let gap : Gap order ns key place = subst (λ ms. Gap order ms key place) c.as_slice.ensures.value c.in-Err.ensures.places in
    record {
      value = sym (node_gap order (total g) ns key place gap);
      nodes = sym (without_gap order (total g) ns key place gap);
      fewer = search rules;
      memory = search rules;
      ascending = c.requires.ascending;
    }
