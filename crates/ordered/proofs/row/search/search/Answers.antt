use Rattle.std.proofs.Common.{sym, ap, ◌∙◌, arith}
use Rattle.std.specs.Ordering.{is_eq}
use Rattle.ordered.specs.Order.{Total}
use Rattle.ordered.proofs.Orders.{total_from}
use Rattle.ordered.proofs.Found.{found_at, found_less, found_past}
use Rattle.ordered.proofs.row.search.search.Given as given
use Rattle.ordered.proofs.row.search.search.Goals as goal
use Rattle.ordered.proofs.row.search.search.Goals.{else-place-nodes-via-then-place-nodes+else-is_eq, else-place-nodes-via-else-place-nodes}

total : (g : given.Over) → Total g.K.Ord.cmp
total g = total_from g.met.K.Ord.total g.met.K.Key.same

pub returns-then-is_eq : goal.returns-then-is_eq
returns-then-is_eq g c =
    let r = found_at g.K.Ord.cmp (total g) c.args.nodes.now c.args.key.now _ _ c.place_of-place.ensures.less (omega arith) (ap is_eq (sym c.cmp.ensures) ∙ sym c.if-is_eq.ensures) in
    record { value = sym r.0; places = r.1 }

pub returns-else-place-nodes : goal.returns-else-place-nodes
returns-else-place-nodes g c =
    elim c.else-place-nodes.branch [
      | else-place-nodes-via-then-place-nodes+else-is_eq w ↦
          let r = found_less g.K.Ord.cmp (total g) c.args.nodes.now c.requires.ascending c.args.key.now _ _ c.place_of-place.ensures.less (ap is_eq (sym w.cmp.ensures) ∙ sym w.if-is_eq.ensures) in
          record { value = sym r.0; places = r.1 }
      | else-place-nodes-via-else-place-nodes w ↦
          let r = found_past g.K.Ord.cmp (total g) c.args.nodes.now c.requires.ascending c.args.key.now _ c.place_of-place.ensures.less w.if-place-nodes.false in
          record { value = sym r.0; places = r.1 }
    ]
