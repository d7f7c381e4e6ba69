use Rattle.std.proofs.Common.{◌≡◌, ℕ, ◌+◌, ◌<◌, cond, List, length, get_or, drop, sym, ap, ◌∙◌, subst}
use Rattle.std.proofs.lemmas.List.{at_drop_more}
use Rattle.std.proofs.lemmas.Bool.{cond-true, cond-false}
use Rattle.fix.specs.declared.command.Side.{Side}
use Rattle.ordered.specs.Kept.{Sound}
use Rattle.ordered.specs.Order.{by_order_id}
use Rattle.ordered.specs.Row.{without}
use Rattle.ordered.specs.declared.key.order_id.OrderId.{OrderId}
use Rattle.ordered.specs.declared.node.Node.{Node}
use Rattle.market.specs.declared.entry.Entry.{Entry}
use Rattle.book.specs.declared.place.Place.{Place}
use Rattle.book.specs.Place.{is_gone, id_of, forgotten}
use Rattle.book.proofs.forget.forget.Goals as goal
use Rattle.book.proofs.forget.forget.Goals.{then-filled_whole, else-filled_whole}

-- one entry more
next : (side : Side) (es : List Entry) (i : ℕ) (d : Entry) (ns ms whole : List (Node OrderId Place)) → i < length es → ms ≡ cond (is_gone side (get_or es i d).event) (without by_order_id ns (id_of (get_or es i d))) ns → forgotten side (drop i es) ns ≡ whole → forgotten side (drop (i + 1) es) ms ≡ whole
next side es i d ns ms whole h e inv = ap (forgotten side (drop (i + 1) es)) e ∙ sym (at_drop_more (λ xs. forgotten side xs ns) es i d h) ∙ inv

pub loop-entry-preserved : goal.loop-entry-preserved
loop-entry-preserved c =
    let lp = c.loop-entry in
    let es = c.args.entries.now in
    let ns = lp.places.nodes in
    let h = c.loop-entry-test.true in
    elim c.if-filled_whole.branch [
      | then-filled_whole w ↦ (next c.args.side es lp.entry-index _ ns c.if-filled_whole.places.nodes _ h (ap (λ m. m.nodes) w.places-is ∙ w.remove.ensures.nodes ∙ sym (cond-true _ _ _ (sym w.if-filled_whole.ensures.value))) lp.invariant.0, ap (λ m. m.capacity) w.places-is ∙ w.remove.ensures.capacity ∙ lp.invariant.1, subst (Sound by_order_id) (sym w.places-is) w.remove.ensures.sound)
      | else-filled_whole w ↦ (next c.args.side es lp.entry-index _ ns c.if-filled_whole.places.nodes _ h (ap (λ m. m.nodes) w.places-is ∙ sym (cond-false _ _ _ (sym w.if-filled_whole.ensures.value))) lp.invariant.0, ap (λ m. m.capacity) w.places-is ∙ lp.invariant.1, subst (Sound by_order_id) (sym w.places-is) lp.invariant.2)
    ]
