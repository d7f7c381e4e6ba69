use Rattle.std.proofs.Common.{◌≡◌, ◌⊎◌, inl, inr, ◌++◌, length, take, ap, ◌∙◌, sym, arith, rules}
use Rattle.std.proofs.lemmas.List.{append-nil}
use Rattle.fix.specs.Command.{order_figures}
use Rattle.level.proofs.Rows.{fits_even}
use Rattle.level.proofs.Wrote.{drop_two, wrote_some, wrote_all}
use Rattle.level.proofs.trade.report.Goals as goal

pub loop-fill-preserved-then-fill-gt0 : goal.loop-fill-preserved-then-fill-gt0
loop-fill-preserved-then-fill-gt0 c =
    let lp = c.loop-fill in
    let next = c.in-Some.ensures.steps in
    let x = c.resting_entry.result in
    let y = c.incoming_entry.result in
    let some = wrote_some (order_figures c.args.order.now) c.args.price lp.left c.in-Some.fill.now c.in-Some.resting.now _ _ _ _ next.0 next.1 lp.list _ lp.at x y (omega (arith, c.requires.room, ap length next.0)) c.if-fill-gt0.true c.resting_entry.ensures.value c.incoming_entry.ensures.value lp.invariant.front in
    record { front = some; back = drop_two lp.list c.args.list.now lp.at x y lp.invariant.back; left = search rules; from = omega arith; upto = search rules; fit = search rules }

pub returns : goal.returns
returns c =
    let lp = c.loop-fill in
    let none : (length lp.fill-iterator.a.rest.now ≡ 0) ⊎ (length lp.fill-iterator.b.rest.now ≡ 0) = elim c.in-None.ensures.steps [ inl s ↦ inl s.1.0 | inr s ↦ inr s.1.0 ] in
    let end = wrote_all (order_figures c.args.order.now) c.args.price lp.left lp.fill-iterator.a.rest.now lp.fill-iterator.b.rest.now lp.invariant.fit none in
    record {
      reported = record {
        front = sym (append-nil (take lp.at lp.list)) ∙ ap (λ xs. take lp.at lp.list ++ xs) (sym end.0) ∙ lp.invariant.front;
        back = lp.invariant.back;
        left = omega (arith, lp.invariant.left, end.1);
        from = lp.invariant.from;
        upto = omega (arith, lp.invariant.upto, fits_even c.args.fills.now c.args.queue.now c.requires.fit);
      };
    }
