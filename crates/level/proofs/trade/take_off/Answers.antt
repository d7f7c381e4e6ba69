use Rattle.std.proofs.Common.{◌≡◌, ◌<◌, length, vec_items, vec_len, vec_capacity, sym, ap, ◌∙◌, arith}
use Rattle.market.specs.Market.{lots_of}
use Rattle.level.proofs.Rows.{length_lots, fits_length, keep_step, gone_step, filled_end}
use Rattle.level.proofs.trade.take_off.Goals as goal
use Rattle.level.proofs.trade.take_off.Goals.{then-fill-order, else-fill-order}

pub index-order-requires : goal.index-order-requires
index-order-requires c =
    let q = c.args.queue.now in
    omega (arith, fits_length c.args.fills.now (lots_of (vec_items q)) c.requires.fit, length_lots (vec_items q), q.ok.0)

pub index_mut-requires : goal.index_mut-requires
index_mut-requires c =
    let q = c.args.queue.now in
    omega (arith, fits_length c.args.fills.now (lots_of (vec_items q)) c.requires.fit, length_lots (vec_items q), q.ok.0)

pub loop-i-preserved : goal.loop-i-preserved
loop-i-preserved c =
    let q = c.args.queue.now in
    let lp = c.loop-i in
    let cur = vec_items lp.queue in
    let o = c.index-order.result.now in
    let even : length c.args.fills.now ≡ length cur = fits_length c.args.fills.now (lots_of (vec_items q)) c.requires.fit ∙ length_lots (vec_items q) ∙ sym q.ok.0 ∙ sym lp.invariant.1 ∙ lp.queue.ok.0 in
    let in_queue : lp.i < length cur = omega (arith, c.loop-i-test.true) in
    elim c.if-fill-order.branch [
      | then-fill-order w ↦
          let moved = keep_step c.args.fills.now cur _ lp.stay lp.i o c.loop-i-test.true in_queue lp.invariant.0 c.index-order.ensures lp.invariant.3 w.if-fill-order.true in (
            omega (arith, w.stay-is, lp.invariant.0),
            ap vec_len w.queue-is ∙ lp.invariant.1,
            ap vec_capacity w.queue-is ∙ lp.invariant.2,
            simp (w.queue-is, w.stay-is) moved,
          )
      | else-fill-order w ↦
          let moved = gone_step c.args.fills.now cur _ lp.stay lp.i o c.loop-i-test.true in_queue lp.invariant.0 c.index-order.ensures lp.invariant.3 w.if-fill-order.false in (
            omega (arith, w.stay-is, lp.invariant.0),
            ap vec_len w.queue-is ∙ lp.invariant.1,
            ap vec_capacity w.queue-is ∙ lp.invariant.2,
            simp (w.queue-is, w.stay-is) moved,
          )
    ]

pub returns : goal.returns
returns c =
    let q = c.args.queue.now in
    let lp = c.loop-i in
    let cur = vec_items lp.queue in
    let even : length c.args.fills.now ≡ length cur = fits_length c.args.fills.now (lots_of (vec_items q)) c.requires.fit ∙ length_lots (vec_items q) ∙ sym q.ok.0 ∙ sym lp.invariant.1 ∙ lp.queue.ok.0 in
    record {
      items = c.truncate.ensures.items ∙ filled_end c.args.fills.now cur _ lp.stay lp.i c.loop-i-test.false (omega (arith, c.loop-i-test.false)) lp.invariant.3;
      memory = c.truncate.ensures.capacity ∙ lp.invariant.2;
    }
