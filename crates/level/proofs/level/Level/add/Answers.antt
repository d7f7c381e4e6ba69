use Rattle.std.proofs.Common.{vec_items, sym, ap, ◌∙◌, arith}
use Rattle.allocation.specs.Range.{all_tradable}
use Rattle.market.specs.Market.{lots_of, total}
use Rattle.level.proofs.Queues.{total_joined, tradable_joined, tradable_most, total_most}
use Rattle.level.proofs.level.Level.add.Goals as goal

pub overflow_add-self : goal.overflow_add-self
overflow_add-self c =
    let level = c.args.self.now in
    let q = vec_items level.queue in
    omega (arith, total_most q level.tradable, level.together, level.few, level.queue.ok.0, tradable_most c.args.order.lots (sym c.if-not-is_tradable.ensures.value))

pub invariant_of-self : goal.invariant_of-self
invariant_of-self c =
    let level = c.args.self.now in
    let q = vec_items level.queue in
    let o = c.args.order in
    let now = c.push_reserved.ensures.items in
    record {
      together = omega (arith, level.together, total_joined q o, ap (λ xs. total (lots_of xs)) now);
      tradable = ap (λ xs. all_tradable (lots_of xs)) now ∙ tradable_joined q o level.tradable (sym c.if-not-is_tradable.ensures.value);
      few = omega (arith, c.push_reserved.ensures.len, c.if-len-eq-MOST_ORDERS.false, c.len.ensures, level.few);
      reserved = omega (arith, c.push_reserved.ensures.capacity, level.reserved);
    }
