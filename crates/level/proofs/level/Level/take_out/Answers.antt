use Rattle.std.proofs.Common.{vec_items, ap, ◌∙◌, arith}
use Rattle.allocation.specs.Range.{all_tradable}
use Rattle.market.specs.Market.{lots_of, total}
use Rattle.level.proofs.Queues.{total_out, tradable_out, taken_is, left_is}
use Rattle.level.proofs.level.Level.take_out.Goals as goal

pub overflow_sub-self : goal.overflow_sub-self
overflow_sub-self c =
    let level = c.args.self.now in
    let q = vec_items level.queue in
    let taken = taken_is c.args.member c.args.order c.as_slice.result.now q c.in_ok-place.place c.as_slice.ensures.value c.remove-taken.result c.in_ok-place.ensures.value.2 c.remove-taken.ensures.value in
    omega (arith, level.together, total_out c.args.member c.args.order q c.remove-taken.result taken)

pub invariant_of-self : goal.invariant_of-self
invariant_of-self c =
    let level = c.args.self.now in
    let q = vec_items level.queue in
    let taken = taken_is c.args.member c.args.order c.as_slice.result.now q c.in_ok-place.place c.as_slice.ensures.value c.remove-taken.result c.in_ok-place.ensures.value.2 c.remove-taken.ensures.value in
    let left = left_is c.args.member c.args.order c.as_slice.result.now q c.in_ok-place.place c.as_slice.ensures.value (vec_items c.remove-taken.new.self) c.in_ok-place.ensures.value.1 c.remove-taken.ensures.items in
    record {
      together = omega (arith, level.together, total_out c.args.member c.args.order q c.remove-taken.result taken, ap (λ xs. total (lots_of xs)) left);
      tradable = ap (λ xs. all_tradable (lots_of xs)) left ∙ tradable_out c.args.member c.args.order q level.tradable;
      few = omega (arith, c.remove-taken.ensures.len, level.few);
      reserved = omega (arith, c.remove-taken.ensures.capacity, level.reserved);
    }
