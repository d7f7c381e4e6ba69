use Rattle.std.proofs.Common.{◌-◌, length, is_some, None, Some, sym, ap, ◌∙◌, arith, subst}
use Rattle.ordered.specs.Order.{by_price}
use Rattle.ordered.specs.Row.{with_value}
use Rattle.ordered.proofs.Lookups.{length_without}
use Rattle.ordered.proofs.Values.{value_same}
use Rattle.level.specs.Queue.{queue_of}
use Rattle.market.specs.Market.{in_queue}
use Rattle.market.specs.Prices.{queue_at}
use Rattle.fix.specs.declared.command.Side.TheVariants.{Sell}
use Rattle.side.specs.Shape.{Shaped}
use Rattle.side.proofs.Shapes.{shaped_from}
use Rattle.side.specs.Queues.{out_at}
use Rattle.side.specs.Row.{seen}
use Rattle.side.proofs.Found.{is_none, is_there}
use Rattle.side.proofs.Removals.{queue_nowhere, out_nowhere, queue_found, queue_out, queue_some, taken_count, counted_out, seen_left, seen_gone, left_in_step, gone_in_step}
use Rattle.side.proofs.levels.Levels.take_out.Goals as goal

pub returns-in_err-level-clause-value : goal.returns-in_err-level-clause-value
returns-in_err-level-clause-value c =
    let ns = c.self.inside.held.nodes in
    let rank = c.args.rank in
    let none = ap (λ ls. in_queue c.args.member c.args.order (queue_at rank.0 ls)) (sym c.self.view_is) ∙ ap (in_queue c.args.member c.args.order) (queue_nowhere rank ns (is_none ns rank c.in_err-level.ensures.value)) in
    c.from_residual.ensures ∙ sym none

pub returns-in_err-level-clause-levels : goal.returns-in_err-level-clause-levels
returns-in_err-level-clause-levels c =
    let ns = c.self.inside.held.nodes in
    let rank = c.args.rank in
    sym (out_nowhere rank c.args.member c.args.order ns (is_none ns rank c.in_err-level.ensures.value)) ∙ ap (out_at rank.0 c.args.member c.args.order) c.self.view_is

pub invariant_of-self-in_err-taken : goal.invariant_of-self-in_err-taken
invariant_of-self-in_err-taken c =
    let s = c.self.inside in
    let v = c.in_ok-level.level.now in
    let w = c.take_out.new.self in
    let there = queue_some c.args.rank v s.held.nodes c.self.invariant.stand c.in_ok-level.ensures.value in
    left_in_step s.held _ _ s.orders c.self.invariant c.args.member c.args.order c.args.rank v w c.in_ok-level.ensures.value c.take_out.ensures.queue s.orders None c.in_err-taken.ensures.value (omega arith)
    (omega (arith, there, ap length c.take_out.ensures.queue, queue_out c.args.member c.args.order (queue_of v), ap taken_count c.in_err-taken.ensures.value))

pub returns-in_err-taken-clause-value : goal.returns-in_err-taken-clause-value
returns-in_err-taken-clause-value c =
    let ns = c.self.inside.held.nodes in
    let rank = c.args.rank in
    c.from_residual-in_err-taken.ensures ∙ c.in_err-taken.ensures.value
    ∙ ap (in_queue c.args.member c.args.order) (sym (queue_found rank c.in_ok-level.level.now ns c.in_ok-level.ensures.value) ∙ ap (queue_at rank.0) c.self.view_is)

pub returns-in_err-taken-clause-levels : goal.returns-in_err-taken-clause-levels
returns-in_err-taken-clause-levels c =
    let s = c.self.inside in
    let v = c.in_ok-level.level.now in
    let there = queue_some c.args.rank v s.held.nodes c.self.invariant.stand c.in_ok-level.ensures.value in
    seen_left c.args.member c.args.order c.args.rank v c.take_out.new.self s.held.nodes c.in_ok-level.ensures.value
    (omega (arith, there, ap length c.take_out.ensures.queue, queue_out c.args.member c.args.order (queue_of v), ap taken_count c.in_err-taken.ensures.value))
    c.take_out.ensures.queue
    ∙ ap (out_at c.args.rank.0 c.args.member c.args.order) c.self.view_is

pub overflow_sub-self : goal.overflow_sub-self
overflow_sub-self c =
    let s = c.self.inside in
    omega (arith, counted_out s.held _ _ s.orders c.self.invariant c.args.member c.args.order c.args.rank c.in_ok-level.level.now c.take_out.new.self c.in_ok-level.ensures.value c.take_out.ensures.queue (Some c.in_ok-taken.taken) c.in_ok-taken.ensures.value)

pub close-requires-clause-some : goal.close-requires-clause-some
close-requires-clause-some c =
    let ns = c.self.inside.held.nodes in
    let rank = c.args.rank in
    let w = c.take_out.new.self in
    ap is_some c.remove.ensures.value ∙ is_there (with_value by_price ns rank w) rank w (sym (value_same by_price ns rank w (is_there ns rank c.in_ok-level.level.now c.in_ok-level.ensures.value)))

pub close-requires-clause-room : goal.close-requires-clause-room
close-requires-clause-room c =
    let ns = c.self.inside.held.nodes in
    omega (arith, length_without by_price ns c.args.rank (is_there ns c.args.rank c.in_ok-level.level.now c.in_ok-level.ensures.value), c.self.invariant.together, c.self.invariant.reserved)

pub invariant_of-self-then-len-eq0 : goal.invariant_of-self-then-len-eq0
invariant_of-self-then-len-eq0 c =
    let s = c.self.inside in
    let v = c.in_ok-level.level.now in
    let w = c.take_out.new.self in
    gone_in_step s.held _ _ s.orders c.self.invariant c.args.member c.args.order c.args.rank v w c.in_ok-level.ensures.value c.take_out.ensures.queue c.remove.new.self _ _ _ (Some c.in_ok-taken.taken) c.in_ok-taken.ensures.value
    (omega (arith, counted_out s.held _ _ s.orders c.self.invariant c.args.member c.args.order c.args.rank v w c.in_ok-level.ensures.value c.take_out.ensures.queue (Some c.in_ok-taken.taken) c.in_ok-taken.ensures.value))
    (omega (arith, c.len.ensures.value, c.if-len-eq0.true)) c.remove.ensures.sound c.remove.ensures.capacity c.remove.ensures.nodes c.close.ensures.count c.close.ensures.memory

pub invariant_of-self-else-len-eq0 : goal.invariant_of-self-else-len-eq0
invariant_of-self-else-len-eq0 c =
    let s = c.self.inside in
    let v = c.in_ok-level.level.now in
    let w = c.take_out.new.self in
    left_in_step s.held _ _ s.orders c.self.invariant c.args.member c.args.order c.args.rank v w c.in_ok-level.ensures.value c.take_out.ensures.queue _ (Some c.in_ok-taken.taken) c.in_ok-taken.ensures.value
    (omega (arith, counted_out s.held _ _ s.orders c.self.invariant c.args.member c.args.order c.args.rank v w c.in_ok-level.ensures.value c.take_out.ensures.queue (Some c.in_ok-taken.taken) c.in_ok-taken.ensures.value))
    (omega (arith, c.len.ensures.value, c.if-len-eq0.false))

pub returns-then-len-eq0-clause-value : goal.returns-then-len-eq0-clause-value
returns-then-len-eq0-clause-value c =
    c.in_ok-taken.ensures.value ∙ ap (in_queue c.args.member c.args.order) (sym (queue_found c.args.rank c.in_ok-level.level.now c.self.inside.held.nodes c.in_ok-level.ensures.value) ∙ ap (queue_at c.args.rank.0) c.self.view_is)

pub returns-else-len-eq0-clause-value : goal.returns-else-len-eq0-clause-value
returns-else-len-eq0-clause-value c =
    c.in_ok-taken.ensures.value ∙ ap (in_queue c.args.member c.args.order) (sym (queue_found c.args.rank c.in_ok-level.level.now c.self.inside.held.nodes c.in_ok-level.ensures.value) ∙ ap (queue_at c.args.rank.0) c.self.view_is)

pub returns-then-len-eq0-clause-levels : goal.returns-then-len-eq0-clause-levels
returns-then-len-eq0-clause-levels c =
    ap seen c.remove.ensures.nodes
    ∙ seen_gone c.args.member c.args.order c.args.rank c.in_ok-level.level.now c.take_out.new.self c.self.inside.held.nodes c.in_ok-level.ensures.value c.take_out.ensures.queue (omega (arith, c.len.ensures.value, c.if-len-eq0.true))
    ∙ ap (out_at c.args.rank.0 c.args.member c.args.order) c.self.view_is

pub returns-else-len-eq0-clause-levels : goal.returns-else-len-eq0-clause-levels
returns-else-len-eq0-clause-levels c =
    seen_left c.args.member c.args.order c.args.rank c.in_ok-level.level.now c.take_out.new.self c.self.inside.held.nodes c.in_ok-level.ensures.value (omega (arith, c.len.ensures.value, c.if-len-eq0.false)) c.take_out.ensures.queue
    ∙ ap (out_at c.args.rank.0 c.args.member c.args.order) c.self.view_is

pub returns-in_err-level-clause-shaped : goal.returns-in_err-level-clause-shaped
returns-in_err-level-clause-shaped c = subst (Shaped Sell) c.self.view_is (shaped_from _ _ _ _ c.self.invariant)

pub returns-in_err-taken-clause-shaped : goal.returns-in_err-taken-clause-shaped
returns-in_err-taken-clause-shaped c = subst (Shaped Sell) c.self.view_is (shaped_from _ _ _ _ c.self.invariant)

pub returns-then-len-eq0-clause-shaped : goal.returns-then-len-eq0-clause-shaped
returns-then-len-eq0-clause-shaped c = subst (Shaped Sell) c.self.view_is (shaped_from _ _ _ _ c.self.invariant)

pub returns-else-len-eq0-clause-shaped : goal.returns-else-len-eq0-clause-shaped
returns-else-len-eq0-clause-shaped c = subst (Shaped Sell) c.self.view_is (shaped_from _ _ _ _ c.self.invariant)

-- what is left has its shape, since it is in step

pub returns-in_err-level-clause-still : goal.returns-in_err-level-clause-still
returns-in_err-level-clause-still c = shaped_from _ _ _ _ c.self.invariant

pub returns-in_err-taken-clause-still : goal.returns-in_err-taken-clause-still
returns-in_err-taken-clause-still c =
    let s = c.self.inside in
    let v = c.in_ok-level.level.now in
    let w = c.take_out.new.self in
    let there = queue_some c.args.rank v s.held.nodes c.self.invariant.stand c.in_ok-level.ensures.value in
    shaped_from _ _ _ _
    (left_in_step s.held _ _ s.orders c.self.invariant c.args.member c.args.order c.args.rank v w c.in_ok-level.ensures.value c.take_out.ensures.queue s.orders None c.in_err-taken.ensures.value (omega arith)
    (omega (arith, there, ap length c.take_out.ensures.queue, queue_out c.args.member c.args.order (queue_of v), ap taken_count c.in_err-taken.ensures.value)))

pub returns-then-len-eq0-clause-still : goal.returns-then-len-eq0-clause-still
returns-then-len-eq0-clause-still c =
    let s = c.self.inside in
    let v = c.in_ok-level.level.now in
    let w = c.take_out.new.self in
    shaped_from _ _ _ _
    (gone_in_step s.held _ _ s.orders c.self.invariant c.args.member c.args.order c.args.rank v w c.in_ok-level.ensures.value c.take_out.ensures.queue c.remove.new.self _ _ (s.orders - 1) (Some c.in_ok-taken.taken) c.in_ok-taken.ensures.value
    (omega (arith, counted_out s.held _ _ s.orders c.self.invariant c.args.member c.args.order c.args.rank v w c.in_ok-level.ensures.value c.take_out.ensures.queue (Some c.in_ok-taken.taken) c.in_ok-taken.ensures.value))
    (omega (arith, c.len.ensures.value, c.if-len-eq0.true)) c.remove.ensures.sound c.remove.ensures.capacity c.remove.ensures.nodes c.close.ensures.count c.close.ensures.memory)

pub returns-else-len-eq0-clause-still : goal.returns-else-len-eq0-clause-still
returns-else-len-eq0-clause-still c =
    let s = c.self.inside in
    let v = c.in_ok-level.level.now in
    let w = c.take_out.new.self in
    shaped_from _ _ _ _
    (left_in_step s.held _ _ s.orders c.self.invariant c.args.member c.args.order c.args.rank v w c.in_ok-level.ensures.value c.take_out.ensures.queue (s.orders - 1) (Some c.in_ok-taken.taken) c.in_ok-taken.ensures.value
    (omega (arith, counted_out s.held _ _ s.orders c.self.invariant c.args.member c.args.order c.args.rank v w c.in_ok-level.ensures.value c.take_out.ensures.queue (Some c.in_ok-taken.taken) c.in_ok-taken.ensures.value))
    (omega (arith, c.len.ensures.value, c.if-len-eq0.false)))
