use Rattle.std.proofs.Common.{◌≡◌, ◌<◌, length, is_some, sym, ap, ◌∙◌, arith}
use Rattle.std.proofs.lemmas.List.{length-map}
use Rattle.std.proofs.lemmas.Option.{slice_get-get_or}
use Rattle.ordered.specs.Order.{by_price}
use Rattle.ordered.specs.Row.{value_set}
use Rattle.ordered.proofs.Values.{length_value_set}
use Rattle.level.specs.Queue.{queue_of}
use Rattle.level.proofs.Queues.{length_after}
use Rattle.market.specs.Market.{lots_of}
use Rattle.side.specs.Meeting.{first_queue, first_rank, best_filled}
use Rattle.side.specs.Rank.{turned}
use Rattle.side.specs.Row.{seen_as, seen}
use Rattle.side.proofs.First.{first_few, first_queue_is, first_rank_is, filled_stays, filled_gone, stays_in_step, goes_in_step}
use Rattle.side.proofs.levels.Levels.trade_best.Goals as goal

pub trade-after-requires-clause-room : goal.trade-after-requires-clause-room
trade-after-requires-clause-room g c =
    let e = c.in-Some.ensures.value in
    omega (arith, c.requires.room, ap length (sym (ap first_queue c.self.view_is) ∙ first_queue_is c.self.inside.held.nodes c.in-Some.best.now e))

pub overflow_sub-self : goal.overflow_sub-self
overflow_sub-self g c =
    let q = queue_of c.in-Some.best.now in
    omega (arith, ap length c.trade-after.ensures.queue, length_after (g.P.Policy.split c.args.policy.now c.args.before.left (lots_of q)) q)

pub overflow_sub-self-2 : goal.overflow_sub-self-2
overflow_sub-self-2 g c =
    let ns = c.self.inside.held.nodes in
    omega (arith, c.self.invariant.counted, first_few (seen ns), ap length (first_queue_is ns c.in-Some.best.now c.in-Some.ensures.value))

pub invariant_of-self : goal.invariant_of-self
invariant_of-self g c =
    let s = c.self.inside in
    let q = queue_of c.in-Some.best.now in
    let split = g.P.Policy.split c.args.policy.now c.args.before.left in
    let some : 0 < length s.held.nodes = omega (arith, c.requires.some, ap length c.self.view_is, length-map s.held.nodes seen_as) in
    goes_in_step split s.held _ _ s.orders c.self.invariant c.in-Some.best.now c.trade-after.new.level some c.in-Some.ensures.value c.trade-after.ensures.queue c.pop_first.new.self _ _ _
    (omega (arith, c.self.invariant.counted, first_few (seen s.held.nodes), ap length (first_queue_is s.held.nodes c.in-Some.best.now c.in-Some.ensures.value), ap length c.trade-after.ensures.queue, length_after (split (lots_of q)) q))
    (omega (arith, c.if-stays-eq0.true)) c.pop_first.ensures.sound c.pop_first.ensures.capacity c.pop_first.ensures.nodes c.close.ensures.count c.close.ensures.memory

pub invariant_of-self-else-stays-eq0 : goal.invariant_of-self-else-stays-eq0
invariant_of-self-else-stays-eq0 g c =
    let s = c.self.inside in
    let q = queue_of c.in-Some.best.now in
    let split = g.P.Policy.split c.args.policy.now c.args.before.left in
    let some : 0 < length s.held.nodes = omega (arith, c.requires.some, ap length c.self.view_is, length-map s.held.nodes seen_as) in
    stays_in_step split s.held _ _ s.orders c.self.invariant c.in-Some.best.now c.trade-after.new.level some c.in-Some.ensures.value c.trade-after.ensures.queue _
    (omega (arith, c.self.invariant.counted, first_few (seen s.held.nodes), ap length (first_queue_is s.held.nodes c.in-Some.best.now c.in-Some.ensures.value), ap length c.trade-after.ensures.queue, length_after (split (lots_of q)) q))
    (omega (arith, c.if-stays-eq0.false))

pub returns-then-stays-eq0-clause-levels : goal.returns-then-stays-eq0-clause-levels
returns-then-stays-eq0-clause-levels g c =
    let split = g.P.Policy.split c.args.policy.now c.args.before.left in
    ap seen c.pop_first.ensures.nodes ∙ filled_gone split c.self.inside.held.nodes c.in-Some.best.now c.trade-after.new.level c.in-Some.ensures.value c.trade-after.ensures.queue (omega (arith, c.if-stays-eq0.true)) ∙ ap (best_filled split) c.self.view_is

pub returns-else-stays-eq0-clause-levels : goal.returns-else-stays-eq0-clause-levels
returns-else-stays-eq0-clause-levels g c =
    let split = g.P.Policy.split c.args.policy.now c.args.before.left in
    filled_stays split c.self.inside.held.nodes c.in-Some.best.now c.trade-after.new.level c.in-Some.ensures.value c.trade-after.ensures.queue (omega (arith, c.if-stays-eq0.false)) ∙ ap (best_filled split) c.self.view_is

pub returns-then-stays-eq0-clause-reported : goal.returns-then-stays-eq0-clause-reported
returns-then-stays-eq0-clause-reported g c =
    let queue : first_queue c.args.self.now ≡ queue_of c.in-Some.best.now = sym (ap first_queue c.self.view_is) ∙ first_queue_is c.self.inside.held.nodes c.in-Some.best.now c.in-Some.ensures.value in
    let rank : turned c.args.side (first_rank c.args.self.now) ≡ c.turn-price.result = ap (turned c.args.side) (sym (ap first_rank c.nodes.ensures.value) ∙ first_rank_is c.nodes.result.now c.index-nodes-0.result (omega (arith, c.requires.some, ap length c.nodes.ensures.value))) ∙ sym c.turn-price.ensures.value in
    rw (queue, rank) c.trade-after.ensures.reported

pub returns-else-stays-eq0-clause-reported : goal.returns-else-stays-eq0-clause-reported
returns-else-stays-eq0-clause-reported g c =
    let queue : first_queue c.args.self.now ≡ queue_of c.in-Some.best.now = sym (ap first_queue c.self.view_is) ∙ first_queue_is c.self.inside.held.nodes c.in-Some.best.now c.in-Some.ensures.value in
    let rank : turned c.args.side (first_rank c.args.self.now) ≡ c.turn-price.result = ap (turned c.args.side) (sym (ap first_rank c.nodes.ensures.value) ∙ first_rank_is c.nodes.result.now c.index-nodes-0.result (omega (arith, c.requires.some, ap length c.nodes.ensures.value))) ∙ sym c.turn-price.ensures.value in
    rw (queue, rank) c.trade-after.ensures.reported

pub close-requires-clause-some : goal.close-requires-clause-some
close-requires-clause-some g c =
    let ns = c.self.inside.held.nodes in
    let ms = value_set ns 0 c.trade-after.new.level in
    let some : 0 < length ms = omega (arith, c.requires.some, ap length c.self.view_is, length-map ns seen_as, length_value_set by_price ns 0 c.trade-after.new.level) in
    ap is_some (c.pop_first.ensures.value ∙ slice_get-get_or ms 0 c.index-nodes-0.result some)
