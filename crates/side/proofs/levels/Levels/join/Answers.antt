use Rattle.std.proofs.Common.{◌≡◌, [], ap, ◌∙◌, arith, subst}
use Rattle.answers.specs.Answer.{answered, refused}
use Rattle.ordered.specs.Order.{by_price}
use Rattle.ordered.specs.Refusal.{number_of}
use Rattle.ordered.proofs.Insertions.{insertion_fits}
use Rattle.fix.specs.declared.command.Side.TheVariants.{Sell}
use Rattle.market.specs.Market.{resting}
use Rattle.market.specs.Put.{joins}
use Rattle.side.specs.Shape.{Shaped}
use Rattle.side.proofs.Shapes.{shaped_from}
use Rattle.side.specs.Row.{seen}
use Rattle.side.proofs.Found.{is_none}
use Rattle.side.proofs.Joins.{queue_short, seen_joined, seen_put, fewer, joined_in_step, opened_in_step}
use Rattle.side.proofs.levels.Levels.join.Goals as goal

pub add-requires-clause-short : goal.add-requires-clause-short
add-requires-clause-short c =
    let ns = c.self.inside.held.nodes in
    omega (arith, queue_short c.args.rank c.in-Some.level.now ns c.in-Some.ensures.value, ap resting c.self.view_is, c.requires.short)

pub open-requires-clause-some : goal.open-requires-clause-some
open-requires-clause-some c =
    let s = c.self.inside in
    omega (arith, fewer s.held _ _ s.orders c.self.invariant c.args.rank c.args.order (omega (arith, c.self.invariant.counted, ap resting c.self.view_is, c.requires.short)), c.self.invariant.together)

pub unreachable-requires : goal.unreachable-requires
unreachable-requires c =
    let s = c.self.inside in
    let few = fewer s.held _ _ s.orders c.self.invariant c.args.rank c.args.order (omega (arith, c.self.invariant.counted, ap resting c.self.view_is, c.requires.short)) in
    let fits = insertion_fits by_price s.held.capacity s.held.nodes c.args.rank (is_none s.held.nodes c.args.rank c.in-None.ensures.value) (omega (arith, few, c.self.invariant.capacity)) in
    let z : refused (number_of c.in-Err.field-0) [] ≡ answered tt = c.in-Err.ensures.answers ∙ fits in
    cc

pub invariant_of-self : goal.invariant_of-self
invariant_of-self c =
    let s = c.self.inside in
    joined_in_step s.held _ _ s.orders c.self.invariant c.args.rank c.args.order c.in-Some.level.now c.add.new.level (omega (arith, c.self.invariant.counted, ap resting c.self.view_is, c.requires.short)) c.requires.rank c.in-Some.ensures.value c.add.ensures.queue

pub invariant_of-self-in-Ok : goal.invariant_of-self-in-Ok
invariant_of-self-in-Ok c =
    let s = c.self.inside in
    opened_in_step s.held _ _ s.orders c.self.invariant c.args.rank c.args.order c.insert.new.self _ _ c.open.result (omega (arith, c.self.invariant.counted, ap resting c.self.view_is, c.requires.short)) c.requires.rank
    (is_none s.held.nodes c.args.rank c.in-None.ensures.value) c.open.ensures.queue c.insert.ensures.sound c.insert.ensures.capacity c.in-Ok.ensures.told.nodes c.open.ensures.count c.open.ensures.memory

pub returns-in-Some-clause-levels : goal.returns-in-Some-clause-levels
returns-in-Some-clause-levels c =
    seen_joined c.args.rank c.in-Some.level.now c.add.new.level c.args.order c.self.inside.held.nodes c.self.invariant.sound.ascends c.in-Some.ensures.value c.add.ensures.queue ∙ ap (joins Sell c.args.rank.0 c.args.order) c.self.view_is

pub returns-in-Ok-clause-levels : goal.returns-in-Ok-clause-levels
returns-in-Ok-clause-levels c =
    let ns = c.self.inside.held.nodes in
    ap seen c.in-Ok.ensures.told.nodes ∙ seen_put (record { key = c.args.rank; value = c.open.result }) c.args.order ns c.open.ensures.queue (is_none ns c.args.rank c.in-None.ensures.value) ∙ ap (joins Sell c.args.rank.0 c.args.order) c.self.view_is

pub returns-in-Some-clause-shaped : goal.returns-in-Some-clause-shaped
returns-in-Some-clause-shaped c = subst (Shaped Sell) c.self.view_is (shaped_from _ _ _ _ c.self.invariant)

pub returns-in-Ok-clause-shaped : goal.returns-in-Ok-clause-shaped
returns-in-Ok-clause-shaped c = subst (Shaped Sell) c.self.view_is (shaped_from _ _ _ _ c.self.invariant)

-- what is left has its shape, since it is in step

pub returns-in-Some-clause-still : goal.returns-in-Some-clause-still
returns-in-Some-clause-still c =
    let s = c.self.inside in
    shaped_from _ _ _ _
    (joined_in_step s.held _ _ s.orders c.self.invariant c.args.rank c.args.order c.in-Some.level.now c.add.new.level (omega (arith, c.self.invariant.counted, ap resting c.self.view_is, c.requires.short)) c.requires.rank c.in-Some.ensures.value c.add.ensures.queue)

pub returns-in-Ok-clause-still : goal.returns-in-Ok-clause-still
returns-in-Ok-clause-still c =
    let s = c.self.inside in
    shaped_from _ _ _ _
    (opened_in_step s.held _ _ s.orders c.self.invariant c.args.rank c.args.order c.insert.new.self _ _ c.open.result (omega (arith, c.self.invariant.counted, ap resting c.self.view_is, c.requires.short)) c.requires.rank
    (is_none s.held.nodes c.args.rank c.in-None.ensures.value) c.open.ensures.queue c.insert.ensures.sound c.insert.ensures.capacity c.in-Ok.ensures.told.nodes c.open.ensures.count c.open.ensures.memory)
