use Rattle.std.proofs.Common.{◌≡◌, ℕ, ◌≤◌, List, length, vec_items, sym, ap, ◌∙◌, subst, arith}
use Rattle.allocation.specs.Range.{all_tradable}
use Rattle.market.specs.declared.resting.Resting.{Resting}
use Rattle.market.specs.Market.{lots_of, total}
use Rattle.market.specs.Put.{after_fills}
use Rattle.std.specs.List.{AllZip}
use Rattle.level.proofs.Rows.{fits_even}
use Rattle.level.proofs.Queues.{fits_from, total_sum, total_after, tradable_after, length_after}
use Rattle.level.proofs.level.Level.trade.Given as given
use Rattle.level.proofs.level.Level.trade.Goals as goal

module _ (g : given.Over) (p : g.row.P.Denot) (left : ℕ) (q : List Resting) where
  -- a policy's fills fit the queue
  fitting : AllZip ◌≤◌ (g.P.Policy.split p left (lots_of q)) (lots_of q)
  fitting = fits_from _ (lots_of q) (g.met.P.Policy.as_many p left (lots_of q)) (g.met.P.Policy.within p left (lots_of q))

  -- and are no more than what is left
  enough : total (g.P.Policy.split p left (lots_of q)) ≤ left
  enough = omega (arith, total_sum (g.P.Policy.split p left (lots_of q)), g.met.P.Policy.full p left (lots_of q))

pub report-after-requires : goal.report-after-requires
report-after-requires g c =
    let q = vec_items c.args.self.now.queue in
    let p = c.args.policy.now in
    let left = c.args.before.left in
    let fills : c.in_ok-fills.fills.now ≡ g.P.Policy.split p left (lots_of q) = c.in_ok-fills.ensures.splits.1 ∙ ap (λ xs. g.P.Policy.split c.args.policy.now c.args.before.left (lots_of xs)) c.as_slice.ensures.value in
    record {
      fit = subst (λ xs. AllZip ◌≤◌ c.in_ok-fills.fills.now (lots_of xs)) (sym c.as_slice-2.ensures.value) (subst (λ fs. AllZip ◌≤◌ fs (lots_of q)) (sym fills) (fitting g p left q));
      enough = omega (arith, ap total fills, enough g p left q);
      room = omega (arith, ap length fills, fits_even _ q (fitting g p left q), c.if-list-before.false, c.if-before-list.false, c.len.ensures, c.args.self.now.queue.ok.0);
    }

pub take_off-requires : goal.take_off-requires
take_off-requires g c =
    let q = vec_items c.args.self.now.queue in
    let p = c.args.policy.now in
    let left = c.args.before.left in
    let fills : c.in_ok-fills.fills.now ≡ g.P.Policy.split p left (lots_of q) = c.in_ok-fills.ensures.splits.1 ∙ ap (λ xs. g.P.Policy.split c.args.policy.now c.args.before.left (lots_of xs)) c.as_slice.ensures.value in
    record { fit = subst (λ fs. AllZip ◌≤◌ fs (lots_of q)) (sym fills) (fitting g p left q) }

pub overflow_sub-self-2 : goal.overflow_sub-self-2
overflow_sub-self-2 g c =
    let level = c.args.self.now in
    let q = vec_items level.queue in
    let p = c.args.policy.now in
    let left = c.args.before.left in
    let fills : c.in_ok-fills.fills.now ≡ g.P.Policy.split p left (lots_of q) = c.in_ok-fills.ensures.splits.1 ∙ ap (λ xs. g.P.Policy.split c.args.policy.now c.args.before.left (lots_of xs)) c.as_slice.ensures.value in
    omega (arith, level.together, c.report-after.ensures.reported.left, ap total fills, total_after _ q (fitting g p left q))

pub invariant_of-self : goal.invariant_of-self
invariant_of-self g c =
    let level = c.args.self.now in
    let q = vec_items level.queue in
    let p = c.args.policy.now in
    let left = c.args.before.left in
    let fills : c.in_ok-fills.fills.now ≡ g.P.Policy.split p left (lots_of q) = c.in_ok-fills.ensures.splits.1 ∙ ap (λ xs. g.P.Policy.split c.args.policy.now c.args.before.left (lots_of xs)) c.as_slice.ensures.value in
    let fs = g.P.Policy.split p left (lots_of q) in
    let after : vec_items c.take_off.new.queue ≡ after_fills fs q = c.take_off.ensures.items ∙ ap (λ xs. after_fills xs q) fills in
    record {
      together = omega (arith, level.together, c.report-after.ensures.reported.left, ap total fills, total_after fs q (fitting g p left q), enough g p left q, ap (λ xs. total (lots_of xs)) after);
      tradable = ap (λ xs. all_tradable (lots_of xs)) after ∙ tradable_after fs q level.tradable;
      few = omega (arith, length_after fs q, ap length after, c.take_off.new.queue.ok.0, level.queue.ok.0, level.few);
      reserved = omega (arith, c.take_off.ensures.memory, level.reserved);
    }
