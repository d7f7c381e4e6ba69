use Rattle.std.proofs.Common.{◌≡◌, [], ◌++◌, take, sym, refl, ap, ◌∙◌, arith, subst}
use Rattle.std.proofs.lemmas.List.{append-nil}
use Rattle.fix.specs.Command.{order_figures}
use Rattle.level.proofs.Queues.{tradable_from}
use Rattle.market.specs.Market.{resting}
use Rattle.market.specs.Split.{Splits}
use Rattle.market.proofs.Splits.{splits}
use Rattle.market.specs.Put.{Met, meets}
use Rattle.fix.specs.declared.command.Side.TheVariants.{Sell}
use Rattle.side.specs.Shape.{Shaped}
use Rattle.side.proofs.Shapes.{shaped_from}
use Rattle.side.specs.Rank.{priced}
use Rattle.side.proofs.First.{first_few}
use Rattle.side.proofs.Ladder.{range_from}
use Rattle.side.proofs.Turns.{crossing, meets_end, less_again, met_again}
use Rattle.side.proofs.levels.Levels.meet.Given as given
use Rattle.side.proofs.levels.Levels.meet.Goals as goal

means : (g : given.Over) (p : g.row.P.Denot) → Splits (g.P.Policy.split p)
means g p = splits g.P.Policy.split g.met.P.Policy.as_many g.met.P.Policy.within g.met.P.Policy.full p

pub trade_best-after-requires : goal.trade_best-after-requires
trade_best-after-requires g c =
    let lp = c.loop-side in
    let o = c.args.order.now in
    let fits = range_from o.price o.price_within.0 o.price_within.1 in
    let x = crossing (order_figures o) c.args.side c.turn-limit.result c.requires.side c.turn-limit.ensures.value fits lp.self lp.after.left c.loop-side-test.ensures.shaped.stand c.loop-side-test.ensures.value in
    record {
      some = x.some;
      left = tradable_from lp.after.left x.more (omega (arith, lp.invariant.most, o.lots_within.1));
      room = omega (arith, lp.invariant.room x.more, first_few lp.self);
    }

pub loop-side-smaller : goal.loop-side-smaller
loop-side-smaller g c =
    let lp = c.loop-side in
    let d = c.trade_best-after in
    let o = c.args.order.now in
    let p = c.args.policy.now in
    let fits = range_from o.price o.price_within.0 o.price_within.1 in
    let x = crossing (order_figures o) c.args.side c.turn-limit.result c.requires.side c.turn-limit.ensures.value fits lp.self lp.after.left c.loop-side-test.ensures.shaped.stand c.loop-side-test.ensures.value in
    less_again (g.P.Policy.split p) (means g p) (order_figures o) c.args.side c.args.start c.args.self.now lp.self d.new.self c.args.list.now lp.list d.new.list lp.after d.result lp.invariant x.more x.some x.crossed d.ensures.levels d.ensures.reported

pub loop-side-preserved : goal.loop-side-preserved
loop-side-preserved g c =
    let lp = c.loop-side in
    let d = c.trade_best-after in
    let o = c.args.order.now in
    let p = c.args.policy.now in
    let fits = range_from o.price o.price_within.0 o.price_within.1 in
    let x = crossing (order_figures o) c.args.side c.turn-limit.result c.requires.side c.turn-limit.ensures.value fits lp.self lp.after.left c.loop-side-test.ensures.shaped.stand c.loop-side-test.ensures.value in
    met_again (g.P.Policy.split p) (means g p) (order_figures o) c.args.side c.args.start c.args.self.now lp.self d.new.self c.args.list.now lp.list d.new.list lp.after d.result lp.invariant x.more x.some x.crossed d.ensures.levels d.ensures.reported d.auto.list

pub returns : goal.returns
returns g c =
    let lp = c.loop-side in
    let o = c.args.order.now in
    let p = c.args.policy.now in
    let split = g.P.Policy.split p in
    let fits = range_from o.price o.price_within.0 o.price_within.1 in
    let end : meets split (order_figures o) lp.after.left (priced c.args.side lp.self) ≡ record { left = lp.after.left; levels = priced c.args.side lp.self; entries = [] } = meets_end (order_figures o) c.args.side c.turn-limit.result c.requires.side c.turn-limit.ensures.value fits split (means g p) lp.self lp.after.left c.loop-side-test.ensures.shaped.stand c.loop-side-test.ensures.value in
    record {
      shaped = subst (Shaped Sell) c.self.view_is (shaped_from _ _ _ _ c.self.invariant);
      still = c.loop-side-test.ensures.shaped;
      meets = record {
        levels = sym (lp.invariant.same_levels ∙ ap (λ (m : Met). m.levels) end);
        left = sym (lp.invariant.same_left ∙ ap (λ (m : Met). m.left) end);
        front = sym (append-nil (take lp.after.written lp.list)) ∙ ap (λ es. take lp.after.written lp.list ++ es) (sym (ap (λ (m : Met). m.entries) end)) ∙ lp.invariant.front;
        back = lp.invariant.back;
        from = lp.invariant.from;
        upto = lp.invariant.upto;
      };
    }

pub loop-side-init : goal.loop-side-init
loop-side-init g c = record {
  same_left = refl;
  same_levels = refl;
  front = refl;
  back = refl;
  from = omega arith;
  upto = omega (arith, c.requires.room);
  room = λ h. omega (arith, c.requires.room, c.self.invariant.counted, c.self.invariant.few, ap resting c.self.view_is);
  most = omega arith;
}
