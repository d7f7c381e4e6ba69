use Rattle.std.proofs.Common.{◌≡◌, ◌+◌, ◌-◌, ◌*◌, ◌≤◌, ◌++◌, length, take, drop}
use Rattle.std.specs.List.{AllZip}
use Rattle.fix.specs.Command.{order_figures}
use Rattle.market.specs.Market.{lots_of, total}
use Rattle.market.specs.Put.{of_fills}
use Rattle.level.proofs.trade.report.Given as goal

-- `fs` and `rs` are the fills and the orders that are still to come
abbrev pub invariant-loop-fill : goal.invariant-loop-fill
invariant-loop-fill l =
    let fs = l.fill-iterator.a.rest.now in
    let rs = l.fill-iterator.b.rest.now in
    record {
      front : take l.at l.list ++ of_fills (order_figures l.order) l.price l.left fs rs ≡ take l.initial.at l.initial.list ++ of_fills (order_figures l.order) l.price l.initial.left l.fills l.queue;
      back : drop l.at l.list ≡ drop l.at l.initial.list;
      left : l.left ≡ (l.initial.left - total l.fills) + total fs;
      from : l.initial.at ≤ l.at;
      upto : l.at + 2 * length fs ≤ l.initial.at + 2 * length l.fills;
      fit : AllZip ◌≤◌ fs (lots_of rs);
    }
