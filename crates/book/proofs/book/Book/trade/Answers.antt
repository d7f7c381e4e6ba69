use Rattle.std.proofs.Common.{◌<◌, ◌≤◌, not, ◌&&◌, leb, sym, ap, ◌∙◌, subst, arith}
use Rattle.fix.specs.Command.{order_figures}
use Rattle.market.specs.Market.{all_resting, capacity, known, best_crosses, levels, other}
use Rattle.market.specs.Split.{Splits}
use Rattle.market.proofs.Splits.{splits}
use Rattle.book.specs.declared.book.Book.{Book}
use Rattle.book.specs.Market.{market_of}
use Rattle.book.proofs.Sound.{first_some}
use Rattle.book.proofs.Trades.{open_parts, meets_left, known_met, room_left}
use Rattle.book.proofs.book.Book.trade.Given as given
use Rattle.book.proofs.book.Book.trade.Goals as goal

means : (g : given.Over) (p : g.row.P.Denot) → Splits (g.P.Policy.split p)
means g p = splits g.P.Policy.split g.met.P.Policy.as_many g.met.P.Policy.within g.met.P.Policy.full p

few_of : (b : Book) → all_resting (market_of b) ≤ capacity
few_of b = omega (arith, b.counted, b.room, b.sound.inside)

pub rest-requires : goal.rest-requires
rest-requires g c =
    let b = c.args.self.now in
    let o = order_figures c.args.order.now in
    let m = market_of b in
    let p = c.args.policy.now in
    let split = g.P.Policy.split p in
    let e = c.meet-done.ensures in
    let free = open_parts (known o.member o.order m) (leb capacity (all_resting m) && not (best_crosses o.side o.price (levels (other o.side) m))) c.requires.admitted in
    record {
      new = ap (known o.member o.order) e.market ∙ known_met split o m free.0;
      short = λ h. subst (λ n. n < capacity) (sym (ap all_resting e.market)) (room_left split o m (means g p) (few_of b) free.1 (first_some o.side o.price (levels (other o.side) m) e.shaped.stand) (omega (arith, h, e.left)));
      most = omega (arith, e.left, meets_left split o o.lots (levels (other o.side) m), c.args.order.now.lots_within.1);
    }
