use Rattle.std.proofs.Common.{◌<◌, [], ◌∷◌, length, ap, ◌∙◌, arith}
use Rattle.std.proofs.lemmas.List.{length-set}
use Rattle.fix.specs.Command.{order_figures}
use Rattle.market.specs.Put.{put_order_at}
use Rattle.book.specs.Market.{market_of}
use Rattle.book.proofs.Written.{take_one, drop_one}
use Rattle.book.proofs.book.Book.put_order.Goals as goal

pub returns-in-Some : goal.returns-in-Some
returns-in-Some g c =
    let o = order_figures c.args.order.now in
    let m = market_of c.args.self.now in
    let l = c.args.list.now in
    let x = c.entry_for.result in
    let split = g.P.Policy.split c.args.policy.now in
    let some : 0 < length l = omega (arith, c.requires.long) in
    let why = c.in-Some.ensures.value in
    record {
      market = ap (λ r. (put_order_at split o m r).market) why;
      front = take_one l x some ∙ ap (λ y. y ∷ []) c.entry_for.ensures.value ∙ ap (λ r. (put_order_at split o m r).entries) why;
      back = drop_one l x;
      upto = omega (arith, length-set l 0 x, some);
    }
