use Rattle.std.proofs.Common.{◌≡◌, ℕ, ◌<◌, false, None, sym, ap, ◌∙◌, arith}
use Rattle.fix.specs.declared.command.Side.TheVariants.{Buy, Sell}
use Rattle.ordered.specs.declared.key.order_id.OrderId.{OrderId}
use Rattle.level.proofs.Queues.{tradable_from}
use Rattle.market.specs.Market.{known}
use Rattle.side.specs.Levels.{levels_of}
use Rattle.side.proofs.Ladder.{range_from}
use Rattle.book.specs.declared.book.Book.{Book}
use Rattle.book.specs.Market.{market_of}
use Rattle.book.specs.Place.{place_of, told}
use Rattle.book.proofs.Places.{same_from}
use Rattle.book.proofs.Known.{none_from, known_is}
use Rattle.book.proofs.book.Book.rest.Goals as goal

not_placed : (b : Book) (k : OrderId) → known k.member k.order (market_of b) ≡ false → place_of b.places.nodes k ≡ None
not_placed b k e = none_from (place_of b.places.nodes k) (sym (known_is k (place_of b.places.nodes k) (levels_of b.buys) (levels_of b.sells) (b.bought k) (b.sold k)) ∙ e)

some_left : (n : ℕ) → (n ≡ 0 → ⊥) → 0 < n
some_left n ne = omega arith

pub rest-requires : goal.rest-requires
rest-requires c =
    let b = c.args.self.now in
    let o = c.args.order.now in
    let k : OrderId = record { order = o.order; member = o.member } in
    let more : 0 < c.args.left = some_left c.args.left c.if-left-eq0.false in
    record {
      side = same_from b.buys.side Buy b.buys_side ∙ sym c.in-Buy.is;
      placed = λ j p. b.bought j p ∙ ap (λ s. told (place_of b.places.nodes j) s p) (sym c.in-Buy.is);
      new = not_placed b k c.requires.new;
      short = omega (arith, b.counted, c.requires.short more);
      fewer = omega (arith, b.counted);
      room = b.room;
      price = range_from o.price o.price_within.0 o.price_within.1;
      lots = tradable_from c.args.left more c.requires.most;
    }

pub rest-requires-in-Sell : goal.rest-requires-in-Sell
rest-requires-in-Sell c =
    let b = c.args.self.now in
    let o = c.args.order.now in
    let k : OrderId = record { order = o.order; member = o.member } in
    let more : 0 < c.args.left = some_left c.args.left c.if-left-eq0.false in
    record {
      side = same_from b.sells.side Sell b.sells_side ∙ sym c.in-Sell.is;
      placed = λ j p. b.sold j p ∙ ap (λ s. told (place_of b.places.nodes j) s p) (sym c.in-Sell.is);
      new = not_placed b k c.requires.new;
      short = omega (arith, b.counted, c.requires.short more);
      fewer = omega (arith, b.counted);
      room = b.room;
      price = range_from o.price o.price_within.0 o.price_within.1;
      lots = tradable_from c.args.left more c.requires.most;
    }
