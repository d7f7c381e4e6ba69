use Rattle.std.proofs.Common.{sym, ◌∙◌, arith}
use Rattle.std.proofs.lemmas.Option.{none-some}
use Rattle.ordered.specs.declared.key.order_id.OrderId.{OrderId}
use Rattle.market.specs.Prices.{queue_at}
use Rattle.side.specs.Levels.{levels_of}
use Rattle.book.proofs.Apart.{shaped_apart, held_queue, in_some, in_levels_at, out_levels_at}
use Rattle.book.proofs.sides.take_out.Goals as goal

pub unreachable-requires : goal.unreachable-requires
unreachable-requires c =
    let k : OrderId = record { order = c.args.order; member = c.args.member } in
    let b = c.args.mine.now in
    let p = c.args.place.price in
    let found = in_some k (queue_at p (levels_of b)) (omega (arith, held_queue k p (levels_of b) (shaped_apart _ (levels_of b) c.in-None.ensures.shaped), c.requires.there)) in
    none-some found.0 (c.in-None.ensures.value ∙ found.1)

pub returns : goal.returns
returns c =
    let k : OrderId = record { order = c.args.order; member = c.args.member } in
    let b = c.args.mine.now in
    let p = c.args.place.price in
    record {
      value = in_levels_at k p (levels_of b) (shaped_apart _ (levels_of b) c.in-Some.ensures.shaped) c.requires.nowhere ∙ sym c.in-Some.ensures.value;
      levels = c.in-Some.ensures.levels ∙ out_levels_at k p (levels_of b) (shaped_apart _ (levels_of b) c.in-Some.ensures.shaped) c.requires.nowhere;
      side = c.in-Some.ensures.side;
    }
