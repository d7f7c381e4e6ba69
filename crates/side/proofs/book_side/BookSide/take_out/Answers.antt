use Rattle.std.proofs.Common.{refl, ap, ◌∙◌}
use Rattle.market.specs.Market.{in_queue}
use Rattle.market.specs.Prices.{queue_at}
use Rattle.side.specs.Queues.{out_at}
use Rattle.side.specs.Rank.{priced}
use Rattle.side.proofs.Shapes.{shaped_priced}
use Rattle.side.proofs.Prices.{queue_priced, out_priced}
use Rattle.side.proofs.book_side.BookSide.take_out.Goals as goal

pub returns : goal.returns
returns c =
    let b = c.args.self.now in
    let rank = c.turn.ensures.value in
    let member = c.args.member in
    let order = c.args.order in
    record {
      value = c.take_out.ensures.value ∙ ap (λ p. in_queue member order (queue_at p b.levels)) rank ∙ ap (in_queue member order) (queue_priced b.side c.args.price b.levels c.take_out.ensures.shaped.stand);
      levels = ap (priced b.side) (c.take_out.ensures.levels ∙ ap (λ p. out_at p member order b.levels) rank) ∙ out_priced b.side c.args.price member order b.levels c.take_out.ensures.shaped.stand;
      shaped = shaped_priced b.side b.levels c.take_out.ensures.shaped;
      side = refl;
    }

pub invariant_of-self : goal.invariant_of-self
invariant_of-self c = record { shaped = shaped_priced c.args.self.now.side c.take_out.new.self c.take_out.ensures.still }
