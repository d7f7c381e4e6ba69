use Rattle.std.proofs.Common.{◌≡◌, sym, ap, ◌∙◌, subst}
use Rattle.answers.specs.Answer.{if_answered}
use Rattle.ordered.specs.Order.{by_order_id}
use Rattle.ordered.specs.Row.{put}
use Rattle.market.specs.Put.{joins}
use Rattle.side.specs.Levels.{levels_of}
use Rattle.book.specs.Step.{Together}
use Rattle.book.proofs.Joined.{joined_together}
use Rattle.book.proofs.sides.rest.Goals as goal

pub returns : goal.returns
returns c =
    let b = c.args.mine.now in
    let r = c.args.order in
    let place = c.args.place in
    let ls = levels_of b in
    let ns = c.args.places.now.nodes in
    let levels : levels_of c.join.new.self ≡ joins place.side place.price r ls = c.in-Ok.ensures.levels ∙ ap (λ a. if_answered a (joins b.side place.price r ls) ls) (sym c.in-Ok.ensures.answers) ∙ ap (λ s. joins s place.price r ls) c.requires.side in
    let nodes = c.in-Ok-insert.ensures.told.nodes in
    record {
      levels = levels;
      together = subst (λ ms. Together place.side ls (levels_of c.join.new.self) ns ms) (sym nodes) (subst (λ xs. Together place.side ls xs ns (put by_order_id (record { key = record { order = r.order; member = r.member }; value = place }) ns)) (sym levels) (joined_together place r ls ns c.requires.placed c.requires.new));
      side = c.in-Ok.ensures.side;
      room = c.in-Ok-insert.ensures.capacity;
      sound = c.in-Ok-insert.ensures.sound;
    }
