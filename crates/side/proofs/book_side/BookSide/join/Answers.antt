use Rattle.std.proofs.Common.{◌≡◌, true, [], sym, refl, ap, ◌∙◌, arith}
use Rattle.answers.specs.Answer.{Answer, answered, refused, if_answered}
use Rattle.allocation.specs.Range.{tradable}
use Rattle.fix.specs.declared.command.Side.TheVariants.{Sell}
use Rattle.market.specs.Market.{resting}
use Rattle.market.specs.Put.{joins}
use Rattle.side.specs.Levels.{levels_of}
use Rattle.side.specs.Rank.{in_range, turned, priced}
use Rattle.side.specs.Refusal.{joining}
use Rattle.side.proofs.Shapes.{shaped_priced}
use Rattle.side.proofs.Prices.{turned_twice, turned_range, resting_priced, joins_priced}
use Rattle.side.proofs.Joins.{joining_full, joining_fits}
use Rattle.side.proofs.book_side.BookSide.join.Goals as goal

pub returns-then-len-eq-MOST_ORDERS : goal.returns-then-len-eq-MOST_ORDERS
returns-then-len-eq-MOST_ORDERS c =
    let b = c.args.self.now in
    let ls = levels_of b in
    let price = c.args.price in
    let o = c.args.order in
    let trades : tradable o.lots ≡ true = sym c.if-not-is_tradable.ensures.value in
    let full : joining price o.lots (resting ls) ≡ refused 97 [] = joining_full price o.lots (resting ls) (sym c.if-not-in_range.ensures.value) trades (omega (arith, c.if-len-eq-MOST_ORDERS.true)) in
    record {
      answers = sym full;
      levels = sym (ap (λ (a : Answer (Unit {0})). if_answered a (joins b.side price o ls) ls) full);
      side = refl;
    }

pub join-requires-clause-short : goal.join-requires-clause-short
join-requires-clause-short c = omega (arith, resting_priced c.args.self.now.side c.args.self.now.levels, c.if-len-eq-MOST_ORDERS.false)

pub returns : goal.returns
returns c =
    let b = c.args.self.now in
    let ls = levels_of b in
    let price = c.args.price in
    let o = c.args.order in
    let range : in_range price ≡ true = sym c.if-not-in_range.ensures.value in
    let rank = c.turn.ensures.value in
    let trades : tradable o.lots ≡ true = sym c.if-not-is_tradable.ensures.value in
    let fits : joining price o.lots (resting ls) ≡ answered tt = joining_fits price o.lots (resting ls) range trades (omega (arith, c.len.ensures.value, c.len.ensures.few, c.if-len-eq-MOST_ORDERS.false)) in
    record {
      answers = sym fits;
      levels =
          ap (priced b.side) (c.join.ensures.levels ∙ ap (λ p. joins Sell p o b.levels) rank)
          ∙ joins_priced b.side (turned b.side price) o b.levels (turned_range b.side price range) c.join.ensures.shaped.stand
          ∙ ap (λ p. joins b.side p o ls) (turned_twice b.side price range)
          ∙ sym (ap (λ (a : Answer (Unit {0})). if_answered a (joins b.side price o ls) ls) fits);
      side = refl;
    }

pub invariant_of-self : goal.invariant_of-self
invariant_of-self c = record { shaped = shaped_priced c.args.self.now.side c.join.new.self c.join.ensures.still }
