-- The levels of every side have their shape, by rank and by price. Assumes nothing.
use Rattle.std.proofs.Common.{◌≡◌, ℕ, ◌<◌, true, List, [], ◌∷◌, sym, ◌∙◌, arith}
use Rattle.std.specs.List.{AllByRecursion}
use Rattle.std.proofs.lemmas.Bool.{and_from, ltb-true}
use Rattle.ordered.specs.Kept.{Kept}
use Rattle.ordered.specs.Order.{by_price}
use Rattle.ordered.specs.Row.{all_above, ascending}
use Rattle.ordered.specs.declared.node.Node.{Node}
use Rattle.ordered.specs.declared.key.price.Price.{Price}
use Rattle.ordered.proofs.Ascends.{above_parts, ascending_parts}
use Rattle.level.specs.declared.level.Level.{Level as Held}
use Rattle.fix.specs.declared.command.Side.{Side}
use Rattle.fix.specs.declared.command.Side.TheVariants.{Buy, Sell}
use Rattle.market.specs.Market.{Level}
use Rattle.market.specs.Prices.{Better}
use Rattle.market.specs.Shape.{Sorted}
use Rattle.side.specs.Rank.{in_range, turned, at_price, priced}
use Rattle.side.specs.Row.{seen, standing, InStep}
use Rattle.side.specs.Shape.{InLots, Shaped}
use Rattle.side.proofs.Ladder.{less_is, range_high, stands_from, stands_range, stands_some, standing_head, standing_tail}
use Rattle.side.proofs.Prices.{turned_range, resting_priced}

-- ---- by rank

above_seen : (key : Price) (ns : List (Node Price Held)) → all_above by_price key ns ≡ true → AllByRecursion (λ (worse : Level). Better Sell key.0 worse.price) (seen ns)
above_seen key [] t = tt
above_seen key (n ∷ ns) t =
    let p = above_parts by_price key n ns t in
    (ltb-true _ _ (sym (less_is key.0 n.key.0) ∙ p.0), above_seen key ns p.1)

sorted_seen : (ns : List (Node Price Held)) → ascending by_price ns ≡ true → Sorted Sell (seen ns)
sorted_seen [] t = tt
sorted_seen (n ∷ ns) t =
    let p = ascending_parts by_price n ns t in
    (above_seen n.key ns p.0, sorted_seen ns p.1)

lots_seen : (ns : List (Node Price Held)) → AllByRecursion InLots (seen ns)
lots_seen [] = tt
lots_seen (n ∷ ns) = (n.value.tradable, lots_seen ns)

pub shaped_from : (held : Kept Price Held) (spares memory orders : ℕ) → InStep held spares memory orders → Shaped Sell (seen held.nodes)
shaped_from held spares memory orders s = record {
  sorted = sorted_seen held.nodes s.sound.ascends;
  stand = s.stand;
  lots = lots_seen held.nodes;
  few = omega (arith, s.counted, s.few);
}

-- ---- by price

better_turned : (s : Side) (p q : ℕ) → in_range q ≡ true → p < q → Better s (turned s p) (turned s q)
better_turned Buy p q r l = omega (arith, range_high q r)
better_turned Sell p q r l = l

module _ (s : Side) where
  worse_priced : (p : ℕ) (ls : List Level) → standing ls ≡ true → AllByRecursion (λ (worse : Level). Better Sell p worse.price) ls → AllByRecursion (λ (worse : Level). Better s (turned s p) worse.price) (priced s ls)
  worse_priced p [] t w = tt
  worse_priced p (l ∷ ls) t w = (better_turned s p l.price (stands_range l (standing_head l ls t)) w.0, worse_priced p ls (standing_tail l ls t) w.1)

  sorted_priced : (ls : List Level) → standing ls ≡ true → Sorted Sell ls → Sorted s (priced s ls)
  sorted_priced [] t o = tt
  sorted_priced (l ∷ ls) t o = (worse_priced l.price ls (standing_tail l ls t) o.0, sorted_priced ls (standing_tail l ls t) o.1)

  standing_priced : (ls : List Level) → standing ls ≡ true → standing (priced s ls) ≡ true
  standing_priced [] t = t
  standing_priced (l ∷ ls) t =
      let here = standing_head l ls t in
      and_from _ _ (stands_from (at_price s l) (turned_range s l.price (stands_range l here)) (stands_some l here)) (standing_priced ls (standing_tail l ls t))

  lots_priced : (ls : List Level) → AllByRecursion InLots ls → AllByRecursion InLots (priced s ls)
  lots_priced [] a = tt
  lots_priced (l ∷ ls) a = (a.0, lots_priced ls a.1)

  pub shaped_priced : (ls : List Level) → Shaped Sell ls → Shaped s (priced s ls)
  shaped_priced ls h = record {
    sorted = sorted_priced ls h.stand h.sorted;
    stand = standing_priced ls h.stand;
    lots = lots_priced ls h.lots;
    few = omega (arith, resting_priced s ls, h.few);
  }
