-- The best level: the first of a side. Assumes nothing.
use Rattle.std.proofs.Common.{◌≡◌, ℕ, ◌+◌, ◌<◌, ◌≤◌, true, List, [], ◌∷◌, length, get_or, drop, length-drop, Some, sym, refl, ap, ◌∙◌, arith}
use Rattle.std.specs.Option.{option_map}
use Rattle.std.proofs.lemmas.List.{nil_from_length, length-map}
use Rattle.std.proofs.lemmas.Bool.{and_from}
use Rattle.std.proofs.lemmas.Option.{none-some}
use Rattle.ordered.specs.Kept.{Kept, Sound, with_nodes}
use Rattle.ordered.specs.Order.{by_price}
use Rattle.ordered.specs.Row.{value_set, first}
use Rattle.ordered.proofs.Values.{length_value_set, sound_value_set}
use Rattle.level.proofs.Queues.{length_after}
use Rattle.ordered.specs.declared.node.Node.{Node}
use Rattle.ordered.specs.declared.key.price.Price.{Price}
use Rattle.level.specs.declared.level.Level.{Level as Held}
use Rattle.level.specs.Queue.{queue_of}
use Rattle.market.specs.declared.resting.Resting.{Resting}
use Rattle.market.specs.Market.{Level, resting, lots_of}
use Rattle.market.proofs.Levels.{resting_kept}
use Rattle.market.specs.Put.{kept, after_fills}
use Rattle.side.specs.Meeting.{first_queue, first_rank, best_filled}
use Rattle.side.specs.Rank.{in_range}
use Rattle.side.specs.Row.{seen_as, seen, standing, InStep}
use Rattle.side.proofs.Ladder.{stands_from, stands_range, standing_head, standing_tail}

pub first_few : (ls : List Level) → length (first_queue ls) ≤ resting ls
first_few [] = omega arith
first_few (l ∷ ls) = omega arith

pub first_in_range : (ls : List Level) → 0 < length ls → standing ls ≡ true → in_range (first_rank ls) ≡ true
first_in_range [] h t = absurd (omega arith)
first_in_range (l ∷ ls) h t = stands_range l (standing_head l ls t)

pub standing_kept : (p : ℕ) (q : List Resting) (ls : List Level) → in_range p ≡ true → standing ls ≡ true → standing (kept p q ls) ≡ true
standing_kept p [] ls r t = t
standing_kept p (o ∷ q) ls r t = and_from _ _ (stands_from (record { price = p; queue = o ∷ q }) r (omega arith)) t

-- ---- the first node of the map

pub first_queue_is : (ns : List (Node Price Held)) (v : Held) → Some v ≡ option_map (λ n. n.value) (first ns) → first_queue (seen ns) ≡ queue_of v
first_queue_is [] v e = absurd (none-some v (sym e))
first_queue_is (n ∷ ns) v e = let same : v ≡ n.value = cc in ap queue_of (sym same)

pub first_rank_is : (ns : List (Node Price Held)) (d : Node Price Held) → 0 < length (seen ns) → first_rank (seen ns) ≡ (get_or ns 0 d).key.0
first_rank_is [] d h = absurd (omega arith)
first_rank_is (n ∷ ns) d h = refl

module _ (split : List ℕ → List ℕ) where
  pub standing_filled : (ls : List Level) → standing ls ≡ true → standing (best_filled split ls) ≡ true
  standing_filled [] t = t
  standing_filled (l ∷ ls) t = standing_kept l.price (after_fills (split (lots_of l.queue)) l.queue) ls (stands_range l (standing_head l ls t)) (standing_tail l ls t)

  pub resting_filled : (ls : List Level) → 0 < length ls → length (first_queue ls) + resting (best_filled split ls) ≡ length (after_fills (split (lots_of (first_queue ls))) (first_queue ls)) + resting ls
  resting_filled [] h = absurd (omega arith)
  resting_filled (l ∷ ls) h = omega (arith, resting_kept l.price (after_fills (split (lots_of l.queue)) l.queue) ls)

  -- the first level, with v as its value, stays with w after its fills
  pub filled_stays : (ns : List (Node Price Held)) (v w : Held) → Some v ≡ option_map (λ n. n.value) (first ns) → queue_of w ≡ after_fills (split (lots_of (queue_of v))) (queue_of v) → 0 < length (queue_of w) → seen (value_set ns 0 w) ≡ best_filled split (seen ns)
  unfolding value_set
  filled_stays [] v w e q some = refl
  filled_stays (n ∷ ns) v w e q some =
      let same : v ≡ n.value = cc in
      let filled = q ∙ ap (λ (l : Held). after_fills (split (lots_of (queue_of l))) (queue_of l)) same in
      by_queue (queue_of w) refl ∙ ap (λ os. kept n.key.0 os (seen ns)) filled
    where
      by_queue : (os : List Resting) → queue_of w ≡ os → record { price = n.key.0; queue = queue_of w } ∷ seen ns ≡ kept n.key.0 (queue_of w) (seen ns)
      by_queue [] z = absurd (omega (arith, ap length z))
      by_queue (o ∷ os) z = ap (λ ys. record { price = n.key.0; queue = ys } ∷ seen ns) z ∙ sym (ap (λ ys. kept n.key.0 ys (seen ns)) z)

  -- or goes
  pub filled_gone : (ns : List (Node Price Held)) (v w : Held) → Some v ≡ option_map (λ n. n.value) (first ns) → queue_of w ≡ after_fills (split (lots_of (queue_of v))) (queue_of v) → length (queue_of w) ≡ 0 → seen (drop 1 (value_set ns 0 w)) ≡ best_filled split (seen ns)
  unfolding value_set
  filled_gone [] v w e q none = refl
  filled_gone (n ∷ ns) v w e q none =
      let same : v ≡ n.value = cc in
      let filled = sym (nil_from_length (queue_of w) none) ∙ q ∙ ap (λ (l : Held). after_fills (split (lots_of (queue_of l))) (queue_of l)) same in
      ap (λ os. kept n.key.0 os (seen ns)) filled

  -- levels, spare ones and the count after the first level's fills
  module _ (held : Kept Price Held) (spares memory orders : ℕ) (s : InStep held spares memory orders) (v w : Held) (some : 0 < length held.nodes)
      (e : Some v ≡ option_map (λ n. n.value) (first held.nodes)) (q : queue_of w ≡ after_fills (split (lots_of (queue_of v))) (queue_of v)) where
    counted_filled : (orders' : ℕ) → orders' + length (queue_of v) ≡ orders + length (queue_of w) → resting (best_filled split (seen held.nodes)) ≡ orders'
    counted_filled orders' fewer =
        let queue = first_queue_is held.nodes v e in
        omega (arith, s.counted, resting_filled (seen held.nodes) (omega (arith, length-map held.nodes seen_as)), ap length queue, ap (λ os. length (after_fills (split (lots_of os)) os)) queue, ap length q)

    pub stays_in_step : (orders' : ℕ) → orders' + length (queue_of v) ≡ orders + length (queue_of w) → 0 < length (queue_of w) → InStep (with_nodes held (value_set held.nodes 0 w)) spares memory orders'
    stays_in_step orders' fewer left =
        let shows = filled_stays held.nodes v w e q left in
        record {
          sound = sound_value_set by_price held 0 w s.sound;
          capacity = s.capacity;
          stand = ap standing shows ∙ standing_filled (seen held.nodes) s.stand;
          together = omega (arith, s.together, length_value_set by_price held.nodes 0 w);
          reserved = s.reserved;
          counted = sym (ap resting shows ∙ counted_filled orders' fewer);
          few = omega (arith, s.few, ap length q, length_after (split (lots_of (queue_of v))) (queue_of v));
        }

    pub goes_in_step : (held' : Kept Price Held) (spares' memory' orders' : ℕ) → orders' + length (queue_of v) ≡ orders + length (queue_of w) → length (queue_of w) ≡ 0 → Sound by_price held' → held'.capacity ≡ held.capacity → held'.nodes ≡ drop 1 (value_set held.nodes 0 w) → spares' ≡ spares + 1 → memory' ≡ memory → InStep held' spares' memory' orders'
    goes_in_step held' spares' memory' orders' fewer none sound cap nodes more same =
        let shows = ap seen nodes ∙ filled_gone held.nodes v w e q none in
        record {
          sound = sound;
          capacity = cap ∙ s.capacity;
          stand = ap standing shows ∙ standing_filled (seen held.nodes) s.stand;
          together = omega (arith, s.together, ap length nodes, length-drop 1 (value_set held.nodes 0 w), length_value_set by_price held.nodes 0 w);
          reserved = omega (arith, s.reserved);
          counted = sym (ap resting shows ∙ counted_filled orders' fewer);
          few = omega (arith, s.few);
        }
