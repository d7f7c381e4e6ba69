-- An order joins a level or opens one. Assumes nothing.
use Rattle.std.proofs.Common.{◌≡◌, ℕ, ◌+◌, ◌<◌, ◌≤◌, true, false, cond, ltb, List, [], ◌∷◌, ◌++◌, length, Some, None, sym, refl, ap, ◌∙◌, ⊎_elim, arith}
use Rattle.answers.specs.Answer.{answered, refused}
use Rattle.allocation.specs.Range.{tradable}
use Rattle.std.specs.Ordering.{is_lt, is_eq}
use Rattle.std.proofs.lemmas.List.{length_push, length-map}
use Rattle.std.proofs.lemmas.Bool.{and_from, cond-true, cond-false, cond_both, cases_Bool, lt-ltb, le-ltb, ltb-false, eqb-false, eqb-true}
use Rattle.ordered.specs.declared.node.Node.{Node}
use Rattle.ordered.specs.declared.key.price.Price.{Price}
use Rattle.ordered.specs.Order.{by_price}
use Rattle.ordered.specs.Row.{node_with, lookup, put, with_value, ascending}
use Rattle.ordered.specs.Kept.{Kept, Sound, with_nodes}
use Rattle.ordered.proofs.Ascends.{none_parts, ascending_parts}
use Rattle.ordered.proofs.Lookups.{length_put}
use Rattle.ordered.proofs.Values.{length_value, sound_value}
use Rattle.level.specs.declared.level.Level.{Level as Held}
use Rattle.level.specs.Queue.{queue_of}
use Rattle.fix.specs.declared.command.Side.{Side}
use Rattle.fix.specs.declared.command.Side.TheVariants.{Sell}
use Rattle.market.specs.declared.resting.Resting.{Resting}
use Rattle.market.specs.Market.{Level, better, resting}
use Rattle.market.specs.Put.{joins}
use Rattle.side.specs.Rank.{in_range}
use Rattle.side.specs.Refusal.{joining}
use Rattle.side.specs.Row.{seen_as, seen, standing, InStep}
use Rattle.side.proofs.Found.{none_there, value_here, value_later, head_less}
use Rattle.side.proofs.Ladder.{levels_few, less_is, same_is, same_choice, stands_from, stands_range, standing_head, standing_tail}

-- a new level
pub seen_put : (n : Node Price Held) (o : Resting) (ns : List (Node Price Held)) → queue_of n.value ≡ o ∷ [] → node_with by_price ns n.key ≡ None → seen (put by_price n ns) ≡ joins Sell n.key.0 o (seen ns)
unfolding put
seen_put n o [] q none = ap (λ ys. record { price = n.key.0; queue = ys } ∷ []) q
seen_put n o (x ∷ ns) q none =
    let parts = none_parts by_price x ns n.key none in
    let p = n.key.0 in
    let at : ℕ = x.key.0 in
    same_choice seen (is_lt (by_price x.key n.key)) (ltb at p) (x ∷ put by_price n ns) (n ∷ x ∷ ns) _ _ (less_is at p)
    (λ _. ap (λ ys. seen_as x ∷ ys) (seen_put n o ns q parts.1))
    (λ g.
    let apart = eqb-false at p (sym (same_is at p) ∙ parts.0) in
    let le : p ≤ at = ltb-false at p (sym (less_is at p) ∙ g) in
    ap (λ ys. record { price = p; queue = ys } ∷ seen (x ∷ ns)) q ∙ sym (cond-true (ltb p at) _ _ (lt-ltb p at (below at p le apart))))
  where
    below : (a b : ℕ) → b ≤ a → (a ≡ b → ⊥) → b < a
    below a b le ne = omega arith

-- one order more in a level that stands
pub seen_joined : (key : Price) (v w : Held) (o : Resting) (ns : List (Node Price Held)) → ascending by_price ns ≡ true → Some v ≡ lookup by_price ns key → queue_of w ≡ queue_of v ++ o ∷ [] → seen (with_value by_price ns key w) ≡ joins Sell key.0 o (seen ns)
unfolding with_value
seen_joined key v w o [] up e q = absurd (none_there key v e)
seen_joined key v w o (x ∷ ns) up e q =
    let p = key.0 in
    let at : ℕ = x.key.0 in
    let m : Node Price Held = record { key = x.key; value = w } in
    cond_both (is_eq (by_price x.key key)) (m ∷ ns) (x ∷ with_value by_price ns key w) (λ (ms : List (Node Price Held)). seen ms ≡ joins Sell p o (seen (x ∷ ns)))
    (λ t.
    let same : at ≡ p = eqb-true at p (sym (same_is at p) ∙ t) in
    ap (λ os. record { price = at; queue = os } ∷ seen ns) (q ∙ ap (λ (l : Held). queue_of l ++ o ∷ []) (value_here x ns key v t e))
    ∙ sym (cond-false (ltb p at) _ _ (le-ltb p at (omega arith)))
    ∙ sym (cond-false (ltb at p) _ _ (le-ltb at p (omega arith))))
    (λ f.
    let later = value_later x ns key v f e in
    let less : ltb at p ≡ true = sym (less_is at p) ∙ ap is_lt (head_less x ns key v up later) in
    ap (λ ys. seen_as x ∷ ys) (seen_joined key v w o ns (ascending_parts by_price x ns up).1 later q)
    ∙ sym (cond-true (ltb at p) _ _ less))

-- ---- what stands, and how much

pub standing_joins : (p : ℕ) (o : Resting) (ls : List Level) → in_range p ≡ true → standing ls ≡ true → standing (joins Sell p o ls) ≡ true
standing_joins p o [] r t = and_from _ _ (and_from _ _ r refl) refl
standing_joins p o (l ∷ ls) r t =
    let grown : Level = record { price = l.price; queue = l.queue ++ o ∷ [] } in
    let new : Level = record { price = p; queue = o ∷ [] } in
    let here = standing_head l ls t in
    cond_both (ltb l.price p) (l ∷ joins Sell p o ls) (cond (ltb p l.price) (new ∷ l ∷ ls) (grown ∷ ls)) (λ (ms : List Level). standing ms ≡ true)
    (λ _. and_from _ _ here (standing_joins p o ls r (standing_tail l ls t)))
    (λ _. cond_both (ltb p l.price) (new ∷ l ∷ ls) (grown ∷ ls) (λ (ms : List Level). standing ms ≡ true)
    (λ _. and_from _ _ (and_from _ _ r refl) t)
    (λ _. and_from _ _ (stands_from grown (stands_range l here) (omega (arith, length_push l.queue o))) (standing_tail l ls t)))

pub resting_joins : (s : Side) (p : ℕ) (o : Resting) (ls : List Level) → resting (joins s p o ls) ≡ resting ls + 1
resting_joins s p o [] = refl
resting_joins s p o (l ∷ ls) =
    let grown : Level = record { price = l.price; queue = l.queue ++ o ∷ [] } in
    let new : Level = record { price = p; queue = o ∷ [] } in
    cond_both (better s l.price p) (l ∷ joins s p o ls) (cond (better s p l.price) (new ∷ l ∷ ls) (grown ∷ ls)) (λ (ms : List Level). resting ms ≡ resting (l ∷ ls) + 1)
    (λ _. omega (arith, resting_joins s p o ls))
    (λ _. cond_both (better s p l.price) (new ∷ l ∷ ls) (grown ∷ ls) (λ (ms : List Level). resting ms ≡ resting (l ∷ ls) + 1)
    (λ _. omega arith)
    (λ _. omega (arith, length_push l.queue o)))

pub queue_short : (key : Price) (v : Held) (ns : List (Node Price Held)) → Some v ≡ lookup by_price ns key → length (queue_of v) ≤ resting (seen ns)
queue_short key v [] e = absurd (none_there key v e)
queue_short key v (x ∷ ns) e = ⊎_elim
    (λ (t : is_eq (by_price x.key key) ≡ true). let same = ap (λ (l : Held). length (queue_of l)) (value_here x ns key v t e) in omega arith)
    (λ (f : is_eq (by_price x.key key) ≡ false). omega (arith, queue_short key v ns (value_later x ns key v f e)))
    (cases_Bool (is_eq (by_price x.key key)))

-- ---- levels, spare ones and the count after it

module _ (held : Kept Price Held) (spares memory orders : ℕ) (s : InStep held spares memory orders) (key : Price) (o : Resting) where
  -- there is a spare level, and room in the map
  pub fewer : orders < 1024 → length held.nodes < 1024
  fewer h = omega (arith, s.counted, levels_few (seen held.nodes) s.stand, length-map held.nodes seen_as)

  pub joined_in_step : (v w : Held) → orders < 1024 → in_range key.0 ≡ true → Some v ≡ lookup by_price held.nodes key → queue_of w ≡ queue_of v ++ o ∷ [] → InStep (with_nodes held (with_value by_price held.nodes key w)) spares memory (orders + 1)
  joined_in_step v w h r e q =
      let shows = seen_joined key v w o held.nodes s.sound.ascends e q in
      record {
        sound = sound_value by_price held key w s.sound;
        capacity = s.capacity;
        stand = ap standing shows ∙ standing_joins key.0 o (seen held.nodes) r s.stand;
        together = omega (arith, s.together, length_value by_price held.nodes key w);
        reserved = s.reserved;
        counted = omega (arith, s.counted, ap resting shows, resting_joins Sell key.0 o (seen held.nodes));
        few = omega (arith, h);
      }

  pub opened_in_step : (held' : Kept Price Held) (spares' memory' : ℕ) (v : Held) → orders < 1024 → in_range key.0 ≡ true → node_with by_price held.nodes key ≡ None → queue_of v ≡ o ∷ [] → Sound by_price held' → held'.capacity ≡ held.capacity → held'.nodes ≡ put by_price (record { key = key; value = v }) held.nodes → spares' + 1 ≡ spares → memory' ≡ memory → InStep held' spares' memory' (orders + 1)
  opened_in_step held' spares' memory' v h r none q sound cap nodes fewer more =
      let n : Node Price Held = record { key = key; value = v } in
      let shows = ap seen nodes ∙ seen_put n o held.nodes q none in
      record {
        sound = sound;
        capacity = cap ∙ s.capacity;
        stand = ap standing shows ∙ standing_joins key.0 o (seen held.nodes) r s.stand;
        together = omega (arith, s.together, ap length nodes, length_put by_price n held.nodes);
        reserved = omega (arith, s.reserved);
        counted = omega (arith, s.counted, ap resting shows, resting_joins Sell key.0 o (seen held.nodes));
        few = omega (arith, h);
      }

-- ---- what is answered

joining_of : (p lots count : ℕ) → in_range p ≡ true → tradable lots ≡ true → joining p lots count ≡ cond (ltb count 1024) (answered tt) (refused 97 [])
joining_of p lots count r t = cond-true (in_range p) _ _ r ∙ cond-true (tradable lots) _ _ t

pub joining_full : (p lots count : ℕ) → in_range p ≡ true → tradable lots ≡ true → 1024 ≤ count → joining p lots count ≡ refused 97 []
joining_full p lots count r t full = joining_of p lots count r t ∙ cond-false (ltb count 1024) _ _ (le-ltb count 1024 full)

pub joining_fits : (p lots count : ℕ) → in_range p ≡ true → tradable lots ≡ true → count < 1024 → joining p lots count ≡ answered tt
joining_fits p lots count r t fits = joining_of p lots count r t ∙ cond-true (ltb count 1024) _ _ (lt-ltb count 1024 fits)
