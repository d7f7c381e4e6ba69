-- An order joins the levels of its side.
use Rattle.std.proofs.Common.{◌≡◌, ℕ, ◌+◌, Bool, true, false, cond, ◌&&◌, eqb, List, [], ◌∷◌, ◌++◌, None, Option, sym, refl, ap, ◌∙◌, ⊎_elim, arith}
use Rattle.std.proofs.lemmas.List.{length_push}
use Rattle.std.proofs.lemmas.Bool.{cases_Bool, cond-true, cond-false, ltb-false}
use Rattle.fix.specs.declared.command.Side.{Side}
use Rattle.fix.specs.declared.command.Side.TheVariants.{Buy, Sell}
use Rattle.ordered.specs.Order.{by_order_id}
use Rattle.ordered.specs.Row.{put}
use Rattle.ordered.specs.declared.key.order_id.OrderId.{OrderId}
use Rattle.ordered.specs.declared.node.Node.{Node}
use Rattle.ordered.proofs.Lookups.{length_put}
use Rattle.market.specs.declared.resting.Resting.{Resting}
use Rattle.market.specs.Market.{Level, is_of, better, other, resting}
use Rattle.market.specs.Put.{joins}
use Rattle.book.specs.declared.place.Place.{Place}
use Rattle.book.specs.Place.{occurs, held, place_of, told}
use Rattle.book.specs.Step.{Placed, Together}
use Rattle.book.proofs.Places.{id, is_id, not_id, place_put_same, place_put_other, same_itself, other_same}

occurs_push : (k : OrderId) (q : List Resting) (r : Resting) → occurs k (q ++ r ∷ []) ≡ occurs k q + cond (is_of k.member k.order r) 1 0
occurs_push k [] r = omega arith
occurs_push k (x ∷ q) r = omega (arith, occurs_push k q r)

-- neither price is better
same_price : (side : Side) (a b : ℕ) → better side a b ≡ false → better side b a ≡ false → a ≡ b
same_price Buy a b e f = omega (arith, ltb-false b a e, ltb-false a b f)
same_price Sell a b e f = omega (arith, ltb-false a b e, ltb-false b a f)

-- what an order adds at a price
abbrev pub added : OrderId → ℕ → ℕ → Resting → ℕ
added k p price r = cond (eqb price p) (cond (is_of k.member k.order r) 1 0) 0

cond_sum : (b : Bool) (m n : ℕ) → cond b (m + n) 0 ≡ cond b m 0 + cond b n 0
cond_sum true m n = refl
cond_sum false m n = omega arith

module _ (side : Side) (price : ℕ) (r : Resting) where
  pub held_joined : (k : OrderId) (p : ℕ) (ls : List Level) → held k p (joins side price r ls) ≡ held k p ls + added k p price r
  held_joined k p [] = alone (eqb price p)
    where
      alone : (b : Bool) → cond b (cond (is_of k.member k.order r) 1 0 + 0) 0 + 0 ≡ 0 + cond b (cond (is_of k.member k.order r) 1 0) 0
      alone true = omega arith
      alone false = omega arith
  held_joined k p (l ∷ ls) = by (held_joined k p ls)
    where
      new : Level
      new = record { price = price; queue = r ∷ [] }

      grown : Level
      grown = record { price = l.price; queue = l.queue ++ r ∷ [] }

      at_new : (b : Bool) → cond b (cond (is_of k.member k.order r) 1 0 + 0) 0 ≡ cond b (cond (is_of k.member k.order r) 1 0) 0
      at_new true = omega arith
      at_new false = refl

      by : held k p (joins side price r ls) ≡ held k p ls + added k p price r → held k p (joins side price r (l ∷ ls)) ≡ held k p (l ∷ ls) + added k p price r
      by more = ⊎_elim
          (λ (t : better side l.price price ≡ true). let e = ap (held k p) (cond-true (better side l.price price) (l ∷ joins side price r ls) (cond (better side price l.price) (record { price = price; queue = r ∷ [] } ∷ (l ∷ ls)) (record { price = l.price; queue = l.queue ++ r ∷ [] } ∷ ls)) t) in omega arith)
          (λ (f : better side l.price price ≡ false). ap (held k p) (cond-false (better side l.price price) (l ∷ joins side price r ls) (cond (better side price l.price) (record { price = price; queue = r ∷ [] } ∷ (l ∷ ls)) (record { price = l.price; queue = l.queue ++ r ∷ [] } ∷ ls)) f) ∙ ⊎_elim
          (λ (t : better side price l.price ≡ true). let e = ap (held k p) (cond-true (better side price l.price) (record { price = price; queue = r ∷ [] } ∷ (l ∷ ls)) (record { price = l.price; queue = l.queue ++ r ∷ [] } ∷ ls) t) in omega (arith, at_new (eqb price p)))
          (λ (g : better side price l.price ≡ false).
          let e = ap (held k p) (cond-false (better side price l.price) (record { price = price; queue = r ∷ [] } ∷ (l ∷ ls)) (record { price = l.price; queue = l.queue ++ r ∷ [] } ∷ ls) g) in
          let at = same_price side l.price price f g in
          let here : cond (eqb l.price p) (occurs k (l.queue ++ r ∷ [])) 0 ≡ cond (eqb l.price p) (occurs k l.queue) 0 + cond (eqb l.price p) (cond (is_of k.member k.order r) 1 0) 0 = ap (λ n. cond (eqb l.price p) n 0) (occurs_push k l.queue r) ∙ cond_sum (eqb l.price p) (occurs k l.queue) (cond (is_of k.member k.order r) 1 0) in
          let one : cond (eqb l.price p) (cond (is_of k.member k.order r) 1 0) 0 ≡ added k p price r = ap (λ n. cond (eqb n p) (cond (is_of k.member k.order r) 1 0) 0) at in
          omega arith)
          (cases_Bool (better side price l.price)))
          (cases_Bool (better side l.price price))

  pub resting_joined : (ls : List Level) → resting (joins side price r ls) ≡ resting ls + 1
  resting_joined [] = refl
  resting_joined (l ∷ ls) = by (resting_joined ls)
    where
      by : resting (joins side price r ls) ≡ resting ls + 1 → resting (joins side price r (l ∷ ls)) ≡ resting (l ∷ ls) + 1
      by more = ⊎_elim
          (λ (t : better side l.price price ≡ true). let e = ap resting (cond-true (better side l.price price) (l ∷ joins side price r ls) (cond (better side price l.price) (record { price = price; queue = r ∷ [] } ∷ (l ∷ ls)) (record { price = l.price; queue = l.queue ++ r ∷ [] } ∷ ls)) t) in omega arith)
          (λ (f : better side l.price price ≡ false). ap resting (cond-false (better side l.price price) (l ∷ joins side price r ls) (cond (better side price l.price) (record { price = price; queue = r ∷ [] } ∷ (l ∷ ls)) (record { price = l.price; queue = l.queue ++ r ∷ [] } ∷ ls)) f) ∙ ⊎_elim
          (λ (t : better side price l.price ≡ true). let e = ap resting (cond-true (better side price l.price) (record { price = price; queue = r ∷ [] } ∷ (l ∷ ls)) (record { price = l.price; queue = l.queue ++ r ∷ [] } ∷ ls) t) in omega arith)
          (λ (g : better side price l.price ≡ false). let e = ap resting (cond-false (better side price l.price) (record { price = price; queue = r ∷ [] } ∷ (l ∷ ls)) (record { price = l.price; queue = l.queue ++ r ∷ [] } ∷ ls) g) in omega (arith, length_push l.queue r))
          (cases_Bool (better side price l.price)))
          (cases_Bool (better side l.price price))

-- the new order has its place
pub joined_together : (place : Place) (r : Resting) (ls : List Level) (ns : List (Node OrderId Place)) → Placed place.side ls ns → place_of ns (id r) ≡ None → Together place.side ls (joins place.side place.price r ls) ns (put by_order_id (record { key = id r; value = place }) ns)
joined_together place r ls ns placed new = record {
  placed = λ k p. ⊎_elim (mine k p) (not_mine k p) (cases_Bool (is_of k.member k.order r));
  others = λ k p. ⊎_elim (others_mine k p) (others_not k p) (cases_Bool (is_of k.member k.order r));
  count = omega (arith, length_put by_order_id n ns, resting_joined place.side place.price r ls);
}
  where
    n : Node OrderId Place
    n = record { key = id r; value = place }

    mine : (k : OrderId) (p : ℕ) → is_of k.member k.order r ≡ true → held k p (joins place.side place.price r ls) ≡ told (place_of (put by_order_id (record { key = id r; value = place }) ns) k) place.side p
    mine k p t =
        let none : held k p ls ≡ 0 = placed k p ∙ ap (λ x. told (place_of ns x) place.side p) (is_id k r t) ∙ ap (λ (o : Option Place). told o place.side p) new in
        let one : added k p place.price r ≡ cond (eqb place.price p) 1 0 = ap (λ b. cond (eqb place.price p) (cond b 1 0) 0) t in
        let there : told (place_of (put by_order_id (record { key = id r; value = place }) ns) k) place.side p ≡ cond (eqb place.price p) 1 0 = ap (λ x. told (place_of (put by_order_id (record { key = id r; value = place }) ns) x) place.side p) (is_id k r t) ∙ ap (λ (o : Option Place). told o place.side p) (place_put_same ns (record { key = id r; value = place })) ∙ ap (λ b. cond (b && eqb place.price p) 1 0) (same_itself place.side) in
        omega (arith, held_joined place.side place.price r k p ls)

    not_mine : (k : OrderId) (p : ℕ) → is_of k.member k.order r ≡ false → held k p (joins place.side place.price r ls) ≡ told (place_of (put by_order_id (record { key = id r; value = place }) ns) k) place.side p
    not_mine k p f =
        let one : added k p place.price r ≡ 0 = ap (λ b. cond (eqb place.price p) (cond b 1 0) 0) f ∙ nothing (eqb place.price p) in
        let there = ap (λ (o : Option Place). told o place.side p) (place_put_other ns (record { key = id r; value = place }) k (not_id k r f)) in
        omega (arith, held_joined place.side place.price r k p ls, placed k p)
      where
        nothing : (b : Bool) → ◌≡◌ {A = ℕ} (cond b 0 0) 0
        nothing true = refl
        nothing false = refl

    others_mine : (k : OrderId) (p : ℕ) → is_of k.member k.order r ≡ true → told (place_of (put by_order_id (record { key = id r; value = place }) ns) k) (other place.side) p ≡ told (place_of ns k) (other place.side) p
    others_mine k p t =
        ap (λ x. told (place_of (put by_order_id (record { key = id r; value = place }) ns) x) (other place.side) p) (is_id k r t)
        ∙ ap (λ (o : Option Place). told o (other place.side) p) (place_put_same ns (record { key = id r; value = place }))
        ∙ ap (λ b. cond (b && eqb place.price p) 1 0) (other_same place.side)
        ∙ sym (ap (λ x. told (place_of ns x) (other place.side) p) (is_id k r t) ∙ ap (λ (o : Option Place). told o (other place.side) p) new)

    others_not : (k : OrderId) (p : ℕ) → is_of k.member k.order r ≡ false → told (place_of (put by_order_id (record { key = id r; value = place }) ns) k) (other place.side) p ≡ told (place_of ns k) (other place.side) p
    others_not k p f = ap (λ (o : Option Place). told o (other place.side) p) (place_put_other ns (record { key = id r; value = place }) k (not_id k r f))
