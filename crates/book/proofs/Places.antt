-- Places of orders: how often an order stands in queues and levels, and what a map of places tells of it.
use Rattle.std.proofs.Common.{◌≡◌, ℕ, ◌+◌, ◌≤◌, Bool, true, false, cond, ◌&&◌, eqb, List, length, is_some, Some, None, Option, sym, refl, ap, ◌∙◌, arith}
use Rattle.std.specs.Option.{option_map}
use Rattle.std.proofs.lemmas.Bool.{and_parts, and_from, eqb-true, eq-eqb, true≢false}
use Rattle.fix.specs.declared.command.Side.{Side}
use Rattle.fix.specs.declared.command.Side.TheVariants.{Buy, Sell}
use Rattle.ordered.specs.Order.{by_order_id}
use Rattle.ordered.specs.Row.{node_with, put, without, ascending}
use Rattle.ordered.specs.declared.key.order_id.OrderId.{OrderId}
use Rattle.ordered.specs.declared.node.Node.{Node}
use Rattle.ordered.proofs.Lookups.{node_put_same, node_put_other, node_without_same, node_without_other, length_without}
use Rattle.ordered.proofs.Orders.{order_id_total, ne_from}
use Rattle.market.specs.declared.resting.Resting.{Resting}
use Rattle.market.specs.Market.{is_of, other}
use Rattle.market.specs.Tally.{same_side}
use Rattle.book.specs.declared.place.Place.{Place}
use Rattle.book.specs.Place.{place_of, told}

-- ---- an order by its name

abbrev pub id : Resting → OrderId
id r = record { order = r.order; member = r.member }

pub is_id : (k : OrderId) (r : Resting) → is_of k.member k.order r ≡ true → k ≡ id r
is_id k r e =
    let both = and_parts (eqb r.member k.member) (eqb r.order k.order) e in
    let made : ℕ → ℕ → OrderId = λ m o. record { order = o; member = m } in
    ap (λ m. made m k.order) (sym (eqb-true _ _ both.0)) ∙ ap (made r.member) (sym (eqb-true _ _ both.1))

pub id_is : (r : Resting) → is_of (id r).member (id r).order r ≡ true
id_is r = and_from (eqb r.member r.member) (eqb r.order r.order) (eq-eqb _ _ refl) (eq-eqb _ _ refl)

pub not_id : (k : OrderId) (r : Resting) → is_of k.member k.order r ≡ false → k ≡ id r → ⊥
not_id k r f e = true≢false (sym (ap (λ x. is_of x.member x.order r) e ∙ id_is r) ∙ f)

-- ---- places after a change

module _ (ns : List (Node OrderId Place)) where
  pub place_put_same : (n : Node OrderId Place) → place_of (put by_order_id n ns) n.key ≡ Some n.value
  place_put_same n = ap (option_map (λ (m : Node OrderId Place). m.value)) (node_put_same by_order_id order_id_total n ns)

  pub place_put_other : (n : Node OrderId Place) (k : OrderId) → (k ≡ n.key → ⊥) → place_of (put by_order_id n ns) k ≡ place_of ns k
  place_put_other n k ne = ap (option_map (λ (m : Node OrderId Place). m.value)) (node_put_other by_order_id n ns k (ne_from by_order_id order_id_total n.key k ne))

  pub place_without_same : (k : OrderId) → ascending by_order_id ns ≡ true → place_of (without by_order_id ns k) k ≡ None
  place_without_same k up = ap (option_map (λ (m : Node OrderId Place). m.value)) (node_without_same by_order_id order_id_total ns k up)

  pub place_without_other : (k other : OrderId) → (other ≡ k → ⊥) → place_of (without by_order_id ns k) other ≡ place_of ns other
  place_without_other k other ne = ap (option_map (λ (m : Node OrderId Place). m.value)) (node_without_other by_order_id order_id_total ns k other (ne_from by_order_id order_id_total k other ne))

  pub node_there : (o : Option (Node OrderId Place)) → is_some (option_map (λ (m : Node OrderId Place). m.value) o) ≡ is_some o
  node_there None = refl
  node_there (Some n) = refl

  pub length_less : (k : OrderId) → is_some (place_of ns k) ≡ true → length (without by_order_id ns k) + 1 ≡ length ns
  length_less k e = length_without by_order_id ns k (sym (node_there (node_with by_order_id ns k)) ∙ e)

-- ---- what a place tells

one_or_none : (b : Bool) → cond b 1 0 ≤ 1
one_or_none true = omega arith
one_or_none false = omega arith

pub told_most : (o : Option Place) (side : Side) (price : ℕ) → told o side price ≤ 1
told_most None side price = omega arith
told_most (Some place) side price = one_or_none (same_side place.side side && eqb place.price price)

pub same_from : (a b : Side) → same_side a b ≡ true → a ≡ b
same_from Buy Buy e = refl
same_from Buy Sell e = absurd (true≢false (sym e))
same_from Sell Buy e = absurd (true≢false (sym e))
same_from Sell Sell e = refl

pub same_itself : (a : Side) → same_side a a ≡ true
same_itself Buy = refl
same_itself Sell = refl

pub other_same : (a : Side) → same_side a (other a) ≡ false
other_same Buy = refl
other_same Sell = refl

-- an order that a place tells to stand somewhere stands nowhere else
at_once : (b c d : Bool) → (b ≡ true → c ≡ true → d ≡ true → ⊥) → cond (b && c) 1 0 + cond (b && d) 1 0 ≤ 1
at_once true true true h = absurd (h refl refl refl)
at_once true true false h = omega arith
at_once true false d h = omega (arith, one_or_none d)
at_once false c d h = omega arith

pub told_one_price : (o : Option Place) (side : Side) (p q : ℕ) → (p ≡ q → ⊥) → told o side p + told o side q ≤ 1
told_one_price None side p q ne = omega arith
told_one_price (Some place) side p q ne =
    at_once (same_side place.side side) (eqb place.price p) (eqb place.price q) (λ b c d. ne (sym (eqb-true _ _ c) ∙ eqb-true _ _ d))

apart_sides : (a b : Side) (c d : Bool) → cond (same_side a b && c) 1 0 + cond (same_side a (other b) && d) 1 0 ≤ 1
apart_sides Buy Buy c d = omega (arith, one_or_none c)
apart_sides Buy Sell c d = omega (arith, one_or_none d)
apart_sides Sell Buy c d = omega (arith, one_or_none d)
apart_sides Sell Sell c d = omega (arith, one_or_none c)

pub told_one_side : (o : Option Place) (side : Side) (p q : ℕ) → told o side p + told o (other side) q ≤ 1
told_one_side None side p q = omega arith
told_one_side (Some place) side p q = apart_sides place.side side (eqb place.price p) (eqb place.price q)
