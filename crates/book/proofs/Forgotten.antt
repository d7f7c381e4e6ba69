-- Places of orders that were filled whole are taken out.
use Rattle.std.proofs.Common.{◌≡◌, ℕ, zero, suc, ◌+◌, ◌-◌, ◌<◌, ◌≤◌, Bool, true, false, cond, ◌&&◌, eqb, ltb, List, [], ◌∷◌, ◌++◌, length, is_some, Some, None, Option, sym, refl, ap, ◌∙◌, subst, ⊎_elim, arith}
use Rattle.std.proofs.lemmas.Bool.{cases_Bool, cases_lt, cond-true, cond-false, lt-ltb, le-ltb, eq-eqb, ne_eqb}
use Rattle.allocation.specs.Range.{all_tradable}
use Rattle.fix.specs.Command.{NewOrder}
use Rattle.fix.specs.declared.command.Side.{Side}
use Rattle.ordered.specs.Order.{by_order_id}
use Rattle.ordered.specs.Row.{without, ascending}
use Rattle.ordered.specs.declared.key.order_id.OrderId.{OrderId}
use Rattle.ordered.specs.declared.node.Node.{Node}
use Rattle.ordered.proofs.Ascends.{ascending_without}
use Rattle.std.specs.List.{AllZip}
use Rattle.level.proofs.Queues.{first_tradable, rest_tradable, tradable_least}
use Rattle.market.specs.declared.entry.Entry.{Entry}
use Rattle.market.specs.declared.resting.Resting.{Resting}
use Rattle.market.specs.Market.{lots_of, is_of, other}
use Rattle.market.specs.Put.{less, after_fills, of_fill, of_fills}
use Rattle.market.specs.Tally.{same_side}
use Rattle.book.specs.declared.place.Place.{Place}
use Rattle.book.specs.Place.{occurs, place_of, is_gone, id_of, forgotten}
use Rattle.book.proofs.Places.{id, is_id, id_is, not_id, place_without_same, place_without_other, length_less, same_itself, other_same}

pub forgotten_append : (side : Side) (es fs : List Entry) (ns : List (Node OrderId Place)) → forgotten side (es ++ fs) ns ≡ forgotten side fs (forgotten side es ns)
forgotten_append side [] fs ns = refl
forgotten_append side (e ∷ es) fs ns = forgotten_append side es fs (cond (is_gone side e.event) (without by_order_id ns (id_of e)) ns)

-- the orders of a queue that their fills take out of it
pub gone : List ℕ → List Resting → List Resting
gone [] q = []
gone (f ∷ fs) [] = []
gone (f ∷ fs) (r ∷ q) = cond (ltb f r.lots) (gone fs q) (r ∷ gone fs q)

-- whether an order has a place, as a number
abbrev pub present : Option Place → ℕ
present None = 0
present (Some place) = 1

pub present_some : (o : Option Place) → 0 < present o → is_some o ≡ true
present_some None h = absurd (omega arith)
present_some (Some p) h = refl

pub present_most : (o : Option Place) → present o ≤ 1
present_most None = omega arith
present_most (Some p) = omega arith

-- an order stands in the rest of its queue, or is gone
pub occurs_after : (k : OrderId) (fs : List ℕ) (q : List Resting) → AllZip ◌≤◌ fs (lots_of q) → occurs k (after_fills fs q) + occurs k (gone fs q) ≡ occurs k q
unfolding gone
occurs_after k [] [] w = refl
occurs_after k [] (r ∷ q) w = absurd w
occurs_after k (f ∷ fs) [] w = absurd w
occurs_after k (f ∷ fs) (r ∷ q) w =
    let rest = occurs_after k fs q w.1 in
    ⊎_elim
    (λ (h : f < r.lots).
    let a = ap (occurs k) (cond-true (ltb f r.lots) (less r f ∷ after_fills fs q) (after_fills fs q) (lt-ltb f r.lots h)) in
    let b = ap (occurs k) (cond-true (ltb f r.lots) (gone fs q) (r ∷ gone fs q) (lt-ltb f r.lots h)) in
    omega arith)
    (λ (h : r.lots ≤ f).
    let a = ap (occurs k) (cond-false (ltb f r.lots) (less r f ∷ after_fills fs q) (after_fills fs q) (le-ltb f r.lots h)) in
    let b = ap (occurs k) (cond-false (ltb f r.lots) (gone fs q) (r ∷ gone fs q) (le-ltb f r.lots h)) in
    omega arith)
    (cases_lt f r.lots)

pub length_gone : (fs : List ℕ) (q : List Resting) → AllZip ◌≤◌ fs (lots_of q) → length (after_fills fs q) + length (gone fs q) ≡ length q
unfolding gone
length_gone [] [] w = refl
length_gone [] (r ∷ q) w = absurd w
length_gone (f ∷ fs) [] w = absurd w
length_gone (f ∷ fs) (r ∷ q) w =
    let rest = length_gone fs q w.1 in
    ⊎_elim
    (λ (h : f < r.lots).
    let a = ap length (cond-true (ltb f r.lots) (less r f ∷ after_fills fs q) (after_fills fs q) (lt-ltb f r.lots h)) in
    let b = ap length (cond-true (ltb f r.lots) (gone fs q) (r ∷ gone fs q) (lt-ltb f r.lots h)) in
    omega arith)
    (λ (h : r.lots ≤ f).
    let a = ap length (cond-false (ltb f r.lots) (less r f ∷ after_fills fs q) (after_fills fs q) (le-ltb f r.lots h)) in
    let b = ap length (cond-false (ltb f r.lots) (gone fs q) (r ∷ gone fs q) (le-ltb f r.lots h)) in
    omega arith)
    (cases_lt f r.lots)

-- the places of some orders are taken out, and no others
pub record Forgets (out : List Resting) (ns ns' : List (Node OrderId Place)) : Type 0 where
  pub ascends : ascending by_order_id ns' ≡ true
  pub places : (k : OrderId) → place_of ns' k ≡ cond (ltb 0 (occurs k out)) None (place_of ns k)
  pub count : length ns' + length out ≡ length ns

none_gone : (ns : List (Node OrderId Place)) → ascending by_order_id ns ≡ true → Forgets [] ns ns
none_gone ns up = record { ascends = up; places = λ k. refl; count = omega arith }

cond_none : (b : Bool) → ◌≡◌ {A = Option Place} (cond b None None) None
cond_none true = refl
cond_none false = refl

-- one order is gone, and then the others
one_gone : (r : Resting) (out : List Resting) (ns ns' : List (Node OrderId Place)) → ascending by_order_id ns ≡ true → is_some (place_of ns (id r)) ≡ true → Forgets out (without by_order_id ns (id r)) ns' → Forgets (r ∷ out) ns ns'
one_gone r out ns ns' up there rest = record {
  ascends = rest.ascends;
  places = λ k. ⊎_elim (here k) (elsewhere k) (cases_Bool (is_of k.member k.order r));
  count = omega (arith, rest.count, length_less ns (id r) there);
}
  where
    here : (k : OrderId) → is_of k.member k.order r ≡ true → place_of ns' k ≡ cond (ltb 0 (occurs k (r ∷ out))) None (place_of ns k)
    here k t =
        let counts : ◌≡◌ {A = ℕ} (cond (is_of k.member k.order r) 1 0) 1 = cond-true (is_of k.member k.order r) 1 0 t in
        let one : 0 < occurs k (r ∷ out) = omega arith in
        rest.places k
        ∙ ap (λ (p : Option Place). cond (ltb 0 (occurs k out)) None p) (ap (place_of (without by_order_id ns (id r))) (is_id k r t) ∙ place_without_same ns (id r) up)
        ∙ cond_none (ltb 0 (occurs k out))
        ∙ sym (cond-true (ltb 0 (occurs k (r ∷ out))) None (place_of ns k) (lt-ltb 0 (occurs k (r ∷ out)) one))

    elsewhere : (k : OrderId) → is_of k.member k.order r ≡ false → place_of ns' k ≡ cond (ltb 0 (occurs k (r ∷ out))) None (place_of ns k)
    elsewhere k f =
        let counts : ◌≡◌ {A = ℕ} (cond (is_of k.member k.order r) 1 0) 0 = cond-false (is_of k.member k.order r) 1 0 f in
        let same : occurs k (r ∷ out) ≡ occurs k out = omega arith in
        rest.places k
        ∙ ap (λ (p : Option Place). cond (ltb 0 (occurs k out)) None p) (place_without_other ns (id r) k (not_id k r f))
        ∙ ap (λ n. cond (ltb 0 n) None (place_of ns k)) (sym same)

module _ (o : NewOrder) (price : ℕ) where
  -- the entries of a fill take out the resting order's place where nothing is left of it, and no other
  of_one : (f left : ℕ) (r : Resting) (es : List Entry) (ns : List (Node OrderId Place)) → 0 < f → forgotten (other o.side) (of_fill o price f left r ++ es) ns ≡ forgotten (other o.side) es (cond (eqb (r.lots - f) 0) (without by_order_id ns (id r)) ns)
  of_one zero left r es ns h = absurd (omega arith)
  of_one (suc f) left r es ns h =
      let ms = cond (eqb (r.lots - suc f) 0) (without by_order_id ns (id r)) ns in
      ap (λ b. forgotten (other o.side) es (cond (same_side o.side (other o.side) && eqb (left - suc f) 0) (without by_order_id (cond (b && eqb (r.lots - suc f) 0) (without by_order_id ns (id r)) ns) (record { order = o.order; member = o.member })) (cond (b && eqb (r.lots - suc f) 0) (without by_order_id ns (id r)) ns))) (same_itself (other o.side))
      ∙ ap (λ b. forgotten (other o.side) es (cond (b && eqb (left - suc f) 0) (without by_order_id ms (record { order = o.order; member = o.member })) ms)) (other_same o.side)

  none_of : (f left : ℕ) (r : Resting) (es : List Entry) (ns : List (Node OrderId Place)) → f ≤ 0 → forgotten (other o.side) (of_fill o price f left r ++ es) ns ≡ forgotten (other o.side) es ns
  none_of zero left r es ns h = refl
  none_of (suc f) left r es ns h = absurd (omega arith)

  pub forget_queue : (left : ℕ) (fs : List ℕ) (q : List Resting) (ns : List (Node OrderId Place)) → AllZip ◌≤◌ fs (lots_of q) → all_tradable (lots_of q) ≡ true → ascending by_order_id ns ≡ true → ((k : OrderId) → occurs k q ≤ present (place_of ns k)) → Forgets (gone fs q) ns (forgotten (other o.side) (of_fills o price left fs q) ns)
  unfolding gone
  forget_queue left [] q ns w a up there = none_gone ns up
  forget_queue left (f ∷ fs) [] ns w a up there = absurd w
  forget_queue left (f ∷ fs) (r ∷ q) ns w a up there =
      let some : 1 ≤ r.lots = tradable_least r.lots (first_tradable r q a) in
      let rest : List Entry = of_fills o price (left - f) fs q in
      let later : (k : OrderId) → occurs k q ≤ present (place_of ns k) = λ k. omega (arith, there k) in
      ⊎_elim
      (λ (h : f < r.lots).
      let stays : gone (f ∷ fs) (r ∷ q) ≡ gone fs q = cond-true (ltb f r.lots) (gone fs q) (r ∷ gone fs q) (lt-ltb f r.lots h) in
      let more = forget_queue (left - f) fs q ns w.1 (rest_tradable r q a) up later in
      let same : forgotten (other o.side) (of_fill o price f left r ++ rest) ns ≡ forgotten (other o.side) rest ns = ⊎_elim
      (λ (z : 0 < f). of_one f left r rest ns z ∙ ap (λ b. forgotten (other o.side) rest (cond b (without by_order_id ns (id r)) ns)) (ne_eqb (r.lots - f) 0 (λ e. omega arith)))
      (λ (z : f ≤ 0). none_of f left r rest ns z)
      (cases_lt 0 f) in
      subst (λ ms. Forgets (gone (f ∷ fs) (r ∷ q)) ns ms) (sym same) (subst (λ out. Forgets out ns (forgotten (other o.side) rest ns)) (sym stays) more))
      (λ (h : r.lots ≤ f).
      let goes : gone (f ∷ fs) (r ∷ q) ≡ r ∷ gone fs q = cond-false (ltb f r.lots) (gone fs q) (r ∷ gone fs q) (le-ltb f r.lots h) in
      let mine = there (id r) in
      let counts : ◌≡◌ {A = ℕ} (cond (is_of r.member r.order r) 1 0) 1 = cond-true (is_of r.member r.order r) 1 0 (id_is r) in
      let here : is_some (place_of ns (id r)) ≡ true = present_some (place_of ns (id r)) (omega arith) in
      let out : List (Node OrderId Place) = without by_order_id ns (id r) in
      let still : (k : OrderId) → occurs k q ≤ present (place_of out k) = λ k. ⊎_elim
      (λ (t : is_of k.member k.order r ≡ true).
      let one : ◌≡◌ {A = ℕ} (cond (is_of k.member k.order r) 1 0) 1 = cond-true (is_of k.member k.order r) 1 0 t in
      omega (arith, there k, present_most (place_of ns k)))
      (λ (e : is_of k.member k.order r ≡ false). omega (arith, later k, ap present (place_without_other ns (id r) k (not_id k r e))))
      (cases_Bool (is_of k.member k.order r)) in
      let more = forget_queue (left - f) fs q out w.1 (rest_tradable r q a) (ascending_without by_order_id ns (id r) up) still in
      let same : forgotten (other o.side) (of_fill o price f left r ++ rest) ns ≡ forgotten (other o.side) rest out = of_one f left r rest ns (omega arith) ∙ ap (λ b. forgotten (other o.side) rest (cond b out ns)) (eq-eqb (r.lots - f) 0 (omega arith)) in
      subst (λ ms. Forgets (gone (f ∷ fs) (r ∷ q)) ns ms) (sym same) (subst (λ rs. Forgets rs ns (forgotten (other o.side) rest out)) (sym goes) (one_gone r (gone fs q) ns (forgotten (other o.side) rest out) up here more)))
      (cases_lt f r.lots)
