-- Levels and places while an incoming order meets the levels.
use Rattle.std.proofs.Common.{◌≡◌, ℕ, zero, suc, ◌+◌, ◌-◌, ◌<◌, ◌≤◌, Bool, true, false, cond, eqb, ltb, List, [], ◌∷◌, ◌++◌, length, Some, None, Option, sym, refl, ap, ◌∙◌, subst, ⊎_elim, arith}
use Rattle.std.proofs.lemmas.Bool.{cases_Bool, cases_lt, cond-true, cond-false, lt-ltb, le-ltb, eqb-true, eqb-false, eq-eqb}
use Rattle.fix.specs.Command.{NewOrder}
use Rattle.fix.specs.declared.command.Side.{Side}
use Rattle.ordered.specs.Order.{by_order_id}
use Rattle.ordered.specs.Row.{ascending}
use Rattle.ordered.specs.declared.key.order_id.OrderId.{OrderId}
use Rattle.ordered.specs.declared.node.Node.{Node}
use Rattle.std.specs.List.{AllZip}
use Rattle.market.specs.declared.entry.Entry.{Entry}
use Rattle.market.specs.declared.resting.Resting.{Resting}
use Rattle.market.specs.Market.{Level, lots_of, total, crosses, other, resting}
use Rattle.market.proofs.Levels.{resting_kept}
use Rattle.market.specs.Put.{Met, meets, after_fills, kept, of_fills}
use Rattle.book.specs.declared.place.Place.{Place}
use Rattle.book.specs.Place.{occurs, held, place_of, told, forgotten}
use Rattle.book.proofs.Forgotten.{Forgets, forgotten_append, gone, present, occurs_after, length_gone, forget_queue}
use Rattle.book.proofs.Places.{told_most, told_one_price, told_one_side}
use Rattle.std.specs.List.{AllByRecursion}
use Rattle.side.specs.Shape.{InLots}

pub held_kept : (k : OrderId) (p price : ℕ) (q : List Resting) (ls : List Level) → held k p (kept price q ls) ≡ cond (eqb price p) (occurs k q) 0 + held k p ls
held_kept k p price [] ls = none (eqb price p)
  where
    none : (b : Bool) → held k p ls ≡ cond b 0 0 + held k p ls
    none true = omega arith
    none false = omega arith
held_kept k p price (r ∷ q) ls = refl

told_present : (o : Option Place) (side : Side) (price : ℕ) → told o side price ≤ present o
told_present None side price = omega arith
told_present (Some place) side price = told_most (Some place) side price

module _ (o : NewOrder) where
  -- Orders beyond these levels are counted by `beyond`.
  pub record Passed (beyond : OrderId → ℕ → ℕ) (ls : List Level) (ns : List (Node OrderId Place)) (met : Met) : Type 0 where
    pub placed : (k : OrderId) (p : ℕ) → beyond k p + held k p met.levels ≡ told (place_of (forgotten (other o.side) met.entries ns) k) (other o.side) p
    pub others : (k : OrderId) (p : ℕ) → told (place_of (forgotten (other o.side) met.entries ns) k) (other (other o.side)) p ≡ told (place_of ns k) (other (other o.side)) p
    pub count : length (forgotten (other o.side) met.entries ns) + resting ls ≡ length ns + resting met.levels

  -- nothing happens
  idle : (beyond : OrderId → ℕ → ℕ) (left : ℕ) (ls : List Level) (ns : List (Node OrderId Place)) → ((k : OrderId) (p : ℕ) → beyond k p + held k p ls ≡ told (place_of ns k) (other o.side) p) → Passed beyond ls ns (record { left = left; levels = ls; entries = [] })
  idle beyond left ls ns placed = record { placed = placed; others = λ k p. refl; count = refl }

  -- one level is filled
  module _ (beyond : OrderId → ℕ → ℕ) (price : ℕ) (fs : List ℕ) (q : List Resting) (ls : List Level) (ns ns' : List (Node OrderId Place))
      (fit : AllZip ◌≤◌ fs (lots_of q))
      (placed : (k : OrderId) (p : ℕ) → beyond k p + held k p (record { price = price; queue = q } ∷ ls) ≡ told (place_of ns k) (other o.side) p)
      (forgets : Forgets (gone fs q) ns ns') where
    here : (k : OrderId) → cond (eqb price price) (occurs k q) 0 ≡ occurs k q
    here k = cond-true (eqb price price) (occurs k q) 0 (eq-eqb price price refl)

    -- an order that is gone stood there and nowhere else
    only : (k : OrderId) → 0 < occurs k (gone fs q) → (beyond k price ≡ 0) × (occurs k (after_fills fs q) ≡ 0) × (held k price ls ≡ 0) × (told (place_of ns k) (other o.side) price ≡ 1)
    only k h =
        let a = placed k price in
        let b = told_most (place_of ns k) (other o.side) price in
        let c = occurs_after k fs q fit in
        let d = here k in
        (omega arith, omega arith, omega arith, omega arith)

    pub placed_after : (k : OrderId) (p : ℕ) → (beyond k p + cond (eqb price p) (occurs k (after_fills fs q)) 0) + held k p ls ≡ told (place_of ns' k) (other o.side) p
    placed_after k p = ⊎_elim
        (λ (h : 0 < occurs k (gone fs q)).
        let nowhere : told (place_of ns' k) (other o.side) p ≡ 0 = ap (λ (x : Option Place). told x (other o.side) p) (forgets.places k ∙ cond-true (ltb 0 (occurs k (gone fs q))) None (place_of ns k) (lt-ltb 0 (occurs k (gone fs q)) h)) in
        let alone = only k h in
        ⊎_elim
        (λ (t : eqb price p ≡ true).
        let at = eqb-true price p t in
        let left : cond (eqb price p) (occurs k (after_fills fs q)) 0 ≡ occurs k (after_fills fs q) = cond-true (eqb price p) (occurs k (after_fills fs q)) 0 t in
        let x = ap (λ n. beyond k n + held k n ls) (sym at) in
        omega (arith, alone.0, alone.1, alone.2))
        (λ (f : eqb price p ≡ false).
        let left : cond (eqb price p) (occurs k (after_fills fs q)) 0 ≡ 0 = cond-false (eqb price p) (occurs k (after_fills fs q)) 0 f in
        let before : cond (eqb price p) (occurs k q) 0 ≡ 0 = cond-false (eqb price p) (occurs k q) 0 f in
        omega (arith, placed k p, alone.3, told_one_price (place_of ns k) (other o.side) price p (eqb-false price p f)))
        (cases_Bool (eqb price p)))
        (λ (h : occurs k (gone fs q) ≤ 0).
        let stays : told (place_of ns' k) (other o.side) p ≡ told (place_of ns k) (other o.side) p = ap (λ (x : Option Place). told x (other o.side) p) (forgets.places k ∙ cond-false (ltb 0 (occurs k (gone fs q))) None (place_of ns k) (le-ltb 0 (occurs k (gone fs q)) h)) in
        let all : occurs k (after_fills fs q) ≡ occurs k q = omega (arith, occurs_after k fs q fit) in
        let same : cond (eqb price p) (occurs k (after_fills fs q)) 0 ≡ cond (eqb price p) (occurs k q) 0 = ap (λ n. cond (eqb price p) n 0) all in
        omega (arith, placed k p))
        (cases_lt 0 (occurs k (gone fs q)))

    pub others_after : (k : OrderId) (p : ℕ) → told (place_of ns' k) (other (other o.side)) p ≡ told (place_of ns k) (other (other o.side)) p
    others_after k p = ⊎_elim
        (λ (h : 0 < occurs k (gone fs q)).
        let nowhere : told (place_of ns' k) (other (other o.side)) p ≡ 0 = ap (λ (x : Option Place). told x (other (other o.side)) p) (forgets.places k ∙ cond-true (ltb 0 (occurs k (gone fs q))) None (place_of ns k) (lt-ltb 0 (occurs k (gone fs q)) h)) in
        omega (arith, (only k h).3, told_one_side (place_of ns k) (other o.side) price p))
        (λ (h : occurs k (gone fs q) ≤ 0). ap (λ (x : Option Place). told x (other (other o.side)) p) (forgets.places k ∙ cond-false (ltb 0 (occurs k (gone fs q))) None (place_of ns k) (le-ltb 0 (occurs k (gone fs q)) h)))
        (cases_lt 0 (occurs k (gone fs q)))

  module _ (split : ℕ → List ℕ → List ℕ) (fitting : (q : ℕ) (ls : List ℕ) → AllZip ◌≤◌ (split q ls) ls) where
    pub passed : (beyond : OrderId → ℕ → ℕ) (left : ℕ) (ls : List Level) (ns : List (Node OrderId Place)) → AllByRecursion InLots ls → ascending by_order_id ns ≡ true → ((k : OrderId) (p : ℕ) → beyond k p + held k p ls ≡ told (place_of ns k) (other o.side) p) → Passed beyond ls ns (meets split o left ls)
    passed beyond left [] ns t up placed = idle beyond left [] ns placed
    passed beyond zero (l ∷ ls) ns t up placed = idle beyond 0 (l ∷ ls) ns placed
    passed beyond (suc left) (l ∷ ls) ns t up placed =
        let price = l.price in
        let q = l.queue in
        let fs : List ℕ = split (suc left) (lots_of q) in
        let es : List Entry = of_fills o price (suc left) fs q in
        let ns' : List (Node OrderId Place) = forgotten (other o.side) es ns in
        let there : (k : OrderId) → occurs k q ≤ present (place_of ns k) = λ k. let e : cond (eqb price price) (occurs k q) 0 ≡ occurs k q = cond-true (eqb price price) (occurs k q) 0 (eq-eqb price price refl) in omega (arith, placed k price, told_present (place_of ns k) (other o.side) price) in
        let forgets = forget_queue o price (suc left) fs q ns (fitting (suc left) (lots_of q)) t.0 up there in
        let after : OrderId → ℕ → ℕ = λ k p. beyond k p + cond (eqb price p) (occurs k (after_fills fs q)) 0 in
        let rest : Met = meets split o (suc left - total fs) ls in
        let more = passed after (suc left - total fs) ls ns' t.1 forgets.ascends (placed_after beyond price fs q ls ns ns' (fitting (suc left) (lots_of q)) placed forgets) in
        let both : forgotten (other o.side) (es ++ rest.entries) ns ≡ forgotten (other o.side) rest.entries ns' = forgotten_append (other o.side) es rest.entries ns in
        ⊎_elim
        (λ (c : crosses o.side o.price price ≡ true).
        subst (Passed beyond (l ∷ ls) ns) (sym (cond-true (crosses o.side o.price price) _ _ c))
        (record {
          placed = λ k p. omega (arith, held_kept k p price (after_fills fs q) rest.levels, more.placed k p, ap (λ ms. told (place_of ms k) (other o.side) p) both);
          others = λ k p. ap (λ ms. told (place_of ms k) (other (other o.side)) p) both ∙ more.others k p ∙ others_after beyond price fs q ls ns ns' (fitting (suc left) (lots_of q)) placed forgets k p;
          count = omega (arith, ap length both, more.count, forgets.count, length_gone fs q (fitting (suc left) (lots_of q)), resting_kept price (after_fills fs q) rest.levels);
        }))
        (λ (c : crosses o.side o.price price ≡ false).
        subst (Passed beyond (l ∷ ls) ns) (sym (cond-false (crosses o.side o.price price) _ _ c)) (idle beyond (suc left) (l ∷ ls) ns placed))
        (cases_Bool (crosses o.side o.price price))
