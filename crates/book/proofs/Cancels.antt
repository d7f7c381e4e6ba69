-- An order that is taken out of its levels and out of the places.
use Rattle.std.proofs.Common.{◌≡◌, ℕ, ◌+◌, ◌<◌, ◌≤◌, Bool, true, false, cond, eqb, ◌⊎◌, List, [], ◌∷◌, length, Some, None, sym, refl, ap, ◌∙◌, inl, inr, ⊎_elim, arith}
use Rattle.std.proofs.lemmas.Bool.{cases_Bool, cases_eq, cases_lt, cond-true, cond-false, eq-eqb}
use Rattle.fix.specs.Command.{Cancel}
use Rattle.fix.specs.declared.command.Side.{Side}
use Rattle.fix.specs.declared.command.Side.TheVariants.{Buy, Sell}
use Rattle.ordered.specs.Order.{by_order_id}
use Rattle.ordered.specs.Row.{without, ascending}
use Rattle.ordered.specs.declared.key.order_id.OrderId.{OrderId}
use Rattle.ordered.specs.declared.node.Node.{Node}
use Rattle.market.specs.declared.resting.Resting.{Resting}
use Rattle.market.specs.Market.{Level, Market, is_of, in_levels, resting}
use Rattle.market.specs.Put.{kept, out_of_queue, out_of_levels, cancelled, put_cancel, put_cancel_at}
use Rattle.market.specs.Tally.{same_side}
use Rattle.market.proofs.Levels.{resting_kept}
use Rattle.book.specs.declared.place.Place.{Place}
use Rattle.book.specs.Place.{occurs, held, place_of, told}
use Rattle.book.proofs.Places.{is_id, not_id, place_without_same, place_without_other, told_most}
use Rattle.book.proofs.Known.{told_other}

-- whether two names are one
pub same_id : (j k : OrderId) → (j ≡ k) ⊎ (j ≡ k → ⊥)
same_id j k =
    let r : Resting = record { member = k.member; order = k.order; lots = 0 } in
    ⊎_elim
    (λ (t : is_of j.member j.order r ≡ true). inl (is_id j r t))
    (λ (f : is_of j.member j.order r ≡ false). inr (not_id j r f))
    (cases_Bool (is_of j.member j.order r))

-- ---- out of a queue

module _ (k : OrderId) where
  occurs_other : (j : OrderId) (q : List Resting) → (j ≡ k → ⊥) → occurs j (out_of_queue k.member k.order q) ≡ occurs j q
  occurs_other j [] ne = refl
  occurs_other j (r ∷ rs) ne =
      let out = out_of_queue k.member k.order rs in
      let b = is_of k.member k.order r in
      ⊎_elim
      (λ (t : b ≡ true).
      let e = ap (occurs j) (cond-true b rs (r ∷ out) t) in
      ⊎_elim
      (λ (u : is_of j.member j.order r ≡ true). absurd (ne (is_id j r u ∙ sym (is_id k r t))))
      (λ (u : is_of j.member j.order r ≡ false).
      let none : ◌≡◌ {A = ℕ} (cond (is_of j.member j.order r) 1 0) 0 = cond-false (is_of j.member j.order r) 1 0 u in
      omega arith)
      (cases_Bool (is_of j.member j.order r)))
      (λ (f : b ≡ false). let e = ap (occurs j) (cond-false b rs (r ∷ out) f) in omega (arith, occurs_other j rs ne))
      (cases_Bool b)

  occurs_same : (q : List Resting) → occurs k q ≤ 1 → occurs k (out_of_queue k.member k.order q) ≡ 0
  occurs_same [] h = refl
  occurs_same (r ∷ rs) h =
      let out = out_of_queue k.member k.order rs in
      let b = is_of k.member k.order r in
      ⊎_elim
      (λ (t : b ≡ true).
      let e = ap (occurs k) (cond-true b rs (r ∷ out) t) in
      let one : ◌≡◌ {A = ℕ} (cond b 1 0) 1 = cond-true b 1 0 t in
      omega arith)
      (λ (f : b ≡ false).
      let e = ap (occurs k) (cond-false b rs (r ∷ out) f) in
      let none : ◌≡◌ {A = ℕ} (cond b 1 0) 0 = cond-false b 1 0 f in
      let rest = occurs_same rs (omega arith) in
      omega arith)
      (cases_Bool b)

  length_one : (q : List Resting) → 0 < occurs k q → length (out_of_queue k.member k.order q) + 1 ≡ length q
  length_one [] h = absurd (omega arith)
  length_one (r ∷ rs) h =
      let out = out_of_queue k.member k.order rs in
      let b = is_of k.member k.order r in
      ⊎_elim
      (λ (t : b ≡ true). let e = ap length (cond-true b rs (r ∷ out) t) in omega arith)
      (λ (f : b ≡ false).
      let e = ap length (cond-false b rs (r ∷ out) f) in
      let none : ◌≡◌ {A = ℕ} (cond b 1 0) 0 = cond-false b 1 0 f in
      let rest = length_one rs (omega arith) in
      omega arith)
      (cases_Bool b)

  length_none : (q : List Resting) → occurs k q ≡ 0 → length (out_of_queue k.member k.order q) ≡ length q
  length_none [] h = refl
  length_none (r ∷ rs) h =
      let out = out_of_queue k.member k.order rs in
      let b = is_of k.member k.order r in
      ⊎_elim
      (λ (t : b ≡ true). let one : ◌≡◌ {A = ℕ} (cond b 1 0) 1 = cond-true b 1 0 t in absurd (omega arith))
      (λ (f : b ≡ false).
      let e = ap length (cond-false b rs (r ∷ out) f) in
      let rest = length_none rs (omega arith) in
      omega arith)
      (cases_Bool b)

-- ---- out of levels

held_kept : (j : OrderId) (p price : ℕ) (q : List Resting) (ls : List Level) → held j p (kept price q ls) ≡ cond (eqb price p) (occurs j q) 0 + held j p ls
held_kept j p price [] ls = omega (arith, none (eqb price p))
  where
    none : (b : Bool) → ◌≡◌ {A = ℕ} (cond b 0 0) 0
    none true = refl
    none false = refl
held_kept j p price (r ∷ rs) ls = refl

zero_either : (b : Bool) (n : ℕ) → cond b 0 0 + n ≡ n
zero_either true n = omega arith
zero_either false n = omega arith

module _ (k : OrderId) where
  pub held_other : (j : OrderId) (p : ℕ) (ls : List Level) → (j ≡ k → ⊥) → held j p (out_of_levels k.member k.order ls) ≡ held j p ls
  held_other j p [] ne = refl
  held_other j p (l ∷ ls) ne =
      held_kept j p l.price (out_of_queue k.member k.order l.queue) (out_of_levels k.member k.order ls)
      ∙ ap (λ n. cond (eqb l.price p) n 0 + held j p (out_of_levels k.member k.order ls)) (occurs_other k j l.queue ne)
      ∙ ap (λ n. cond (eqb l.price p) (occurs j l.queue) 0 + n) (held_other j p ls ne)

  pub held_same : (p : ℕ) (ls : List Level) → held k p ls ≤ 1 → held k p (out_of_levels k.member k.order ls) ≡ 0
  held_same p [] h = refl
  held_same p (l ∷ ls) h =
      let b = eqb l.price p in
      let q = l.queue in
      let out = out_of_queue k.member k.order q in
      let e = held_kept k p l.price out (out_of_levels k.member k.order ls) in
      let rest = held_same p ls (omega arith) in
      ⊎_elim
      (λ (t : b ≡ true).
      let was : cond b (occurs k q) 0 ≡ occurs k q = cond-true b _ _ t in
      let is : cond b (occurs k out) 0 ≡ occurs k out = cond-true b _ _ t in
      let none = occurs_same k q (omega arith) in
      omega arith)
      (λ (f : b ≡ false).
      let is : cond b (occurs k out) 0 ≡ 0 = cond-false b _ _ f in
      omega arith)
      (cases_Bool b)

  here : (l : Level) (ls : List Level) → held k l.price (l ∷ ls) ≡ occurs k l.queue + held k l.price ls
  here l ls = ap (λ n. n + held k l.price ls) (cond-true (eqb l.price l.price) (occurs k l.queue) 0 (eq-eqb l.price l.price refl))

  resting_none : (ls : List Level) → ((p : ℕ) → held k p ls ≡ 0) → resting (out_of_levels k.member k.order ls) ≡ resting ls
  resting_none [] none = refl
  resting_none (l ∷ ls) none =
      let e = resting_kept l.price (out_of_queue k.member k.order l.queue) (out_of_levels k.member k.order ls) in
      let z : occurs k l.queue ≡ 0 = omega (arith, here l ls, none l.price) in
      let rest = resting_none ls (λ p. omega (arith, none p)) in
      omega (arith, length_none k l.queue z)

  -- the order that stands once, at one price, is one less
  pub resting_one : (price : ℕ) (ls : List Level) → held k price ls ≡ 1 → ((p : ℕ) → (p ≡ price → ⊥) → held k p ls ≡ 0) → resting (out_of_levels k.member k.order ls) + 1 ≡ resting ls
  resting_one price [] one only = absurd (omega arith)
  resting_one price (l ∷ ls) one only =
      let e = resting_kept l.price (out_of_queue k.member k.order l.queue) (out_of_levels k.member k.order ls) in
      ⊎_elim
      (λ (some : 0 < occurs k l.queue).
      let there : l.price ≡ price = ⊎_elim
      (λ (same : l.price ≡ price). same)
      (λ (ne : l.price ≡ price → ⊥). absurd (omega (arith, here l ls, only l.price ne)))
      (cases_eq l.price price) in
      let first : held k price (l ∷ ls) ≡ occurs k l.queue + held k price ls = ap (λ p. held k p (l ∷ ls)) (sym there) ∙ here l ls ∙ ap (λ p. occurs k l.queue + held k p ls) there in
      let left : held k price ls ≡ 0 = omega arith in
      let none : (p : ℕ) → held k p ls ≡ 0 = λ p. ⊎_elim
      (λ (same : p ≡ price). ap (λ n. held k n ls) same ∙ left)
      (λ (ne : p ≡ price → ⊥). omega (arith, only p ne))
      (cases_eq p price) in
      omega (arith, length_one k l.queue some, resting_none ls none))
      (λ (none : occurs k l.queue ≤ 0).
      let z : occurs k l.queue ≡ 0 = omega arith in
      let first : held k price (l ∷ ls) ≡ held k price ls = ap (λ n. cond (eqb l.price price) n 0 + held k price ls) z ∙ zero_either (eqb l.price price) (held k price ls) in
      let rest = resting_one price ls (sym first ∙ one) (λ p ne. omega (arith, only p ne)) in
      omega (arith, length_none k l.queue z))
      (cases_lt 0 (occurs k l.queue))

-- ---- out of the places

module _ (k : OrderId) (ns : List (Node OrderId Place)) (up : ascending by_order_id ns ≡ true) where
  -- the side on which it rested
  pub told_cut : (s : Side) (ls : List Level) → ((j : OrderId) (p : ℕ) → held j p ls ≡ told (place_of ns j) s p) → (j : OrderId) (p : ℕ) → held j p (out_of_levels k.member k.order ls) ≡ told (place_of (without by_order_id ns k) j) s p
  told_cut s ls old j p = ⊎_elim
      (λ (e : j ≡ k).
      ap (λ i. held i p (out_of_levels k.member k.order ls)) e
      ∙ held_same k p ls (omega (arith, old k p, told_most (place_of ns k) s p))
      ∙ sym (ap (λ i. told (place_of (without by_order_id ns k) i) s p) e ∙ ap (λ o. told o s p) (place_without_same ns k up)))
      (λ (ne : j ≡ k → ⊥). held_other k j p ls ne ∙ old j p ∙ ap (λ o. told o s p) (sym (place_without_other ns k j ne)))
      (same_id j k)

  -- the other side
  pub told_stays : (place : Place) → place_of ns k ≡ Some place → (s : Side) (ls : List Level) → same_side place.side s ≡ false → ((j : OrderId) (p : ℕ) → held j p ls ≡ told (place_of ns j) s p) → (j : OrderId) (p : ℕ) → held j p ls ≡ told (place_of (without by_order_id ns k) j) s p
  told_stays place is s ls off old j p = ⊎_elim
      (λ (e : j ≡ k).
      old j p
      ∙ ap (λ i. told (place_of ns i) s p) e
      ∙ ap (λ o. told o s p) is
      ∙ told_other place s p off
      ∙ sym (ap (λ i. told (place_of (without by_order_id ns k) i) s p) e ∙ ap (λ o. told o s p) (place_without_same ns k up)))
      (λ (ne : j ≡ k → ⊥). old j p ∙ ap (λ o. told o s p) (sym (place_without_other ns k j ne)))
      (same_id j k)

-- ---- what a cancel comes to

module _ (c : Cancel) (m : Market) where
  pub cancel_none : in_levels c.member c.order m.buys ≡ None → in_levels c.member c.order m.sells ≡ None → put_cancel c m ≡ put_cancel_at c m None None
  cancel_none b s =
      ap (λ o. put_cancel_at c m o (in_levels c.member c.order m.sells)) b
      ∙ ap (put_cancel_at c m None) s

  pub cancel_buy : (r : Resting) → in_levels c.member c.order m.buys ≡ Some r → put_cancel c m ≡ cancelled c Buy r m
  cancel_buy r b = ap (λ o. put_cancel_at c m o (in_levels c.member c.order m.sells)) b

  pub cancel_sell : (r : Resting) → in_levels c.member c.order m.buys ≡ None → in_levels c.member c.order m.sells ≡ Some r → put_cancel c m ≡ cancelled c Sell r m
  cancel_sell r b s =
      ap (λ o. put_cancel_at c m o (in_levels c.member c.order m.sells)) b
      ∙ ap (put_cancel_at c m None) s
