-- An order that has a place rests on one side, and one that has none rests nowhere.
use Rattle.std.proofs.Common.{◌≡◌, ℕ, ◌<◌, Bool, true, false, cond, ◌&&◌, eqb, ◌⊎◌, List, [], ◌∷◌, is_some, Some, None, Option, sym, refl, ap, ◌∙◌, inl, inr, ⊎_elim, arith}
use Rattle.std.specs.Option.{option_map}
use Rattle.std.proofs.lemmas.Bool.{cases_Bool, cond-true, cond-false, eq-eqb, ne_eqb, or_from, or_left, or_right, false≢true}
use Rattle.fix.specs.declared.command.Side.{Side}
use Rattle.fix.specs.declared.command.Side.TheVariants.{Buy, Sell}
use Rattle.ordered.specs.Order.{by_order_id}
use Rattle.ordered.specs.declared.key.order_id.OrderId.{OrderId}
use Rattle.ordered.specs.declared.node.Node.{Node}
use Rattle.ordered.proofs.Lookups.{node_none}
use Rattle.market.specs.declared.resting.Resting.{Resting}
use Rattle.market.specs.Market.{Level, is_of, in_queue, in_levels, or_else, known}
use Rattle.market.specs.Tally.{same_side}
use Rattle.book.specs.declared.place.Place.{Place}
use Rattle.book.specs.Place.{occurs, held, place_of, told}
use Rattle.book.proofs.Places.{same_itself}

pub option_cases : {A : Type 0} (o : Option A) → (o ≡ None) ⊎ ((x : A) × (o ≡ Some x))
option_cases None = inl refl
option_cases (Some x) = inr (x, refl)

pub none_from : {A : Type 0} (o : Option A) → is_some o ≡ false → o ≡ None
none_from None e = refl
none_from (Some x) e = absurd (false≢true (sym e))

-- ---- in a queue, and in levels

pub in_queue_none : (k : OrderId) (q : List Resting) → in_queue k.member k.order q ≡ None → occurs k q ≡ 0
in_queue_none k [] e = refl
in_queue_none k (r ∷ rs) e = ⊎_elim
    (λ (t : is_of k.member k.order r ≡ true).
    absurd (false≢true (sym (ap is_some (sym (cond-true (is_of k.member k.order r) (Some r) (in_queue k.member k.order rs) t) ∙ e)))))
    (λ (t : is_of k.member k.order r ≡ false).
    let here : ◌≡◌ {A = ℕ} (cond (is_of k.member k.order r) 1 0) 0 = cond-false (is_of k.member k.order r) 1 0 t in
    let rest = in_queue_none k rs (sym (cond-false (is_of k.member k.order r) (Some r) (in_queue k.member k.order rs) t) ∙ e) in
    omega arith)
    (cases_Bool (is_of k.member k.order r))

pub in_queue_some : (k : OrderId) (q : List Resting) (x : Resting) → in_queue k.member k.order q ≡ Some x → 0 < occurs k q
in_queue_some k [] x e = absurd (false≢true (ap is_some e))
in_queue_some k (r ∷ rs) x e = ⊎_elim
    (λ (t : is_of k.member k.order r ≡ true).
    let here : ◌≡◌ {A = ℕ} (cond (is_of k.member k.order r) 1 0) 1 = cond-true (is_of k.member k.order r) 1 0 t in
    omega arith)
    (λ (t : is_of k.member k.order r ≡ false).
    omega (arith, in_queue_some k rs x (sym (cond-false (is_of k.member k.order r) (Some r) (in_queue k.member k.order rs) t) ∙ e)))
    (cases_Bool (is_of k.member k.order r))

cond_zero : (b : Bool) (n : ℕ) → n ≡ 0 → cond b n 0 ≡ 0
cond_zero true n e = e
cond_zero false n e = refl

pub in_levels_none : (k : OrderId) (p : ℕ) (ls : List Level) → in_levels k.member k.order ls ≡ None → held k p ls ≡ 0
in_levels_none k p [] e = refl
in_levels_none k p (l ∷ ls) e = ⊎_elim
    (λ (n : in_queue k.member k.order l.queue ≡ None).
    let rest = in_levels_none k p ls (ap (λ o. or_else o (in_levels k.member k.order ls)) (sym n) ∙ e) in
    omega (arith, cond_zero (eqb l.price p) (occurs k l.queue) (in_queue_none k l.queue n)))
    (λ (s : (x : Resting) × (in_queue k.member k.order l.queue ≡ Some x)).
    absurd (false≢true (sym (ap is_some (ap (λ o. or_else o (in_levels k.member k.order ls)) (sym s.1) ∙ e)))))
    (option_cases (in_queue k.member k.order l.queue))

pub in_levels_some : (k : OrderId) (ls : List Level) (r : Resting) → in_levels k.member k.order ls ≡ Some r → (p : ℕ) × (0 < held k p ls)
in_levels_some k [] r e = absurd (false≢true (ap is_some e))
in_levels_some k (l ∷ ls) r e = ⊎_elim
    (λ (n : in_queue k.member k.order l.queue ≡ None).
    let more = in_levels_some k ls r (ap (λ o. or_else o (in_levels k.member k.order ls)) (sym n) ∙ e) in
    (more.0, omega (arith, more.1)))
    (λ (s : (x : Resting) × (in_queue k.member k.order l.queue ≡ Some x)).
    let here : cond (eqb l.price l.price) (occurs k l.queue) 0 ≡ occurs k l.queue = cond-true (eqb l.price l.price) _ _ (eq-eqb _ _ refl) in
    (l.price, omega (arith, in_queue_some k l.queue s.0 s.1)))
    (option_cases (in_queue k.member k.order l.queue))

-- ---- what a place tells of its own side and price, and of others

pub told_itself : (place : Place) (s : Side) → place.side ≡ s → told (Some place) s place.price ≡ 1
told_itself place s e =
    let p = place.price in
    cond-true (same_side place.side s && eqb p p) 1 0
    (ap (λ t. same_side t s && eqb p p) e ∙ ap (λ b. b && eqb p p) (same_itself s) ∙ eq-eqb _ _ refl)

pub told_off : (place : Place) (s : Side) (p : ℕ) → (p ≡ place.price → ⊥) → told (Some place) s p ≡ 0
told_off place s p ne = off (same_side place.side s) (eqb place.price p) (ne_eqb _ _ (λ e. ne (sym e)))
  where
    off : (a b : Bool) → b ≡ false → ◌≡◌ {A = ℕ} (cond (a && b) 1 0) 0
    off true b e = ap (λ c. cond c 1 0) e
    off false b e = refl

pub told_other : (place : Place) (s : Side) (p : ℕ) → same_side place.side s ≡ false → told (Some place) s p ≡ 0
told_other place s p e = ap (λ b. cond (b && eqb place.price p) 1 0) e

module _ (k : OrderId) (o : Option Place) (s : Side) (ls : List Level) (tells : (p : ℕ) → held k p ls ≡ told o s p) where
  pub absent : ((p : ℕ) → told o s p ≡ 0) → in_levels k.member k.order ls ≡ None
  absent none = ⊎_elim
      (λ (n : in_levels k.member k.order ls ≡ None). n)
      (λ (y : (x : Resting) × (in_levels k.member k.order ls ≡ Some x)).
      let m = in_levels_some k ls y.0 y.1 in
      absurd (omega (arith, m.1, tells m.0, none m.0)))
      (option_cases (in_levels k.member k.order ls))

  pub found : (p : ℕ) → told o s p ≡ 1 → is_some (in_levels k.member k.order ls) ≡ true
  found p one = ⊎_elim
      (λ (z : in_levels k.member k.order ls ≡ None). absurd (omega (arith, in_levels_none k p ls z, tells p)))
      (λ (y : (x : Resting) × (in_levels k.member k.order ls ≡ Some x)). ap is_some y.1)
      (option_cases (in_levels k.member k.order ls))

pub known_is : (k : OrderId) (o : Option Place) (bs ss : List Level) → ((p : ℕ) → held k p bs ≡ told o Buy p) → ((p : ℕ) → held k p ss ≡ told o Sell p) → known k.member k.order (record { buys = bs; sells = ss }) ≡ is_some o
known_is k None bs ss bought sold = or_from
    (is_some (in_levels k.member k.order bs))
    (is_some (in_levels k.member k.order ss))
    (ap is_some (absent k None Buy bs bought (λ p. refl)))
    (ap is_some (absent k None Sell ss sold (λ p. refl)))
known_is k (Some place) bs ss bought sold = on place.side refl
  where
    on : (s : Side) → place.side ≡ s → known k.member k.order (record { buys = bs; sells = ss }) ≡ true
    on Buy e = or_left (is_some (in_levels k.member k.order bs)) _ (found k (Some place) Buy bs bought place.price (told_itself place Buy e))
    on Sell e = or_right (is_some (in_levels k.member k.order bs)) _ (found k (Some place) Sell ss sold place.price (told_itself place Sell e))

-- where nothing rests and no place is kept, they agree
pub none_placed : (ls : List Level) (ns : List (Node OrderId Place)) → ls ≡ [] → ns ≡ [] → (k : OrderId) (s : Side) (p : ℕ) → held k p ls ≡ told (place_of ns k) s p
none_placed ls ns empty none k s p =
    let nowhere : place_of [] k ≡ None = ap (option_map (λ (n : Node OrderId Place). n.value)) (node_none {V = Place} by_order_id k) in
    ap (held k p) empty ∙ sym (ap (λ ms. told (place_of ms k) s p) none ∙ ap (λ o. told o s p) nowhere)
