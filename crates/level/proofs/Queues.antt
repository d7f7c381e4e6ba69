-- What is kept of a queue where an order is looked for, joins, leaves or is filled.
use Rattle.std.proofs.Common.{◌≡◌, ℕ, suc, ◌+◌, ◌-◌, ◌*◌, ◌<◌, ◌≤◌, Bool, true, false, not, cond, ltb, leb, List, [], ◌∷◌, ◌++◌, length, get_or, Some, None, MatchOption, sum, sym, refl, ap, ◌∙◌, ⊎_elim, arith}
use Rattle.std.specs.List.{AllZip, remove, position_or_len}
use Rattle.std.proofs.lemmas.List.Sums.{sum_by-cons}
use Rattle.std.proofs.lemmas.Bool.{cond-true, cond-false, cases_Bool, and_parts, and_from, leb-true, le-leb, lt-ltb, le-ltb, ltb-true, ltb-false, cases_lt}
use Rattle.allocation.specs.Range.{tradable, all_tradable}
use Rattle.market.specs.declared.resting.Resting.{Resting}
use Rattle.market.specs.Market.{lots_of, total, is_of, in_queue}
use Rattle.market.specs.Put.{less, after_fills, out_of_queue}

-- ---- looking for an order

module _ (member order : ℕ) where
  -- where it stands, or the length
  abbrev pub place : List Resting → ℕ
  place q = position_or_len (is_of member order) q

  module _ (r : Resting) (rs : List Resting) where
    next : suc (place rs) ≡ 1 + place rs
    next = omega arith

    in_step : (b : Bool) (d : Resting) → (place rs < length rs → in_queue member order rs ≡ Some (get_or rs (place rs) d)) → cond (not b) (1 + place rs) 0 < suc (length rs) → cond b (Some r) (in_queue member order rs) ≡ Some (get_or (r ∷ rs) (cond (not b) (1 + place rs) 0) d)
    in_step true d later h = refl
    in_step false d later h = later (omega arith) ∙ ap (λ k. Some (get_or (r ∷ rs) k d)) next

    out_step : (b : Bool) → (place rs < length rs → remove rs (place rs) ≡ out_of_queue member order rs) → cond (not b) (1 + place rs) 0 < suc (length rs) → remove (r ∷ rs) (cond (not b) (1 + place rs) 0) ≡ cond b rs (r ∷ out_of_queue member order rs)
    out_step true later h = refl
    out_step false later h = ap (remove (r ∷ rs)) (sym next) ∙ ap (λ xs. r ∷ xs) (later (omega arith))

    none_step : (b : Bool) → (length rs ≤ place rs → (in_queue member order rs ≡ None) × (out_of_queue member order rs ≡ rs)) → suc (length rs) ≤ cond (not b) (1 + place rs) 0 → (cond b (Some r) (in_queue member order rs) ≡ None) × (cond b rs (r ∷ out_of_queue member order rs) ≡ r ∷ rs)
    none_step true later h = absurd (omega arith)
    none_step false later h = let more = later (omega arith) in (more.0, ap (λ xs. r ∷ xs) more.1)

  pub in_place : (q : List Resting) (d : Resting) → place q < length q → in_queue member order q ≡ Some (get_or q (place q) d)
  in_place [] d h = absurd (omega arith)
  in_place (r ∷ rs) d h = in_step r rs (is_of member order r) d (in_place rs d) h

  pub out_place : (q : List Resting) → place q < length q → remove q (place q) ≡ out_of_queue member order q
  out_place [] h = absurd (omega arith)
  out_place (r ∷ rs) h = out_step r rs (is_of member order r) (out_place rs) h

  pub none_there : (q : List Resting) → length q ≤ place q → (in_queue member order q ≡ None) × (out_of_queue member order q ≡ q)
  none_there [] h = (refl, refl)
  none_there (r ∷ rs) h = none_step r rs (is_of member order r) (none_there rs) h

  -- what the search answers, by cases
  pub placed : (q : List Resting) (b : Bool) → ltb (place q) (length q) ≡ b → MatchOption (cond b (Some (place q)) None) ((in_queue member order q ≡ None) × (out_of_queue member order q ≡ q)) (λ i. (i < length q) × (remove q i ≡ out_of_queue member order q) × ((d : Resting) → in_queue member order q ≡ Some (get_or q i d)))
  placed q true e = let h = ltb-true (place q) (length q) e in (h, out_place q h, λ d. in_place q d h)
  placed q false e = none_there q (ltb-false (place q) (length q) e)

-- ---- lots together, and in range

pub total_sum : (ls : List ℕ) → total ls ≡ sum ls
total_sum [] = refl
total_sum (l ∷ ls) = ap (λ n. l + n) (total_sum ls) ∙ sym (sum_by-cons (λ x. x) l ls)

pub lots_append : (xs ys : List Resting) → lots_of (xs ++ ys) ≡ lots_of xs ++ lots_of ys
lots_append [] ys = refl
lots_append (x ∷ xs) ys = ap (λ ls. x.lots ∷ ls) (lots_append xs ys)

pub total_joined : (q : List Resting) (r : Resting) → total (lots_of (q ++ r ∷ [])) ≡ total (lots_of q) + r.lots
total_joined [] r = omega arith
total_joined (x ∷ q) r = omega (arith, total_joined q r)

pub first_tradable : (r : Resting) (q : List Resting) → all_tradable (lots_of (r ∷ q)) ≡ true → tradable r.lots ≡ true
first_tradable r q a = (and_parts (tradable r.lots) (all_tradable (lots_of q)) a).0

pub rest_tradable : (r : Resting) (q : List Resting) → all_tradable (lots_of (r ∷ q)) ≡ true → all_tradable (lots_of q) ≡ true
rest_tradable r q a = (and_parts (tradable r.lots) (all_tradable (lots_of q)) a).1

pub tradable_joined : (q : List Resting) (r : Resting) → all_tradable (lots_of q) ≡ true → tradable r.lots ≡ true → all_tradable (lots_of (q ++ r ∷ [])) ≡ true
tradable_joined [] r a t = and_from (tradable r.lots) true t refl
tradable_joined (x ∷ q) r a t =
    and_from (tradable x.lots) (all_tradable (lots_of (q ++ r ∷ []))) (first_tradable x q a) (tradable_joined q r (rest_tradable x q a) t)

pub tradable_from : (n : ℕ) → 1 ≤ n → n ≤ 999999 → tradable n ≡ true
tradable_from n a b = and_from (leb 1 n) (leb n 999999) (le-leb 1 n a) (le-leb n 999999 b)

pub tradable_least : (n : ℕ) → tradable n ≡ true → 1 ≤ n
tradable_least n t = leb-true 1 n (and_parts (leb 1 n) (leb n 999999) t).0

pub tradable_most : (n : ℕ) → tradable n ≡ true → n ≤ 999999
tradable_most n t = leb-true n 999999 (and_parts (leb 1 n) (leb n 999999) t).1

pub total_most : (q : List Resting) → all_tradable (lots_of q) ≡ true → total (lots_of q) ≤ 999999 * length q
total_most [] a = omega arith
total_most (r ∷ q) a = omega (arith, tradable_most r.lots (first_tradable r q a), total_most q (rest_tradable r q a))

-- ---- an order that leaves

module _ (member order : ℕ) where
  pub total_out : (q : List Resting) (r : Resting) → in_queue member order q ≡ Some r → total (lots_of (out_of_queue member order q)) + r.lots ≡ total (lots_of q)
  total_out [] r e = absurd (let z : ◌≡◌ {A = ℕ} 0 1 = cc in omega arith)
  total_out (x ∷ q) r e = ⊎_elim here (later (total_out q r)) (cases_Bool (is_of member order x))
    where
      here : is_of member order x ≡ true → total (lots_of (out_of_queue member order (x ∷ q))) + r.lots ≡ total (lots_of (x ∷ q))
      here t =
          let same : x.lots ≡ r.lots = let some : Some x ≡ Some r = sym (cond-true _ _ _ t) ∙ e in cc in
          let left : total (lots_of (out_of_queue member order (x ∷ q))) ≡ total (lots_of q) = ap (λ xs. total (lots_of xs)) (cond-true (is_of member order x) q _ t) in
          omega arith

      later : (in_queue member order q ≡ Some r → total (lots_of (out_of_queue member order q)) + r.lots ≡ total (lots_of q)) → is_of member order x ≡ false → total (lots_of (out_of_queue member order (x ∷ q))) + r.lots ≡ total (lots_of (x ∷ q))
      later more f =
          let rest = more (sym (cond-false _ _ _ f) ∙ e) in
          let left : total (lots_of (out_of_queue member order (x ∷ q))) ≡ x.lots + total (lots_of (out_of_queue member order q)) = ap (λ xs. total (lots_of xs)) (cond-false (is_of member order x) q _ f) in
          omega arith

  pub tradable_out : (q : List Resting) → all_tradable (lots_of q) ≡ true → all_tradable (lots_of (out_of_queue member order q)) ≡ true
  tradable_out [] a = refl
  tradable_out (x ∷ q) a =
      ⊎_elim
      (λ (t : is_of member order x ≡ true). ap (λ xs. all_tradable (lots_of xs)) (cond-true (is_of member order x) q _ t) ∙ rest_tradable x q a)
      (λ (f : is_of member order x ≡ false). ap (λ xs. all_tradable (lots_of xs)) (cond-false (is_of member order x) q _ f) ∙ and_from (tradable x.lots) (all_tradable (lots_of (out_of_queue member order q))) (first_tradable x q a) (tradable_out q (rest_tradable x q a)))
      (cases_Bool (is_of member order x))

-- ---- fills that are taken off

-- fills as a policy's laws have them, by places
pub fits_from : (fs ls : List ℕ) → length fs ≡ length ls → ((i : ℕ) → get_or fs i 0 ≤ get_or ls i 0) → AllZip ◌≤◌ fs ls
fits_from [] [] e w = tt
fits_from [] (l ∷ ls) e w = omega arith
fits_from (f ∷ fs) [] e w = omega arith
fits_from (f ∷ fs) (l ∷ ls) e w = (w 0, fits_from fs ls (omega arith) (λ i. w (suc i)))

pub total_after : (fs : List ℕ) (q : List Resting) → AllZip ◌≤◌ fs (lots_of q) → total (lots_of (after_fills fs q)) + total fs ≡ total (lots_of q)
total_after [] [] w = refl
total_after [] (r ∷ q) w = absurd w
total_after (f ∷ fs) [] w = absurd w
total_after (f ∷ fs) (r ∷ q) w = ⊎_elim (part (total_after fs q w.1)) (whole (total_after fs q w.1)) (cases_lt f r.lots)
  where
    part : total (lots_of (after_fills fs q)) + total fs ≡ total (lots_of q) → f < r.lots → total (lots_of (after_fills (f ∷ fs) (r ∷ q))) + total (f ∷ fs) ≡ total (lots_of (r ∷ q))
    part rest h =
        let left : total (lots_of (after_fills (f ∷ fs) (r ∷ q))) ≡ (r.lots - f) + total (lots_of (after_fills fs q)) = ap (λ xs. total (lots_of xs)) (cond-true (ltb f r.lots) (less r f ∷ after_fills fs q) _ (lt-ltb f r.lots h)) in
        omega (arith, rest)

    whole : total (lots_of (after_fills fs q)) + total fs ≡ total (lots_of q) → r.lots ≤ f → total (lots_of (after_fills (f ∷ fs) (r ∷ q))) + total (f ∷ fs) ≡ total (lots_of (r ∷ q))
    whole rest h =
        let left : total (lots_of (after_fills (f ∷ fs) (r ∷ q))) ≡ total (lots_of (after_fills fs q)) = ap (λ xs. total (lots_of xs)) (cond-false (ltb f r.lots) (less r f ∷ after_fills fs q) _ (le-ltb f r.lots h)) in
        omega (arith, rest, w.0)

pub tradable_after : (fs : List ℕ) (q : List Resting) → all_tradable (lots_of q) ≡ true → all_tradable (lots_of (after_fills fs q)) ≡ true
tradable_after [] q a = a
tradable_after (f ∷ fs) [] a = refl
tradable_after (f ∷ fs) (r ∷ q) a =
    let rest = tradable_after fs q (rest_tradable r q a) in
    ⊎_elim
    (λ (h : f < r.lots). ap (λ xs. all_tradable (lots_of xs)) (cond-true (ltb f r.lots) (less r f ∷ after_fills fs q) _ (lt-ltb f r.lots h)) ∙ and_from (tradable (r.lots - f)) (all_tradable (lots_of (after_fills fs q))) (tradable_from (r.lots - f) (omega arith) (omega (arith, tradable_most r.lots (first_tradable r q a)))) rest)
    (λ (h : r.lots ≤ f). ap (λ xs. all_tradable (lots_of xs)) (cond-false (ltb f r.lots) (less r f ∷ after_fills fs q) _ (le-ltb f r.lots h)) ∙ rest)
    (cases_lt f r.lots)

pub length_after : (fs : List ℕ) (q : List Resting) → length (after_fills fs q) ≤ length q
length_after [] q = omega arith
length_after (f ∷ fs) [] = omega arith
length_after (f ∷ fs) (r ∷ q) =
    let rest = length_after fs q in
    ⊎_elim
    (λ (h : f < r.lots). let e = ap length (cond-true (ltb f r.lots) (less r f ∷ after_fills fs q) (after_fills fs q) (lt-ltb f r.lots h)) in omega arith)
    (λ (h : r.lots ≤ f). let e = ap length (cond-false (ltb f r.lots) (less r f ∷ after_fills fs q) (after_fills fs q) (le-ltb f r.lots h)) in omega arith)
    (cases_lt f r.lots)

-- ---- an order that was found in a loan of the queue is taken out of the queue

module _ (member order : ℕ) (s q : List Resting) (place : ℕ) (same : s ≡ q) where
  pub taken_is : (r : Resting) → ((d : Resting) → in_queue member order s ≡ Some (get_or s place d)) → r ≡ get_or q place r → in_queue member order q ≡ Some r
  taken_is r found e = ap (in_queue member order) (sym same) ∙ found r ∙ ap (λ xs. Some (get_or xs place r)) same ∙ ap Some (sym e)

  pub left_is : (q' : List Resting) → remove s place ≡ out_of_queue member order s → q' ≡ remove q place → q' ≡ out_of_queue member order q
  left_is q' out e = e ∙ ap (λ xs. remove xs place) (sym same) ∙ out ∙ ap (out_of_queue member order) same
