-- What the place that a search comes to says of a row. Assumes nothing.
use Rattle.std.proofs.Common.{◌≡◌, ℕ, zero, suc, ◌<◌, ◌≤◌, true, false, List, [], ◌∷◌, length, get_or, is_some, Some, None, Ok, Err, Ordering, Less, Greater, sym, refl, ap, ◌∙◌, subst, ⊎_elim, suc-le-suc, arith}
use Rattle.std.specs.List.{insert, remove}
use Rattle.std.specs.Ordering.{ordering_reverse, is_lt, is_eq}
use Rattle.std.proofs.lemmas.List.{get_or_default}
use Rattle.std.proofs.lemmas.Bool.{cases_Bool, cases_lt, cond-true, cond-false, false≢true}
use Rattle.ordered.specs.declared.node.Node.{Node}
use Rattle.ordered.specs.Order.{Total}
use Rattle.ordered.specs.Place.{Between, At, Gap}
use Rattle.ordered.specs.Row.{node_with, place, found, put, without, ascending}
use Rattle.ordered.proofs.Orders.{equal_from, greater_from}
use Rattle.ordered.proofs.Between.{ascends}

module _ {K V : Type 0} (order : K → K → Ordering) where
  pub tail : (n : Node K V) (ns : List (Node K V)) (key : K) (i : ℕ) → Between order (n ∷ ns) key (suc i) (suc i) → Between order ns key i i
  tail n ns key i s = record {
    within = omega (arith, s.within);
    below = λ j d b. s.below (suc j) d (suc-le-suc b);
    above = λ j d b w. s.above (suc j) d (suc-le-suc b) (suc-le-suc w);
  }

  tail_none : (n : Node K V) (ns : List (Node K V)) (key : K) → Between order (n ∷ ns) key zero zero → Between order ns key zero zero
  tail_none n ns key s = record {
    within = omega arith;
    below = λ j d b. absurd (omega arith);
    above = λ j d b w. s.above (suc j) d (omega arith) (suc-le-suc w);
  }

  pub between_place : (ns : List (Node K V)) (key : K) (i : ℕ) → Between order ns key i i → place order ns key ≡ i
  unfolding place
  between_place [] key zero s = refl
  between_place [] key (suc i) s = absurd (omega (arith, s.within))
  between_place (n ∷ ns) key zero s = cond-false (is_lt (order n.key key)) _ _ (s.above 0 n (omega arith) (omega arith)) ∙ between_place ns key zero (tail_none n ns key s)
  between_place (n ∷ ns) key (suc i) s = cond-true (is_lt (order n.key key)) _ _ (ap is_lt (s.below 0 n (omega arith))) ∙ ap suc (between_place ns key i (tail n ns key i s))

  pub between_put : (node : Node K V) (ns : List (Node K V)) (i : ℕ) → Between order ns node.key i i → insert ns i node ≡ put order node ns
  unfolding put
  between_put node [] zero s = refl
  between_put node [] (suc i) s = absurd (omega (arith, s.within))
  between_put node (n ∷ ns) zero s = sym (cond-false (is_lt (order n.key node.key)) _ _ (s.above 0 n (omega arith) (omega arith)))
  between_put node (n ∷ ns) (suc i) s = ap (λ ms. n ∷ ms) (between_put node ns i (tail n ns node.key i s)) ∙ sym (cond-true (is_lt (order n.key node.key)) _ _ (ap is_lt (s.below 0 n (omega arith))))

  -- ---- the key stands at i

  pub at_node : (ns : List (Node K V)) (key : K) (i : ℕ) (d : Node K V) → Between order ns key i i → i < length ns → is_eq (order (get_or ns i d).key key) ≡ true → node_with order ns key ≡ Some (get_or ns i d)
  unfolding node_with
  at_node [] key i d s w e = absurd (omega arith)
  at_node (n ∷ ns) key zero d s w e = cond-true (is_eq (order n.key key)) _ _ e
  at_node (n ∷ ns) key (suc i) d s w e = cond-false (is_eq (order n.key key)) _ _ (ap is_eq (s.below 0 n (omega arith))) ∙ at_node ns key i d (tail n ns key i s) (omega arith) e

  pub at_without : (ns : List (Node K V)) (key : K) (i : ℕ) (d : Node K V) → Between order ns key i i → i < length ns → is_eq (order (get_or ns i d).key key) ≡ true → remove ns i ≡ without order ns key
  unfolding without
  at_without [] key i d s w e = absurd (omega arith)
  at_without (n ∷ ns) key zero d s w e = sym (cond-true (is_eq (order n.key key)) _ _ e)
  at_without (n ∷ ns) key (suc i) d s w e = ap (λ ms. n ∷ ms) (at_without ns key i d (tail n ns key i s) (omega arith) e) ∙ sym (cond-false (is_eq (order n.key key)) _ _ (ap is_eq (s.below 0 n (omega arith))))

  -- ---- the key stands nowhere

  abbrev pub Absent : List (Node K V) → K → Type 0
  Absent ns key = (i : ℕ) (d : Node K V) → i < length ns → is_eq (order (get_or ns i d).key key) ≡ false

  pub absent_node : (ns : List (Node K V)) (key : K) → Absent ns key → node_with order ns key ≡ None
  unfolding node_with
  absent_node [] key h = refl
  absent_node (n ∷ ns) key h = cond-false (is_eq (order n.key key)) _ _ (h 0 n (omega arith)) ∙ absent_node ns key (λ i d w. h (suc i) d (suc-le-suc w))

  pub absent_without : (ns : List (Node K V)) (key : K) → Absent ns key → without order ns key ≡ ns
  unfolding without
  absent_without [] key h = refl
  absent_without (n ∷ ns) key h = cond-false (is_eq (order n.key key)) _ _ (h 0 n (omega arith)) ∙ ap (λ ms. n ∷ ms) (absent_without ns key (λ i d w. h (suc i) d (suc-le-suc w)))

  -- no key below i can be it, nor the one at i, nor, since the keys ascend, one above
  pub between_absent : Total order → (ns : List (Node K V)) → ascending order ns ≡ true → (key : K) (i : ℕ) → Between order ns key i i → ((d : Node K V) → i < length ns → is_eq (order (get_or ns i d).key key) ≡ false) → Absent ns key
  between_absent total ns up key i s not j d w =
      ⊎_elim
      (λ (lt : j < i). ap is_eq (s.below j d lt))
      (λ (ge : i ≤ j). ⊎_elim
      (λ (above : i < j). ⊎_elim
      (λ (e : is_eq (order (get_or ns j d).key key) ≡ true).
      let q : (get_or ns j d).key ≡ key = total.same _ _ (equal_from _ e) in
      let less : order (get_or ns i d).key key ≡ Less = subst (λ k. order (get_or ns i d).key k ≡ Less) q (ascends order ns up i j d above w) in
      absurd (false≢true (sym (s.above i d (omega arith) (omega arith)) ∙ ap is_lt less)))
      (λ (n : is_eq (order (get_or ns j d).key key) ≡ false). n)
      (cases_Bool (is_eq (order (get_or ns j d).key key))))
      (λ (le : j ≤ i). let p : j ≡ i = omega arith in rw p (not d (omega arith)))
      (cases_lt i j))
      (cases_lt j i)

  -- ---- what the search answers

  pub found_at : Total order → (ns : List (Node K V)) (key : K) (i : ℕ) (e : Node K V) → Between order ns key i i → i < length ns → is_eq (order (get_or ns i e).key key) ≡ true → (found order ns key ≡ Ok i) × At order ns key i
  found_at total ns key i e s w eq = (
    cond-true (is_some (node_with order ns key)) _ _ (ap is_some (at_node ns key i e s w eq)) ∙ ap Ok (between_place ns key i s),
    record { within = w; is = λ d. ap (λ n. n.key) (get_or_default ns i d e w) ∙ total.same _ _ (equal_from _ eq) },
  )

  found_gap : Total order → (ns : List (Node K V)) → ascending order ns ≡ true → (key : K) (i : ℕ) → Between order ns key i i → ((d : Node K V) → i < length ns → is_eq (order (get_or ns i d).key key) ≡ false) → (found order ns key ≡ Err i) × Gap order ns key i
  found_gap total ns up key i s not =
      let absent = between_absent total ns up key i s not in (
        cond-false (is_some (node_with order ns key)) _ _ (ap is_some (absent_node ns key absent)) ∙ ap Err (between_place ns key i s),
        record {
          within = s.within;
          below = s.below;
          above = λ j d b w. total.turned (get_or ns j d).key key ∙ greater_from _ (s.above j d b w) (absent j d w);
        },
      )

  pub found_less : Total order → (ns : List (Node K V)) → ascending order ns ≡ true → (key : K) (i : ℕ) (e : Node K V) → Between order ns key i i → is_eq (order (get_or ns i e).key key) ≡ false → (found order ns key ≡ Err i) × Gap order ns key i
  found_less total ns up key i e s not = found_gap total ns up key i s (λ d w. ap (λ n. is_eq (order n.key key)) (get_or_default ns i d e w) ∙ not)

  pub found_past : Total order → (ns : List (Node K V)) → ascending order ns ≡ true → (key : K) (i : ℕ) → Between order ns key i i → length ns ≤ i → (found order ns key ≡ Err i) × Gap order ns key i
  found_past total ns up key i s past = found_gap total ns up key i s (λ d w. absurd (omega arith))
  -- ---- what the search's answer says of the row

module _ {K V : Type 0} (order : K → K → Ordering) (total : Total order) (ns : List (Node K V)) where
  pub at_between : ascending order ns ≡ true → (key : K) (i : ℕ) → At order ns key i → Between order ns key i i
  at_between up key i a = record {
    within = omega (arith, a.within);
    below = λ j d b. subst (λ k. order (get_or ns j d).key k ≡ Less) (a.is d) (ascends order ns up j i d b a.within);
    above = λ j d b w. ⊎_elim
        (λ (lt : i < j). ap is_lt (total.turned key (get_or ns j d).key ∙ ap ordering_reverse (subst (λ k. order k (get_or ns j d).key ≡ Less) (a.is d) (ascends order ns up i j d lt w))))
        (λ (ge : j ≤ i). let p : j ≡ i = omega arith in rw p (ap is_lt (ap (λ k. order k key) (a.is d) ∙ total.itself key)))
        (cases_lt i j);
  }

  pub at_equal : (key : K) (i : ℕ) (d : Node K V) → At order ns key i → is_eq (order (get_or ns i d).key key) ≡ true
  at_equal key i d a = ap is_eq (ap (λ k. order k key) (a.is d) ∙ total.itself key)

  pub node_at : ascending order ns ≡ true → (key : K) (i : ℕ) (d : Node K V) → At order ns key i → node_with order ns key ≡ Some (get_or ns i d)
  node_at up key i d a = at_node order ns key i d (at_between up key i a) a.within (at_equal key i d a)

  pub removed_at : ascending order ns ≡ true → (key : K) (i : ℕ) (d : Node K V) → At order ns key i → remove ns i ≡ without order ns key
  removed_at up key i d a = at_without order ns key i d (at_between up key i a) a.within (at_equal key i d a)

  gap_turned : (key : K) (i : ℕ) → Gap order ns key i → (j : ℕ) (d : Node K V) → i ≤ j → j < length ns → order (get_or ns j d).key key ≡ Greater
  gap_turned key i s j d b w = total.turned key (get_or ns j d).key ∙ ap ordering_reverse (s.above j d b w)

  gap_absent : (key : K) (i : ℕ) → Gap order ns key i → Absent order ns key
  gap_absent key i s j d w =
      ⊎_elim (λ (lt : j < i). ap is_eq (s.below j d lt)) (λ (ge : i ≤ j). ap is_eq (gap_turned key i s j d ge w)) (cases_lt j i)

  pub node_gap : (key : K) (i : ℕ) → Gap order ns key i → node_with order ns key ≡ None
  node_gap key i s = absent_node order ns key (gap_absent key i s)

  pub without_gap : (key : K) (i : ℕ) → Gap order ns key i → without order ns key ≡ ns
  without_gap key i s = absent_without order ns key (gap_absent key i s)

  pub put_gap : (node : Node K V) (i : ℕ) → Gap order ns node.key i → insert ns i node ≡ put order node ns
  put_gap node i s = between_put order node ns i (record { within = s.within; below = s.below; above = λ j d b w. ap is_lt (gap_turned node.key i s j d b w) })
