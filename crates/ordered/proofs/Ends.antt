-- The first node and the last. Assumes nothing.
use Rattle.std.proofs.Common.{◌≡◌, ℕ, zero, suc, take, drop, ◌-◌, true, false, List, [], ◌∷◌, length, is_some, Some, None, Ordering, Less, sym, refl, ap, ◌∙◌, subst, ⊎_elim, arith}
use Rattle.std.specs.List.{slice_get}
use Rattle.std.specs.Ordering.{is_eq}
use Rattle.std.proofs.lemmas.Bool.{cases_Bool, true≢false, false≢true}
use Rattle.ordered.specs.declared.node.Node.{Node}
use Rattle.ordered.specs.Order.{Total}
use Rattle.ordered.specs.Row.{node_with, all_above, ascending, first, last}
use Rattle.ordered.proofs.Orders.{less_from, equal_from, eq_itself, not_both}
use Rattle.ordered.proofs.Ascends.{above_none, above_parts, above_from, ascending_none, ascending_parts, ascending_from}
use Rattle.ordered.proofs.Lookups.{node_none, node_here, node_later}

module _ {K V : Type 0} where
  pub first_none : (ns : List (Node K V)) → first ns ≡ None → ns ≡ []
  first_none [] e = refl
  first_none (n ∷ ns) e = absurd (true≢false (ap is_some e))

  last_more : (n m : Node K V) (ns : List (Node K V)) → last (n ∷ m ∷ ns) ≡ last (m ∷ ns)
  last_more n m ns = let place : suc (suc (length ns)) - 1 ≡ suc (suc (length ns) - 1) = omega arith in ap (slice_get (n ∷ m ∷ ns)) place

  pub last_none : (ns : List (Node K V)) → last ns ≡ None → ns ≡ []
  last_none [] e = refl
  last_none (n ∷ []) e = absurd (true≢false (ap is_some e))
  last_none (n ∷ m ∷ ns) e = let long = ap length (last_none (m ∷ ns) (sym (last_more n m ns) ∙ e)) in absurd (omega (arith, long))

  first_is : (n : Node K V) (ns : List (Node K V)) (node : Node K V) → first (n ∷ ns) ≡ Some node → n ≡ node
  first_is n ns node e = cc

  none_not : {node : Node K V} → None ≡ Some node → ⊥
  none_not e = false≢true (ap is_some e)

module _ {K V : Type 0} (order : K → K → Ordering) (total : Total order) where
  -- a node's own key finds it where it stands first
  here : (n : Node K V) (ns : List (Node K V)) → node_with order (n ∷ ns) n.key ≡ Some n
  here n ns = node_here order n ns n.key (eq_itself order total n.key)

  -- a key that stands among those above is above
  pub above_node : (low : K) (ns : List (Node K V)) (key : K) → all_above order low ns ≡ true → is_some (node_with order ns key) ≡ true → order low key ≡ Less
  above_node low [] key t there = absurd (false≢true (sym (ap is_some (node_none order key)) ∙ there))
  above_node low (n ∷ ns) key t there =
      let p = above_parts order low n ns t in
      ⊎_elim
      (λ (h : is_eq (order n.key key) ≡ true). subst (λ k. order low k ≡ Less) (total.same _ _ (equal_from _ h)) (less_from _ p.0))
      (λ (l : is_eq (order n.key key) ≡ false). above_node low ns key p.1 (sym (ap is_some (node_later order n ns key l)) ∙ there))
      (cases_Bool (is_eq (order n.key key)))

  pub first_there : (ns : List (Node K V)) (node : Node K V) → first ns ≡ Some node → node_with order ns node.key ≡ Some node
  first_there [] node e = absurd (none_not e)
  first_there (n ∷ ns) node e = subst (λ m. node_with order (n ∷ ns) m.key ≡ Some m) (first_is n ns node e) (here n ns)

  pub first_least : (ns : List (Node K V)) (node : Node K V) (key : K) → ascending order ns ≡ true → first ns ≡ Some node → is_some (node_with order ns key) ≡ true → order key node.key ≡ Less → ⊥
  first_least [] node key up e there less = none_not e
  first_least (n ∷ ns) node key up e there less =
      let p = ascending_parts order n ns up in
      let q : n.key ≡ node.key = ap (λ m. m.key) (first_is n ns node e) in
      ⊎_elim
      (λ (h : is_eq (order n.key key) ≡ true).
      let r : key ≡ node.key = sym (total.same _ _ (equal_from _ h)) ∙ q in
      let s : order node.key node.key ≡ Less = subst (λ k. order k node.key ≡ Less) r less in
      not_both order total node.key node.key s s)
      (λ (l : is_eq (order n.key key) ≡ false).
      not_both order total node.key key (subst (λ k. order k key ≡ Less) q (above_node n.key ns key p.0 (sym (ap is_some (node_later order n ns key l)) ∙ there))) less)
      (cases_Bool (is_eq (order n.key key)))

  -- the first of more than one node lies below the last
  below_last : (n : Node K V) (ns : List (Node K V)) (node : Node K V) → ascending order (n ∷ ns) ≡ true → node_with order ns node.key ≡ Some node → order n.key node.key ≡ Less
  below_last n ns node up e = above_node n.key ns node.key (ascending_parts order n ns up).0 (ap is_some e)

  pub last_there : (ns : List (Node K V)) (node : Node K V) → ascending order ns ≡ true → last ns ≡ Some node → node_with order ns node.key ≡ Some node
  last_there [] node up e = absurd (none_not e)
  last_there (n ∷ []) node up e = subst (λ m. node_with order (n ∷ []) m.key ≡ Some m) (first_is n [] node e) (here n [])
  last_there (n ∷ m ∷ ns) node up e =
      let rec = last_there (m ∷ ns) node (ascending_parts order n (m ∷ ns) up).1 (sym (last_more n m ns) ∙ e) in
      node_later order n (m ∷ ns) node.key (ap is_eq (below_last n (m ∷ ns) node up rec)) ∙ rec

  pub last_greatest : (ns : List (Node K V)) (node : Node K V) (key : K) → ascending order ns ≡ true → last ns ≡ Some node → is_some (node_with order ns key) ≡ true → order node.key key ≡ Less → ⊥
  last_greatest [] node key up e there less = none_not e
  last_greatest (n ∷ []) node key up e there less =
      let q : n.key ≡ node.key = ap (λ m. m.key) (first_is n [] node e) in
      ⊎_elim
      (λ (h : is_eq (order n.key key) ≡ true).
      let r : key ≡ node.key = sym (total.same _ _ (equal_from _ h)) ∙ q in
      let s : order node.key node.key ≡ Less = subst (λ k. order node.key k ≡ Less) r less in
      not_both order total node.key node.key s s)
      (λ (l : is_eq (order n.key key) ≡ false). false≢true (sym (ap is_some (node_later order n [] key l ∙ node_none order key)) ∙ there))
      (cases_Bool (is_eq (order n.key key)))
  last_greatest (n ∷ m ∷ ns) node key up e there less =
      let up' = (ascending_parts order n (m ∷ ns) up).1 in
      let e' : last (m ∷ ns) ≡ Some node = sym (last_more n m ns) ∙ e in
      ⊎_elim
      (λ (h : is_eq (order n.key key) ≡ true).
      let low : order key node.key ≡ Less = subst (λ k. order k node.key ≡ Less) (total.same _ _ (equal_from _ h)) (below_last n (m ∷ ns) node up (last_there (m ∷ ns) node up' e')) in
      not_both order total key node.key low less)
      (λ (l : is_eq (order n.key key) ≡ false). last_greatest (m ∷ ns) node key up' e' (sym (ap is_some (node_later order n (m ∷ ns) key l)) ∙ there) less)
      (cases_Bool (is_eq (order n.key key)))

-- ---- what is left without an end

module _ {K V : Type 0} (order : K → K → Ordering) where
  pub ascending_drop : (ns : List (Node K V)) → ascending order ns ≡ true → ascending order (drop 1 ns) ≡ true
  ascending_drop [] up = up
  ascending_drop (n ∷ ns) up = (ascending_parts order n ns up).1

  above_take : (low : K) (ns : List (Node K V)) (i : ℕ) → all_above order low ns ≡ true → all_above order low (take i ns) ≡ true
  above_take low ns zero t = above_none V order low
  above_take low [] (suc i) t = t
  above_take low (n ∷ ns) (suc i) t =
      let p = above_parts order low n ns t in
      above_from order low n (take i ns) p.0 (above_take low ns i p.1)

  pub ascending_take : (ns : List (Node K V)) (i : ℕ) → ascending order ns ≡ true → ascending order (take i ns) ≡ true
  ascending_take ns zero up = ascending_none V order
  ascending_take [] (suc i) up = up
  ascending_take (n ∷ ns) (suc i) up =
      let p = ascending_parts order n ns up in
      ascending_from order n (take i ns) (above_take n.key ns i p.0) (ascending_take ns i p.1)
