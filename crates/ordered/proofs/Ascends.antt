-- The keys still ascend after a node is put in or taken out. Assumes nothing.
use Rattle.std.proofs.Common.{◌≡◌, true, false, List, [], ◌∷◌, is_some, Some, None, Ordering, Less, sym, refl, ap, ◌∙◌, ⊎_elim}
use Rattle.std.specs.Ordering.{is_lt, is_eq}
use Rattle.std.proofs.lemmas.Bool.{and_parts, and_from, cases_Bool, cond-true, cond-false, cond_both, true≢false}
use Rattle.ordered.specs.declared.node.Node.{Node}
use Rattle.ordered.specs.Order.{Total}
use Rattle.ordered.specs.Row.{node_with, put, without, all_above, ascending}
use Rattle.ordered.proofs.Orders.{less_from, greater_from}

module _ {K : Type 0} (V : Type 0) (order : K → K → Ordering) where
  pub ascending_none : ascending {V = V} order [] ≡ true
  unfolding ascending
  ascending_none = refl

  pub above_none : (key : K) → all_above {V = V} order key [] ≡ true
  unfolding all_above
  above_none key = refl

module _ {K V : Type 0} (order : K → K → Ordering) where
  pub none_parts : (n : Node K V) (ns : List (Node K V)) (key : K) → node_with order (n ∷ ns) key ≡ None → (is_eq (order n.key key) ≡ false) × (node_with order ns key ≡ None)
  unfolding node_with
  none_parts n ns key none =
      ⊎_elim
      (λ (e : is_eq (order n.key key) ≡ true). absurd (true≢false (ap is_some (sym (cond-true (is_eq (order n.key key)) (Some n) _ e) ∙ none))))
      (λ (e : is_eq (order n.key key) ≡ false). (e, sym (cond-false (is_eq (order n.key key)) (Some n) _ e) ∙ none))
      (cases_Bool (is_eq (order n.key key)))

  pub above_parts : (key : K) (n : Node K V) (ns : List (Node K V)) → all_above order key (n ∷ ns) ≡ true → (is_lt (order key n.key) ≡ true) × (all_above order key ns ≡ true)
  unfolding all_above
  above_parts key n ns t = and_parts (is_lt (order key n.key)) (all_above order key ns) t

  pub above_from : (key : K) (n : Node K V) (ns : List (Node K V)) → is_lt (order key n.key) ≡ true → all_above order key ns ≡ true → all_above order key (n ∷ ns) ≡ true
  unfolding all_above
  above_from key n ns l t = and_from _ _ l t

  pub ascending_parts : (n : Node K V) (ns : List (Node K V)) → ascending order (n ∷ ns) ≡ true → (all_above order n.key ns ≡ true) × (ascending order ns ≡ true)
  unfolding ascending
  ascending_parts n ns t = and_parts (all_above order n.key ns) (ascending order ns) t

  pub ascending_from : (n : Node K V) (ns : List (Node K V)) → all_above order n.key ns ≡ true → ascending order ns ≡ true → ascending order (n ∷ ns) ≡ true
  unfolding ascending
  ascending_from n ns a t = and_from _ _ a t

  above_put : (key : K) (node : Node K V) (ns : List (Node K V)) → all_above order key ns ≡ true → is_lt (order key node.key) ≡ true → all_above order key (put order node ns) ≡ true
  unfolding put
  above_put key node [] t l = above_from key node [] l t
  above_put key node (n ∷ ns) t l =
      let p = above_parts key n ns t in
      cond_both (is_lt (order n.key node.key)) _ _ (λ (ms : List (Node K V)). all_above order key ms ≡ true)
      (λ _. above_from key n (put order node ns) p.0 (above_put key node ns p.1 l))
      (λ _. above_from key node (n ∷ ns) l t)

  above_without : (key : K) (ns : List (Node K V)) (out : K) → all_above order key ns ≡ true → all_above order key (without order ns out) ≡ true
  unfolding without
  above_without key [] out t = t
  above_without key (n ∷ ns) out t =
      let p = above_parts key n ns t in
      cond_both (is_eq (order n.key out)) _ _ (λ (ms : List (Node K V)). all_above order key ms ≡ true)
      (λ _. p.1)
      (λ _. above_from key n (without order ns out) p.0 (above_without key ns out p.1))

  pub ascending_without : (ns : List (Node K V)) (out : K) → ascending order ns ≡ true → ascending order (without order ns out) ≡ true
  unfolding without
  ascending_without [] out t = t
  ascending_without (n ∷ ns) out t =
      let p = ascending_parts n ns t in
      cond_both (is_eq (order n.key out)) _ _ (λ (ms : List (Node K V)). ascending order ms ≡ true)
      (λ _. p.1)
      (λ _. ascending_from n (without order ns out) (above_without n.key ns out p.0) (ascending_without ns out p.1))

module _ {K V : Type 0} (order : K → K → Ordering) (total : Total order) where
  -- what lies below a key lies below all that lie above it
  above_all : (low key : K) (ns : List (Node K V)) → order low key ≡ Less → all_above order key ns ≡ true → all_above order low ns ≡ true
  unfolding all_above
  above_all low key [] l t = refl
  above_all low key (n ∷ ns) l t =
      let p = above_parts order key n ns t in
      and_from _ _ (ap is_lt (total.transitive low key n.key l (less_from _ p.0))) (above_all low key ns l p.1)

  pub ascending_put : (node : Node K V) (ns : List (Node K V)) → node_with order ns node.key ≡ None → ascending order ns ≡ true → ascending order (put order node ns) ≡ true
  unfolding put
  ascending_put node [] none t = ascending_from order node [] (above_none V order node.key) t
  ascending_put node (n ∷ ns) none t =
      let p = ascending_parts order n ns t in
      let q = none_parts order n ns node.key none in
      cond_both (is_lt (order n.key node.key)) _ _ (λ (ms : List (Node K V)). ascending order ms ≡ true)
      (λ l. ascending_from order n (put order node ns) (above_put order n.key node ns p.0 l) (ascending_put node ns q.1 p.1))
      (λ g.
      let less : order node.key n.key ≡ Less = total.turned n.key node.key ∙ greater_from _ g q.0 in
      ascending_from order node (n ∷ ns) (above_from order node.key n ns (ap is_lt less) (above_all node.key n.key ns less p.0)) t)
