-- What is looked up after a node is put in or taken out. Assumes nothing.
use Rattle.std.proofs.Common.{◌≡◌, ◌+◌, true, false, List, [], ◌∷◌, length, is_some, Some, None, Ordering, sym, refl, ap, ◌∙◌, ⊎_elim, arith}
use Rattle.std.specs.Ordering.{is_lt, is_eq}
use Rattle.std.proofs.lemmas.Bool.{cases_Bool, cond-true, cond-false, cond_both, false≢true}
use Rattle.ordered.specs.declared.node.Node.{Node}
use Rattle.ordered.specs.Order.{Total}
use Rattle.ordered.specs.Row.{node_with, put, without, all_above, ascending}
use Rattle.ordered.proofs.Orders.{less_from, equal_from, eq_turned, eq_itself}
use Rattle.ordered.proofs.Ascends.{none_parts, above_parts, ascending_parts}

module _ {K V : Type 0} (order : K → K → Ordering) where
  pub node_none : (key : K) → node_with {V = V} order [] key ≡ None
  unfolding node_with
  node_none key = refl

  pub node_here : (n : Node K V) (ns : List (Node K V)) (key : K) → is_eq (order n.key key) ≡ true → node_with order (n ∷ ns) key ≡ Some n
  unfolding node_with
  node_here n ns key e = cond-true (is_eq (order n.key key)) _ _ e

  pub node_later : (n : Node K V) (ns : List (Node K V)) (key : K) → is_eq (order n.key key) ≡ false → node_with order (n ∷ ns) key ≡ node_with order ns key
  unfolding node_with
  node_later n ns key e = cond-false (is_eq (order n.key key)) _ _ e

  pub node_put_other : (node : Node K V) (ns : List (Node K V)) (key : K) → is_eq (order node.key key) ≡ false → node_with order (put order node ns) key ≡ node_with order ns key
  unfolding put
  node_put_other node [] key e = node_later node [] key e
  node_put_other node (n ∷ ns) key e =
      cond_both (is_lt (order n.key node.key)) _ _ (λ (ms : List (Node K V)). node_with order ms key ≡ node_with order (n ∷ ns) key)
      (λ _. ⊎_elim
      (λ (h : is_eq (order n.key key) ≡ true). node_here n (put order node ns) key h ∙ sym (node_here n ns key h))
      (λ (l : is_eq (order n.key key) ≡ false). node_later n (put order node ns) key l ∙ node_put_other node ns key e ∙ sym (node_later n ns key l))
      (cases_Bool (is_eq (order n.key key))))
      (λ _. node_later node (n ∷ ns) key e)

  pub length_put : (node : Node K V) (ns : List (Node K V)) → length (put order node ns) ≡ length ns + 1
  unfolding put
  length_put node [] = omega arith
  length_put node (n ∷ ns) =
      cond_both (is_lt (order n.key node.key)) _ _ (λ (ms : List (Node K V)). length ms ≡ length (n ∷ ns) + 1)
      (λ _. let rec : length (put order node ns) ≡ length ns + 1 = length_put node ns in omega arith)
      (λ _. omega arith)

  pub length_without : (ns : List (Node K V)) (key : K) → is_some (node_with order ns key) ≡ true → length (without order ns key) + 1 ≡ length ns
  unfolding without
  length_without [] key there = absurd (false≢true (sym (ap is_some (node_none key)) ∙ there))
  length_without (n ∷ ns) key there =
      cond_both (is_eq (order n.key key)) _ _ (λ (ms : List (Node K V)). length ms + 1 ≡ length (n ∷ ns))
      (λ _. omega arith)
      (λ l. let rec : length (without order ns key) + 1 ≡ length ns = length_without ns key (sym (ap is_some (node_later n ns key l)) ∙ there) in omega arith)

  pub without_none : (ns : List (Node K V)) (key : K) → node_with order ns key ≡ None → without order ns key ≡ ns
  unfolding without
  without_none [] key none = refl
  without_none (n ∷ ns) key none =
      let p = none_parts order n ns key none in
      cond-false (is_eq (order n.key key)) _ _ p.0 ∙ ap (λ ms. n ∷ ms) (without_none ns key p.1)

module _ {K V : Type 0} (order : K → K → Ordering) (total : Total order) where
  pub node_put_same : (node : Node K V) (ns : List (Node K V)) → node_with order (put order node ns) node.key ≡ Some node
  unfolding put
  node_put_same node [] = node_here order node [] node.key (eq_itself order total node.key)
  node_put_same node (n ∷ ns) =
      cond_both (is_lt (order n.key node.key)) _ _ (λ (ms : List (Node K V)). node_with order ms node.key ≡ Some node)
      (λ l. node_later order n (put order node ns) node.key (ap is_eq (less_from _ l)) ∙ node_put_same node ns)
      (λ _. node_here order node (n ∷ ns) node.key (eq_itself order total node.key))

  -- no node has a key that all others are above
  pub above_absent : (key : K) (ns : List (Node K V)) → all_above order key ns ≡ true → node_with order ns key ≡ None
  above_absent key [] t = node_none order key
  above_absent key (n ∷ ns) t =
      let p = above_parts order key n ns t in
      node_later order n ns key (eq_turned order total key n.key ∙ ap is_eq (less_from _ p.0)) ∙ above_absent key ns p.1

  pub node_without_same : (ns : List (Node K V)) (key : K) → ascending order ns ≡ true → node_with order (without order ns key) key ≡ None
  unfolding without
  node_without_same [] key t = node_none order key
  node_without_same (n ∷ ns) key t =
      let p = ascending_parts order n ns t in
      cond_both (is_eq (order n.key key)) _ _ (λ (ms : List (Node K V)). node_with order ms key ≡ None)
      (λ e. above_absent key ns (ap (λ k. all_above order k ns) (sym (total.same _ _ (equal_from _ e))) ∙ p.0))
      (λ l. node_later order n (without order ns key) key l ∙ node_without_same ns key p.1)

  pub node_without_other : (ns : List (Node K V)) (key other : K) → is_eq (order key other) ≡ false → node_with order (without order ns key) other ≡ node_with order ns other
  unfolding without
  node_without_other [] key other ne = refl
  node_without_other (n ∷ ns) key other ne =
      cond_both (is_eq (order n.key key)) _ _ (λ (ms : List (Node K V)). node_with order ms other ≡ node_with order (n ∷ ns) other)
      (λ e. sym (node_later order n ns other (ap (λ k. is_eq (order k other)) (total.same _ _ (equal_from _ e)) ∙ ne)))
      (λ _. ⊎_elim
      (λ (h : is_eq (order n.key other) ≡ true). node_here order n (without order ns key) other h ∙ sym (node_here order n ns other h))
      (λ (l : is_eq (order n.key other) ≡ false). node_later order n (without order ns key) other l ∙ node_without_other ns key other ne ∙ sym (node_later order n ns other l))
      (cases_Bool (is_eq (order n.key other))))

  pub node_key : (ns : List (Node K V)) (key : K) (node : Node K V) → node_with order ns key ≡ Some node → node.key ≡ key
  node_key [] key node e = absurd (false≢true (sym (ap is_some (node_none order key)) ∙ ap is_some e))
  node_key (n ∷ ns) key node e =
      ⊎_elim
      (λ (h : is_eq (order n.key key) ≡ true).
      let f : Some n ≡ Some node = sym (node_here order n ns key h) ∙ e in
      let g : n ≡ node = cc in
      ap (λ m. m.key) (sym g) ∙ total.same _ _ (equal_from _ h))
      (λ (l : is_eq (order n.key key) ≡ false). node_key ns key node (sym (node_later order n ns key l) ∙ e))
      (cases_Bool (is_eq (order n.key key)))
