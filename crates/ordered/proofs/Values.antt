-- A value that is written over where it lies. Assumes nothing.
use Rattle.std.proofs.Common.{◌≡◌, ℕ, zero, suc, ◌<◌, ◌&&◌, Bool, true, false, is_some, Option, ⊎_elim, List, [], ◌∷◌, length, get_or, set, Some, None, Ordering, refl, ap, ◌∙◌, sym, arith}
use Rattle.std.specs.List.{slice_get}
use Rattle.std.specs.Option.{option_map}
use Rattle.std.specs.Ordering.{is_lt, is_eq}
use Rattle.std.proofs.lemmas.Bool.{cases_Bool, cond-true, cond-false, cond_both, false≢true}
use Rattle.ordered.specs.declared.node.Node.{Node}
use Rattle.ordered.specs.Kept.{Kept, Sound, with_nodes}
use Rattle.ordered.specs.Order.{Total}
use Rattle.ordered.specs.Place.{Between, At}
use Rattle.ordered.specs.Row.{node_with, lookup, all_above, ascending, first, value_set, with_value}
use Rattle.ordered.proofs.Orders.{equal_from, eq_itself}
use Rattle.ordered.proofs.Ascends.{none_parts}
use Rattle.ordered.proofs.Lookups.{node_none, node_here, node_later}
use Rattle.ordered.proofs.Found.{tail, at_between, at_equal, node_at}

module _ {K V : Type 0} where
  -- the node at a place, with another value
  pub value_set_is : (ns : List (Node K V)) (i : ℕ) (d : Node K V) (w : V) → i < length ns → set ns i (record { key = (get_or ns i d).key; value = w }) ≡ value_set ns i w
  unfolding value_set
  value_set_is [] i d w h = absurd (omega arith)
  value_set_is (n ∷ ns) zero d w h = refl
  value_set_is (n ∷ ns) (suc i) d w h = ap (λ ms. n ∷ ms) (value_set_is ns i d w (omega arith))

  -- the node that is lent, with another value
  pub written : (ns : List (Node K V)) (i : ℕ) (n : Node K V) (w : V) → n ≡ get_or ns i n → i < length ns → set ns i (record { key = n.key; value = w }) ≡ value_set ns i w
  written ns i n w e h = ap (λ (m : Node K V). set ns i (record { key = m.key; value = w })) e ∙ value_set_is ns i n w h

  pub value_there : (ns : List (Node K V)) (i : ℕ) (d : Node K V) → i < length ns → option_map (λ (n : Node K V). n.value) (slice_get ns i) ≡ Some (get_or ns i d).value
  value_there [] i d h = absurd (omega arith)
  value_there (n ∷ ns) zero d h = refl
  value_there (n ∷ ns) (suc i) d h = value_there ns i d (omega arith)

module _ {K V : Type 0} (order : K → K → Ordering) where
  above_value_set : (key : K) (ns : List (Node K V)) (i : ℕ) (w : V) → all_above order key (value_set ns i w) ≡ all_above order key ns
  unfolding value_set all_above
  above_value_set key [] i w = refl
  above_value_set key (n ∷ ns) zero w = refl
  above_value_set key (n ∷ ns) (suc i) w = ap (λ (b : Bool). is_lt (order key n.key) && b) (above_value_set key ns i w)

  -- the keys stay
  pub ascending_value_set : (ns : List (Node K V)) (i : ℕ) (w : V) → ascending order (value_set ns i w) ≡ ascending order ns
  unfolding value_set ascending
  ascending_value_set [] i w = refl
  ascending_value_set (n ∷ ns) zero w = refl
  ascending_value_set (n ∷ ns) (suc i) w = rw (above_value_set n.key ns i w, ascending_value_set ns i w) refl

  pub length_value_set : (ns : List (Node K V)) (i : ℕ) (w : V) → length (value_set ns i w) ≡ length ns
  unfolding value_set
  length_value_set [] i w = refl
  length_value_set (n ∷ ns) zero w = refl
  length_value_set (n ∷ ns) (suc i) w = ap suc (length_value_set ns i w)

  pub sound_value_set : (map : Kept K V) (i : ℕ) (w : V) → Sound order map → Sound order (with_nodes map (value_set map.nodes i w))
  sound_value_set map i w s = record { ascends = ascending_value_set map.nodes i w ∙ s.ascends; inside = omega (arith, s.inside, length_value_set map.nodes i w) }

module _ {K V : Type 0} (order : K → K → Ordering) where
  -- at its place or under its key
  set_under : (ns : List (Node K V)) (key : K) (i : ℕ) (d : Node K V) (w : V) → Between order ns key i i → i < length ns → is_eq (order (get_or ns i d).key key) ≡ true → value_set ns i w ≡ with_value order ns key w
  unfolding value_set with_value
  set_under [] key i d w s h e = absurd (omega arith)
  set_under (n ∷ ns) key zero d w s h e = sym (cond-true (is_eq (order n.key key)) _ _ e)
  set_under (n ∷ ns) key (suc i) d w s h e = ap (λ ms. n ∷ ms) (set_under ns key i d w (tail order n ns key i s) (omega arith) e) ∙ sym (cond-false (is_eq (order n.key key)) _ _ (ap is_eq (s.below 0 n (omega arith))))

  pub value_set_at : Total order → (ns : List (Node K V)) → ascending order ns ≡ true → (key : K) (i : ℕ) (d : Node K V) (w : V) → At order ns key i → value_set ns i w ≡ with_value order ns key w
  value_set_at total ns up key i d w a = set_under ns key i d w (at_between order total ns up key i a) a.within (at_equal order total ns key i d a)

  pub value_at : Total order → (ns : List (Node K V)) → ascending order ns ≡ true → (key : K) (i : ℕ) (v : V) → At order ns key i → option_map (λ (n : Node K V). n.value) (slice_get ns i) ≡ Some v → Some v ≡ lookup order ns key
  value_at total ns up key i v a e =
      let d : Node K V = record { key = key; value = v } in
      sym e ∙ value_there ns i d a.within ∙ sym (ap (option_map (λ n. n.value)) (node_at order total ns up key i d a))

  -- ---- what is looked up then

  pub value_none : (ns : List (Node K V)) (key : K) (w : V) → node_with order ns key ≡ None → with_value order ns key w ≡ ns
  unfolding with_value
  value_none [] key w none = refl
  value_none (n ∷ ns) key w none =
      let p = none_parts order n ns key none in
      cond-false (is_eq (order n.key key)) _ _ p.0 ∙ ap (λ ms. n ∷ ms) (value_none ns key w p.1)

  pub value_same : (ns : List (Node K V)) (key : K) (w : V) → is_some (node_with order ns key) ≡ true → lookup order (with_value order ns key w) key ≡ Some w
  unfolding with_value
  value_same [] key w there = absurd (false≢true (sym (ap is_some (node_none order key)) ∙ there))
  value_same (n ∷ ns) key w there =
      cond_both (is_eq (order n.key key)) _ _ (λ (ms : List (Node K V)). lookup order ms key ≡ Some w)
      (λ e. ap (option_map (λ m. m.value)) (node_here order (record { key = n.key; value = w }) ns key e))
      (λ l. ap (option_map (λ m. m.value)) (node_later order n (with_value order ns key w) key l) ∙ value_same ns key w (sym (ap is_some (node_later order n ns key l)) ∙ there))

  pub value_other : Total order → (ns : List (Node K V)) (key other : K) (w : V) → is_eq (order key other) ≡ false → lookup order (with_value order ns key w) other ≡ lookup order ns other
  unfolding with_value
  value_other total [] key other w ne = refl
  value_other total (n ∷ ns) key other w ne =
      let value : Option (Node K V) → Option V = option_map (λ m. m.value) in
      cond_both (is_eq (order n.key key)) _ _ (λ (ms : List (Node K V)). lookup order ms other ≡ lookup order (n ∷ ns) other)
      (λ e.
      let later : is_eq (order n.key other) ≡ false = ap (λ k. is_eq (order k other)) (total.same _ _ (equal_from _ e)) ∙ ne in
      ap value (node_later order (record { key = n.key; value = w }) ns other later) ∙ sym (ap value (node_later order n ns other later)))
      (λ _. ⊎_elim
      (λ (h : is_eq (order n.key other) ≡ true). ap value (node_here order n (with_value order ns key w) other h) ∙ sym (ap value (node_here order n ns other h)))
      (λ (l : is_eq (order n.key other) ≡ false). ap value (node_later order n (with_value order ns key w) other l) ∙ value_other total ns key other w ne ∙ sym (ap value (node_later order n ns other l)))
      (cases_Bool (is_eq (order n.key other))))

  above_value : (low : K) (ns : List (Node K V)) (key : K) (w : V) → all_above order low (with_value order ns key w) ≡ all_above order low ns
  unfolding with_value all_above
  above_value low [] key w = refl
  above_value low (n ∷ ns) key w =
      cond_both (is_eq (order n.key key)) _ _ (λ (ms : List (Node K V)). all_above order low ms ≡ all_above order low (n ∷ ns))
      (λ _. refl)
      (λ _. ap (λ (b : Bool). is_lt (order low n.key) && b) (above_value low ns key w))

  pub ascending_value : (ns : List (Node K V)) (key : K) (w : V) → ascending order (with_value order ns key w) ≡ ascending order ns
  unfolding with_value ascending
  ascending_value [] key w = refl
  ascending_value (n ∷ ns) key w =
      cond_both (is_eq (order n.key key)) _ _ (λ (ms : List (Node K V)). ascending order ms ≡ ascending order (n ∷ ns))
      (λ _. refl)
      (λ _. rw (above_value n.key ns key w, ascending_value ns key w) refl)

  pub length_value : (ns : List (Node K V)) (key : K) (w : V) → length (with_value order ns key w) ≡ length ns
  unfolding with_value
  length_value [] key w = refl
  length_value (n ∷ ns) key w =
      cond_both (is_eq (order n.key key)) _ _ (λ (ms : List (Node K V)). length ms ≡ length (n ∷ ns))
      (λ _. refl)
      (λ _. ap suc (length_value ns key w))

  pub first_value : Total order → (ns : List (Node K V)) (node : Node K V) (w : V) → first ns ≡ Some node → value_set ns 0 w ≡ with_value order ns node.key w
  unfolding value_set with_value
  first_value total [] node w e = absurd (false≢true (ap is_some e))
  first_value total (n ∷ ns) node w e =
      let same : n ≡ node = cc in
      sym (cond-true (is_eq (order n.key node.key)) _ _ (ap (λ (m : Node K V). is_eq (order n.key m.key)) (sym same) ∙ eq_itself order total n.key))

  pub sound_value : (map : Kept K V) (key : K) (w : V) → Sound order map → Sound order (with_nodes map (with_value order map.nodes key w))
  sound_value map key w s = record { ascends = ascending_value map.nodes key w ∙ s.ascends; inside = omega (arith, s.inside, length_value map.nodes key w) }
