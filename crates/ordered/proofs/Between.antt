-- The steps of a binary search. Assumes nothing.
use Rattle.std.proofs.Common.{◌≡◌, ℕ, zero, suc, ◌+◌, ◌-◌, ◌*◌, ◌<◌, ◌≤◌, Bool, true, false, List, [], ◌∷◌, length, get_or, Ordering, Less, sym, ap, ◌∙◌, ⊎_elim, arith}
use mir.Val.{bool_byte}
use Rattle.std.specs.Ordering.{is_lt}
use Rattle.std.proofs.lemmas.List.{get_or_default}
use Rattle.std.proofs.lemmas.Bool.{and_parts, cases_lt}
use Rattle.ordered.specs.declared.node.Node.{Node}
use Rattle.ordered.specs.Order.{Total}
use Rattle.ordered.specs.Place.{Between}
use Rattle.ordered.specs.Row.{all_above, ascending}
use Rattle.ordered.proofs.Orders.{less_from, not_less_above}

module _ {K V : Type 0} (order : K → K → Ordering) where
  above_at : (key : K) (ns : List (Node K V)) (i : ℕ) (d : Node K V) → all_above order key ns ≡ true → i < length ns → order key (get_or ns i d).key ≡ Less
  unfolding all_above
  above_at key [] i d t w = absurd (omega arith)
  above_at key (n ∷ ns) zero d t w = less_from _ (and_parts (is_lt (order key n.key)) (all_above order key ns) t).0
  above_at key (n ∷ ns) (suc i) d t w = above_at key ns i d (and_parts (is_lt (order key n.key)) (all_above order key ns) t).1 (omega arith)

  pub ascends : (ns : List (Node K V)) → ascending order ns ≡ true → (i j : ℕ) (d : Node K V) → i < j → j < length ns → order (get_or ns i d).key (get_or ns j d).key ≡ Less
  unfolding ascending
  ascends [] t i j d lt w = absurd (omega arith)
  ascends (n ∷ ns) t i zero d lt w = absurd (omega arith)
  ascends (n ∷ ns) t zero (suc j) d lt w = above_at n.key ns j d (and_parts (all_above order n.key ns) (ascending order ns) t).0 (omega arith)
  ascends (n ∷ ns) t (suc i) (suc j) d lt w = ascends ns (and_parts (all_above order n.key ns) (ascending order ns) t).1 i j d (omega arith) (omega arith)

module _ {K V : Type 0} (order : K → K → Ordering) (total : Total order) (ns : List (Node K V)) (up : ascending order ns ≡ true) (key : K) where
  -- the key at i is less: the answer lies past it
  raised : (low high i : ℕ) (e : Node K V) → Between order ns key low high → i < length ns → is_lt (order (get_or ns i e).key key) ≡ true → (low' high' : ℕ) → low' ≡ i + 1 → high ≤ high' → Between order ns key low' high'
  raised low high i e s w less low' high' q h =
      let here : (d : Node K V) → order (get_or ns i d).key key ≡ Less = λ d. ap (λ n. order n.key key) (get_or_default ns i d e w) ∙ less_from _ less in
      record {
        within = omega arith;
        below = λ j d b. ⊎_elim (λ (lt : j < i). total.transitive _ (get_or ns i d).key _ (ascends order ns up j i d lt w) (here d)) (λ (ge : i ≤ j). let p : j ≡ i = omega arith in rw p (here d)) (cases_lt j i);
        above = λ j d b in'. s.above j d (omega arith) in';
      }

  -- no key from i on is less
  not_less_from : (i : ℕ) → ((d : Node K V) → i < length ns → is_lt (order (get_or ns i d).key key) ≡ false) → (j : ℕ) (d : Node K V) → i ≤ j → j < length ns → is_lt (order (get_or ns j d).key key) ≡ false
  not_less_from i not j d le w =
      ⊎_elim
      (λ (lt : i < j). not_less_above order total (get_or ns i d).key (get_or ns j d).key key (not d (omega arith)) (ascends order ns up i j d lt w))
      (λ (ge : j ≤ i). let p : j ≡ i = omega arith in rw p (not d (omega arith)))
      (cases_lt i j)

  -- the key at i is not less: the answer lies at i or before
  lowered : (low high i : ℕ) (e : Node K V) → Between order ns key low high → i < length ns → is_lt (order (get_or ns i e).key key) ≡ false → (high' : ℕ) → i ≤ high' → Between order ns key low high'
  lowered low high i e s w not high' h =
      record {
        within = s.within;
        below = s.below;
        above = λ j d b in'. not_less_from i (λ d' w'. ap (λ n. is_lt (order n.key key)) (get_or_default ns i d' e w') ∙ not) j d (omega arith) in';
      }

  -- a step past the key at i where that is less, and none where it is not
  pub stepped : (low high i step : ℕ) (e : Node K V) (less : Bool) → Between order ns key low high → i < length ns → less ≡ is_lt (order (get_or ns i e).key key) → i + 1 ≡ low + step → high + 1 ≡ low + step + step → (low' : ℕ) → low' ≡ low + bool_byte less * step → Between order ns key low' (low' + (step - 1))
  stepped low high i step e true s w less q h low' r = raised low high i e s w (sym less) low' (low' + (step - 1)) (omega arith) (omega arith)
  stepped low high i step e false s w less q h low' r =
      let p : low' ≡ low = omega arith in
      rw p (lowered low high i e s w (sym less) (low + (step - 1)) (omega arith))

  -- no key stands from `high'` on
  pub ended : (low high high' : ℕ) → Between order ns key low high → length ns ≤ high' → Between order ns key low high'
  ended low high high' s h = record { within = s.within; below = s.below; above = λ j d b in'. absurd (omega arith) }
