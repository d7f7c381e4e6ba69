-- A map as a row of nodes in the order of their keys, no key twice.
use Rattle.std.specs.Prelude.{ℕ, zero, suc, Bool, true, cond, ◌&&◌, List, [], ◌∷◌, ◌-◌, length, is_some, Some, None, Ok, Err, Option, Result}
use Rattle.std.specs.declared.cmp.Ordering.{Ordering}
use Rattle.std.specs.List.{slice_get}
use Rattle.std.specs.Option.{option_map}
use Rattle.std.specs.Ordering.{is_lt, is_eq}
use Rattle.ordered.specs.declared.node.Node.{Node}

module _ {K V : Type 0} (order : K → K → Ordering) where
  -- the node with a key, or none
  unfoldable pub node_with : List (Node K V) → K → Option (Node K V)
  node_with [] key = None
  node_with (n ∷ ns) key = cond (is_eq (order n.key key)) (Some n) (node_with ns key)

  -- the map's meaning: for each key its value, or none
  abbrev pub lookup : List (Node K V) → K → Option V
  lookup nodes key = option_map (λ n. n.value) (node_with nodes key)

  -- how many keys are less than this one, which is where it stands or would go
  unfoldable pub place : List (Node K V) → K → ℕ
  place [] key = 0
  place (n ∷ ns) key = cond (is_lt (order n.key key)) (suc (place ns key)) (place ns key)

  -- the place at which a key was found, or at which it would go
  abbrev pub found : List (Node K V) → K → Result ℕ ℕ
  found nodes key = cond (is_some (node_with nodes key)) (Ok (place nodes key)) (Err (place nodes key))

  -- a node put in, after those with lesser keys
  unfoldable pub put : Node K V → List (Node K V) → List (Node K V)
  put node [] = node ∷ []
  put node (n ∷ ns) = cond (is_lt (order n.key node.key)) (n ∷ put node ns) (node ∷ n ∷ ns)

  -- the node with a key taken out
  unfoldable pub without : List (Node K V) → K → List (Node K V)
  without [] key = []
  without (n ∷ ns) key = cond (is_eq (order n.key key)) ns (n ∷ without ns key)

  -- the value under a key written over
  unfoldable pub with_value : List (Node K V) → K → V → List (Node K V)
  with_value [] key value = []
  with_value (n ∷ ns) key value = cond (is_eq (order n.key key)) (record { key = n.key; value = value } ∷ ns) (n ∷ with_value ns key value)

  unfoldable pub all_above : K → List (Node K V) → Bool
  all_above key [] = true
  all_above key (n ∷ ns) = is_lt (order key n.key) && all_above key ns

  -- each key is less than every later one, so that no key stands twice
  unfoldable pub ascending : List (Node K V) → Bool
  ascending [] = true
  ascending (n ∷ ns) = all_above n.key ns && ascending ns

-- the first node and the last, or none
abbrev pub first : {K V : Type 0} → List (Node K V) → Option (Node K V)
first nodes = slice_get nodes 0

abbrev pub last : {K V : Type 0} → List (Node K V) → Option (Node K V)
last nodes = slice_get nodes (length nodes - 1)

-- the value of the node at a place written over
unfoldable pub value_set : {K V : Type 0} → List (Node K V) → ℕ → V → List (Node K V)
value_set [] i value = []
value_set (n ∷ ns) zero value = record { key = n.key; value = value } ∷ ns
value_set (n ∷ ns) (suc i) value = n ∷ value_set ns i value
