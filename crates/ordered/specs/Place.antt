-- Where a key stands in a row, or would go, by places.
use Rattle.std.specs.Prelude.{◌≡◌, ℕ, ◌<◌, ◌≤◌, false, List, length, slice_index_or}
use Rattle.std.specs.declared.cmp.Ordering.TheVariants.{Less}
use Rattle.std.specs.declared.cmp.Ordering.{Ordering}
use Rattle.std.specs.Ordering.{is_lt}
use Rattle.ordered.specs.declared.node.Node.{Node}

module _ {K V : Type 0} (order : K → K → Ordering) (nodes : List (Node K V)) (key : K) where
  -- the keys below `low` are less, and those from `high` on are not
  pub record Between (low high : ℕ) : Type 0 where
    pub within : low ≤ length nodes
    pub below : (i : ℕ) (d : Node K V) → i < low → order (slice_index_or nodes i d).key key ≡ Less
    pub above : (i : ℕ) (d : Node K V) → high ≤ i → i < length nodes → is_lt (order (slice_index_or nodes i d).key key) ≡ false

  -- the key stands at i
  pub record At (i : ℕ) : Type 0 where
    pub within : i < length nodes
    pub is : (d : Node K V) → (slice_index_or nodes i d).key ≡ key

  -- the key stands nowhere, and would go to i
  pub record Gap (i : ℕ) : Type 0 where
    pub within : i ≤ length nodes
    pub below : (j : ℕ) (d : Node K V) → j < i → order (slice_index_or nodes j d).key key ≡ Less
    pub above : (j : ℕ) (d : Node K V) → i ≤ j → j < length nodes → order key (slice_index_or nodes j d).key ≡ Less
