-- What users of a map may rely on, of any row whose keys ascend.
use Rattle.std.specs.Prelude.{◌≡◌, ℕ, ◌+◌, ◌<◌, ◌≤◌, true, List, [], length, is_some, Some, None, ◌≢◌, slice_index_or}
use Rattle.std.specs.declared.cmp.Ordering.TheVariants.{Less}
use Rattle.std.specs.declared.cmp.Ordering.{Ordering}
use Rattle.answers.specs.Answer.{answered, refused}
use Rattle.ordered.specs.declared.node.Node.{Node}
use Rattle.ordered.specs.Refusal.{insertion}
use Rattle.ordered.specs.Row.{node_with, lookup, put, without, with_value, value_set, ascending, first, last}

module _ {K : Type 0} (V : Type 0) (order : K → K → Ordering) where
  -- what is looked up after each change
  pub record LooksUp : Type 0 where
    -- a row of no nodes has no key
    pub empty : (key : K) → lookup {V = V} order [] key ≡ None
    -- under the key of a node that is put in stands its value, and under every other key what stood there
    pub put_same : (nodes : List (Node K V)) (node : Node K V) → lookup order (put order node nodes) node.key ≡ Some node.value
    pub put_other : (nodes : List (Node K V)) (node : Node K V) (other : K) → (other ≢ node.key) → lookup order (put order node nodes) other ≡ lookup order nodes other
    -- under a key that is taken out stands nothing, and under every other key what stood there
    pub without_same : (nodes : List (Node K V)) (key : K) → ascending order nodes ≡ true → lookup order (without order nodes key) key ≡ None
    pub without_other : (nodes : List (Node K V)) (key other : K) → (other ≢ key) → lookup order (without order nodes key) other ≡ lookup order nodes other
    -- the node with a key has that key
    pub with_key : (nodes : List (Node K V)) (key : K) (node : Node K V) → node_with order nodes key ≡ Some node → node.key ≡ key

  -- the keys ascend, and go on to
  pub record KeepsOrder : Type 0 where
    -- by places: each key is less than every later one
    pub ascends : (nodes : List (Node K V)) (i j : ℕ) (d : Node K V) → ascending order nodes ≡ true → i < j → j < length nodes → order (slice_index_or nodes i d).key (slice_index_or nodes j d).key ≡ Less
    pub empty : ascending {V = V} order [] ≡ true
    pub put_in : (nodes : List (Node K V)) (node : Node K V) → node_with order nodes node.key ≡ None → ascending order nodes ≡ true → ascending order (put order node nodes) ≡ true
    pub taken_out : (nodes : List (Node K V)) (key : K) → ascending order nodes ≡ true → ascending order (without order nodes key) ≡ true

  -- how many nodes there are after each change
  pub record Counts : Type 0 where
    pub put_in : (nodes : List (Node K V)) (node : Node K V) → length (put order node nodes) ≡ length nodes + 1
    pub taken_out : (nodes : List (Node K V)) (key : K) → is_some (node_with order nodes key) ≡ true → length (without order nodes key) + 1 ≡ length nodes
    pub not_there : (nodes : List (Node K V)) (key : K) → node_with order nodes key ≡ None → without order nodes key ≡ nodes

  -- a value that is written over where it lies
  pub record Writes : Type 0 where
    -- it stands under its key, and under every other key what stood there
    pub same : (nodes : List (Node K V)) (key : K) (value : V) → is_some (node_with order nodes key) ≡ true → lookup order (with_value order nodes key value) key ≡ Some value
    pub other : (nodes : List (Node K V)) (key other : K) (value : V) → (other ≢ key) → lookup order (with_value order nodes key value) other ≡ lookup order nodes other
    pub not_there : (nodes : List (Node K V)) (key : K) (value : V) → node_with order nodes key ≡ None → with_value order nodes key value ≡ nodes
    -- the keys stay
    pub ascends : (nodes : List (Node K V)) (key : K) (value : V) → ascending order (with_value order nodes key value) ≡ ascending order nodes
    pub count : (nodes : List (Node K V)) (key : K) (value : V) → length (with_value order nodes key value) ≡ length nodes
    -- the first place is that of the first key
    pub first_is : (nodes : List (Node K V)) (node : Node K V) (value : V) → first nodes ≡ Some node → value_set nodes 0 value ≡ with_value order nodes node.key value

  -- which insertions are refused
  pub record Insertions : Type 0 where
    pub there : (capacity : ℕ) (nodes : List (Node K V)) (key : K) → is_some (node_with order nodes key) ≡ true → insertion order capacity nodes key ≡ refused 94 []
    pub full : (capacity : ℕ) (nodes : List (Node K V)) (key : K) → node_with order nodes key ≡ None → capacity ≤ length nodes → insertion order capacity nodes key ≡ refused 95 []
    pub fits : (capacity : ℕ) (nodes : List (Node K V)) (key : K) → node_with order nodes key ≡ None → length nodes < capacity → insertion order capacity nodes key ≡ answered tt

  -- no key is less than the first, and none greater than the last
  pub record Ends : Type 0 where
    pub none : (nodes : List (Node K V)) → first nodes ≡ None → nodes ≡ []
    pub none_last : (nodes : List (Node K V)) → last nodes ≡ None → nodes ≡ []
    pub first_there : (nodes : List (Node K V)) (node : Node K V) → first nodes ≡ Some node → node_with order nodes node.key ≡ Some node
    pub last_there : (nodes : List (Node K V)) (node : Node K V) → ascending order nodes ≡ true → last nodes ≡ Some node → node_with order nodes node.key ≡ Some node
    pub least : (nodes : List (Node K V)) (node : Node K V) (key : K) → ascending order nodes ≡ true → first nodes ≡ Some node → is_some (node_with order nodes key) ≡ true → order key node.key ≢ Less
    pub greatest : (nodes : List (Node K V)) (node : Node K V) (key : K) → ascending order nodes ≡ true → last nodes ≡ Some node → is_some (node_with order nodes key) ≡ true → order node.key key ≢ Less
