-- What a map holds: its nodes in the order of their keys, and how many it has memory for.
use Rattle.std.specs.Prelude.{◌≡◌, ℕ, ◌≤◌, true, List, length}
use Rattle.std.specs.declared.cmp.Ordering.{Ordering}
use Rattle.ordered.specs.declared.node.Node.{Node}
use Rattle.ordered.specs.Row.{ascending}

pub record Kept (K V : Type 0) : Type 0 where
  pub nodes : List (Node K V)
  pub capacity : ℕ

-- what holds of every map
pub record Sound {K V : Type 0} (order : K → K → Ordering) (map : Kept K V) : Type 0 where
  pub ascends : ascending order map.nodes ≡ true
  pub inside : length map.nodes ≤ map.capacity

abbrev pub with_nodes : {K V : Type 0} → Kept K V → List (Node K V) → Kept K V
with_nodes map nodes = record { nodes = nodes; capacity = map.capacity }
