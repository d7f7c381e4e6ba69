-- What an insertion answers, in the terms that all contracts share. No refusal has figures; the node is handed back.
use Rattle.std.specs.Prelude.{◌≡◌, ℕ, ◌<◌, ◌≤◌, true, cond, List, [], length, is_some, None, Ok, Err, Result, nat_lt}
use Rattle.std.specs.declared.cmp.Ordering.{Ordering}
use Rattle.answers.specs.Answer.{Answer, answered, refused}
use Rattle.ordered.specs.declared.node.Node.{Node}
use Rattle.ordered.specs.declared.refusal.InsertRefusal.{InsertRefusal}
use Rattle.ordered.specs.declared.refusal.InsertRefusal.TheVariants.{KeyIsThere, NoRoom}
use Rattle.ordered.specs.Row.{node_with, put}

abbrev pub number_of : {K V : Type 0} → InsertRefusal K V → ℕ
number_of (KeyIsThere node) = 94
number_of (NoRoom node) = 95

abbrev pub handed_back : {K V : Type 0} → InsertRefusal K V → Node K V
handed_back (KeyIsThere node) = node
handed_back (NoRoom node) = node

abbrev pub answer : {A K V : Type 0} → Result A (InsertRefusal K V) → Answer A
answer (Ok a) = answered a
answer (Err refusal) = refused (number_of refusal) []

-- whether one more fits where there is memory for `capacity`
abbrev pub room : ℕ → ℕ → Answer (Unit {0})
room capacity count = cond (nat_lt count capacity) (answered tt) (refused 95 [])

-- the answer for a node with this key, in a map of these nodes
unfoldable pub insertion : {K V : Type 0} (order : K → K → Ordering) → ℕ → List (Node K V) → K → Answer (Unit {0})
insertion order capacity nodes key = cond (is_some (node_with order nodes key)) (refused 94 []) (room capacity (length nodes))

-- The same by cases, for callers that go on: what holds of a map of nodes `before` and `after`, at each outcome.
module _ {K V : Type 0} (order : K → K → Ordering) (capacity : ℕ) (node : Node K V) (before after : List (Node K V)) where
  pub record Done : Type 0 where
    pub new : node_with order before node.key ≡ None
    pub fits : length before < capacity
    pub nodes : after ≡ put order node before

  pub record There (back : Node K V) : Type 0 where
    pub same : back ≡ node
    pub there : is_some (node_with order before node.key) ≡ true
    pub nodes : after ≡ before

  pub record Full (back : Node K V) : Type 0 where
    pub same : back ≡ node
    pub new : node_with order before node.key ≡ None
    pub full : capacity ≤ length before
    pub nodes : after ≡ before

  abbrev pub Inserted : Result (Unit {0}) (InsertRefusal K V) → Type 0
  Inserted (Ok done) = Done
  Inserted (Err (KeyIsThere back)) = There back
  Inserted (Err (NoRoom back)) = Full back
