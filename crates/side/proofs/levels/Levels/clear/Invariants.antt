use Rattle.std.proofs.Common.{◌≡◌, ◌+◌, ◌≤◌, length, vec_len, vec_capacity}
use Rattle.ordered.specs.Kept.{Sound}
use Rattle.ordered.specs.Order.{by_price}
use Rattle.side.proofs.levels.Levels.clear.Given as goal

abbrev pub invariant-loop-node : goal.invariant-loop-node
invariant-loop-node l = record {
  sound : Sound by_price l.self-inside.held;
  capacity : l.self-inside.held.capacity ≡ 1024;
  together : vec_len l.self-inside.spare + length l.self-inside.held.nodes ≡ 1024;
  reserved : 1024 ≤ vec_capacity l.self-inside.spare;
}

abbrev pub decreases-loop-node : goal.decreases-loop-node
decreases-loop-node l = length l.self-inside.held.nodes
