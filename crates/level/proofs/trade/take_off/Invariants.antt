use Rattle.std.proofs.Common.{◌≡◌, ◌≤◌, ◌++◌, take, drop, vec_items, vec_len, vec_capacity}
use Rattle.market.specs.Put.{after_fills}
use Rattle.level.proofs.trade.take_off.Given as goal

abbrev pub invariant-loop-i : goal.invariant-loop-i
invariant-loop-i l = (l.stay ≤ l.i) × (vec_len l.queue ≡ vec_len l.initial.queue) × (vec_capacity l.queue ≡ vec_capacity l.initial.queue) × (take l.stay (vec_items l.queue) ++ after_fills (drop l.i l.fills) (drop l.i (vec_items l.queue)) ≡ after_fills l.fills (vec_items l.initial.queue))
