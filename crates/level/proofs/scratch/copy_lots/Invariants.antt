use Rattle.std.proofs.Common.{◌≡◌, ◌++◌, drop, vec_items, vec_len, vec_capacity}
use Rattle.market.specs.Market.{lots_of}
use Rattle.level.proofs.scratch.copy_lots.Given as goal

abbrev pub invariant-loop-resting : goal.invariant-loop-resting
invariant-loop-resting l = (vec_items l.lots ++ lots_of (drop l.resting-index l.queue) ≡ lots_of l.queue) × (vec_len l.lots ≡ l.resting-index) × (vec_len l.fills ≡ l.resting-index) × (vec_capacity l.lots ≡ vec_capacity l.initial.lots) × (vec_capacity l.fills ≡ vec_capacity l.initial.fills)
