use Rattle.std.proofs.Common.{◌≡◌, ◌≤◌, ◌++◌, take, drop}
use Rattle.std.specs.List.{AllZip}
use Rattle.allocation.specs.ProRata.{topped_up}
use Rattle.allocation.proofs.policies.pro_rata.top_up.Given as goal

abbrev pub invariant-loop-i : goal.invariant-loop-i
invariant-loop-i l =
    AllZip ◌≤◌ (drop l.i l.fills) (drop l.i l.lots)
    × (take l.i l.fills ++ topped_up l.left (drop l.i l.fills) (drop l.i l.lots) ≡ topped_up l.more l.initial.fills l.lots)
