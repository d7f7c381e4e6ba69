use Rattle.std.proofs.Common.{◌≡◌, ◌*◌, ◌≤◌, map, take, sum}
use Rattle.allocation.specs.ProRata.{share}
use Rattle.allocation.proofs.policies.pro_rata.give_shares.Given as goal

-- the bound keeps the sum within 64 bits
abbrev pub invariant-loop-i : goal.invariant-loop-i
invariant-loop-i l =
    (l.given ≤ 4294967295 * l.i)
    × (l.given ≡ sum (map (share l.trades l.total) (take l.i l.lots)))
    × (take l.i l.fills ≡ map (share l.trades l.total) (take l.i l.lots))
