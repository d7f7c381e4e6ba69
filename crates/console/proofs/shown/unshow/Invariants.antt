use Rattle.std.proofs.Common.{◌≡◌, ◌++◌, map, take, drop}
use Rattle.console.specs.Shown.{unshown}
use Rattle.console.proofs.shown.unshow.Given as goal

abbrev pub invariant-loop-b : goal.invariant-loop-b
invariant-loop-b l = l.bytes ≡ map unshown (take l.b-index l.initial.bytes) ++ drop l.b-index l.initial.bytes
