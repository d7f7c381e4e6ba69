use Rattle.std.proofs.Common.{◌+◌, length}
use Rattle.fix.specs.Command.{order_figures}
use Rattle.side.specs.Meeting.{Meeting}
use Rattle.side.proofs.levels.Levels.meet.Given as goal

abbrev pub invariant-loop-side : goal.invariant-loop-side
invariant-loop-side g l =
    Meeting (g.P.Policy.split l.policy) (order_figures l.order) l.side l.initial.after.written l.initial.self l.self l.initial.list l.list l.after.left l.after.written

-- a level goes, or the lots left do
abbrev pub decreases-loop-side : goal.decreases-loop-side
decreases-loop-side g l = length l.self + l.after.left
