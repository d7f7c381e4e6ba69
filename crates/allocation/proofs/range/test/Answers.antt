use Rattle.std.proofs.Common.{sym}
use Rattle.allocation.proofs.Ranges.{tested_lengths, tested_range, tested_fits}
use Rattle.allocation.proofs.range.test.Goals as goal

pub returns-then-lots-room : goal.returns-then-lots-room
returns-then-lots-room c = record { value = tested_lengths c.args.quantity c.args.lots.now c.args.room c.if-lots-room.true }

pub returns-then-not-is_in_range : goal.returns-then-not-is_in_range
returns-then-not-is_in_range c = record { value = tested_range c.args.quantity c.args.lots.now c.args.room c.if-lots-room.false (sym c.if-not-is_in_range.ensures.value) }

pub returns : goal.returns
returns c = record { value = tested_fits c.args.quantity c.args.lots.now c.args.room c.if-lots-room.false (sym c.if-not-is_in_range.ensures.value) }
