use Rattle.std.proofs.Common.{decimal}
use Rattle.fix.proofs.Writes.{wrote_field}
use Rattle.fix.proofs.writer.Writer.number.Goals as goal

pub returns : goal.returns
returns c = wrote_field (decimal c.args.tag) (decimal c.args.number) c.requires.room c.decimal.ensures c.byte.ensures c.decimal-2.ensures c.byte-2.ensures
