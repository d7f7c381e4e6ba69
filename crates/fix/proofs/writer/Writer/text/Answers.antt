use Rattle.std.proofs.Common.{decimal}
use Rattle.fix.proofs.Writes.{wrote_field}
use Rattle.fix.proofs.writer.Writer.text.Goals as goal

pub returns : goal.returns
returns c = wrote_field (decimal c.args.tag) c.args.text.now c.requires.room c.decimal.ensures c.byte.ensures c.bytes.ensures c.byte-2.ensures
