use Rattle.fix.proofs.Writes.{wrote_more}
use Rattle.fix.proofs.writing.put_kind.Goals as goal

pub returns : goal.returns
returns c = wrote_more _ _ c.text.ensures c.requires.room c.numbers.ensures
