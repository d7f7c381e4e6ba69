use Rattle.fix.specs.Writing.{Fits, Wrote, numbers}
use Rattle.fix.specs.declared.writer.Writer.{Writer}
use Rattle.std.proofs.Common.{drop}
use Rattle.fix.proofs.writer.Writer.numbers.Given as goal

-- there is room for what is left, and where that is written, all is
abbrev pub invariant-loop-field : goal.invariant-loop-field
invariant-loop-field l = record {
  room : Fits l.self (numbers (drop l.field-index l.fields));
  whole : (w : Writer) → Wrote l.self w (numbers (drop l.field-index l.fields)) → Wrote l.initial.self w (numbers l.fields);
}
