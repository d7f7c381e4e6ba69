use Rattle.std.proofs.Common.{arith}
use Rattle.fields.proofs.Numerals.{numeral_only, numeral_back}
use Rattle.fields.proofs.Rows.{number_lawful, step_back, step_only}
use Rattle.fields.proofs.reader.steps.every_spelling_is_read_back.Goals as goal

pub returns : goal.returns
returns c = record {
  back = λ tag low high n rest k small pos l h. step_back _ (number_lawful tag low high k (omega arith)) n rest (numeral_back low high n (omega arith) l h (omega arith));
  only = λ tag low high n bytes rest k small e.
      let r = step_only _ (number_lawful tag low high k (omega arith)) bytes n rest e in
      let range = numeral_only low high n _ (omega arith) r.1 in
      (r.0, range.1, range.2);
}
