use Rattle.std.proofs.Common.{refl, arith}
use Rattle.fields.specs.Field.{front}
use Rattle.fields.specs.Numeral.{numeral}
use Rattle.fix.specs.Law.{WorkedExample}
use Rattle.fix.specs.Message.{parse}
use Rattle.fix.proofs.Lengths.{body_length, render_length}
use Rattle.fix.proofs.Values.{commands_are_valid}
use Rattle.fix.proofs.Whole.{written_is_read, read_is_written, first_written_is_read, first_read_is_written}
use Rattle.fix.proofs.laws.one_spelling.Goals as goal

worked : WorkedExample
unfolding parse front numeral
worked = record { reads = refl; long = refl }

pub returns : goal.returns
returns c = record {
  back = written_is_read;
  only = read_is_written;
  first_back = λ c rest v. first_written_is_read c v rest;
  first_only = first_read_is_written;
  valid = commands_are_valid;
  example = worked;
  lengths = λ c v.
      let size = body_length c v in
      let is = render_length c v in
      (omega arith, omega arith);
}
