use Rattle.std.proofs.Common.{◌+◌, sym, ap, ◌∙◌}
use Rattle.fix.specs.Command.{figures}
use Rattle.fix.proofs.Lengths.{render_length}
use Rattle.fix.proofs.Values.{commands_are_valid}
use Rattle.fix.proofs.writing.length.Goals as goal

pub returns : goal.returns
returns c = record { value = ap (λ n. 22 + n) c.body_length.ensures.value ∙ sym (render_length (figures c.args.command.now) (commands_are_valid c.args.command.now)) }
