use Rattle.std.proofs.Common.{◌+◌, [], ◌∷◌, length, sym, ap, ◌∙◌, arith}
use Rattle.answers.specs.Answer.{refused, if_answered}
use Rattle.fix.specs.Command.{figures}
use Rattle.fix.specs.Message.{render}
use Rattle.fix.specs.Writing.{over_front}
use Rattle.fix.proofs.Bodies.{no_room}
use Rattle.fix.proofs.Lengths.{render_length}
use Rattle.fix.proofs.Values.{commands_are_valid}
use Rattle.fix.proofs.writing.write.Goals as goal

pub returns-then-out-needed : goal.returns-then-out-needed
returns-then-out-needed c =
    let b = c.args.out.now in
    let command = figures c.args.command.now in
    let needed = ap (λ n. 22 + n) c.body_length-body.ensures.value ∙ sym (render_length command (commands_are_valid c.args.command.now)) in
    let none = no_room (length (render command)) b (omega (arith, needed, c.if-out-needed.true)) in
    record { answer = ap (λ n. refused 91 (n ∷ [])) needed ∙ sym none; out = ap (λ a. if_answered a (over_front b (render command)) b) (sym none) }

pub put_message-requires : goal.put_message-requires
put_message-requires c =
    let command = figures c.args.command.now in
    record { body = c.body_length-body.ensures.value; room = omega (arith, c.body_length-body.ensures.value, render_length command (commands_are_valid c.args.command.now), c.if-out-needed.false) }
