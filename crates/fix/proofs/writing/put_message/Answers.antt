use Rattle.std.proofs.Common.{◌≡◌, ◌%◌, ◌≤◌, length, decimal, sum, sym, ap, ◌∙◌, subst, arith, rules}
use Rattle.fields.specs.Field.{written}
use Rattle.fix.specs.Command.{figures}
use Rattle.fix.specs.Layout.{three_digits}
use Rattle.fix.specs.Message.{values_of, body_by, front_by, render}
use Rattle.fix.specs.Writing.{Fits, Wrote, over_front}
use Rattle.fix.proofs.Bodies.{head_room, count_room, body_room, trailer_room, summed, whole}
use Rattle.fix.proofs.Lengths.{body_length}
use Rattle.fix.proofs.Values.{commands_are_valid}
use Rattle.fix.proofs.writing.put_message.Goals as goal
use Rattle.fix.proofs.writing.put_message.Goals.{After-new-message, After-number, After-sum_of-sum, After-text-2}

room : (c : After-new-message) → length (render (figures c.args.command.now)) ≤ length c.new-message.result.out.now
room c = rw c.new-message.ensures.out c.requires.room

pub text-requires : goal.text-requires
text-requires c = record { room = head_room (figures c.args.command.now) c.new-message.result c.new-message.ensures.start (room (goal.at.text-requires c).After-new-message) }

pub overflow_cast-body : goal.overflow_cast-body
overflow_cast-body c = let size = body_length (figures c.args.command.now) (commands_are_valid c.args.command.now) in omega (arith, c.requires.body)

pub number-requires : goal.number-requires
number-requires c = record {
  room = subst (λ n. Fits c.text.new.self (written 9 (decimal n))) (sym c.requires.body) (count_room (figures c.args.command.now) c.new-message.result c.new-message.ensures.start (room (goal.at.number-requires c).After-new-message) c.text.ensures);
}

-- the count, of the body's length
counted : (c : After-number) → Wrote c.text.new.self c.number.new.self (written 9 (decimal (length (body_by (values_of (figures c.args.command.now))))))
counted c = subst (λ n. Wrote c.text.new.self c.number.new.self (written 9 (decimal n))) c.requires.body c.number.ensures

pub put_body-requires : goal.put_body-requires
put_body-requires c =
    let at = goal.at.put_body-requires c in
    record { room = body_room (figures c.args.command.now) c.new-message.result c.new-message.ensures.start (room at.After-new-message) c.text.ensures (counted at.After-number) }

pub so_far-requires : goal.so_far-requires
so_far-requires c =
    let at = goal.at.so_far-requires c in
    let on : Fits c.put_body.new.message _ = trailer_room (figures c.args.command.now) c.new-message.result c.new-message.ensures.start (room at.After-new-message) c.text.ensures (counted at.After-number) c.put_body.ensures in
    record { inside = omega (arith, on) }

total : (c : After-sum_of-sum) → c.sum_of-sum.result ≡ sum (front_by (values_of (figures c.args.command.now))) % 256
total c =
    let at = goal.at.After-sum_of-sum c in
    c.sum_of-sum.ensures ∙ ap (λ l. sum l % 256) (c.so_far.ensures ∙ summed (figures c.args.command.now) c.new-message.result c.new-message.ensures.start (room at.After-new-message) c.text.ensures (counted at.After-number) c.put_body.ensures)

pub text-requires-2 : goal.text-requires-2
text-requires-2 c =
    let at = goal.at.text-requires-2 c in
    let on = trailer_room (figures c.args.command.now) c.new-message.result c.new-message.ensures.start (room at.After-new-message) c.text.ensures (counted at.After-number) c.put_body.ensures in
    record { room = subst (λ n. Fits c.put_body.new.message (written 10 (three_digits n))) (sym (total at.After-sum_of-sum)) on }

written_whole : (c : After-text-2) → (c.text-2.new.self.at ≡ length (render (figures c.args.command.now))) × (c.text-2.new.self.out.now ≡ over_front c.args.out.now (render (figures c.args.command.now)))
written_whole c =
    let at = goal.at.After-text-2 c in
    let last = subst (λ n. Wrote c.put_body.new.message c.text-2.new.self (written 10 (three_digits n))) (total at.After-sum_of-sum) c.text-2.ensures in
    let w = whole (figures c.args.command.now) c.new-message.result c.new-message.ensures.start (room at.After-new-message) c.text.ensures (counted at.After-number) c.put_body.ensures last in
    (w.0, w.1 ∙ ap (λ b. over_front b (render (figures c.args.command.now))) c.new-message.ensures.out)

pub returns-clause-length : goal.returns-clause-length
returns-clause-length c = c.place.ensures ∙ (written_whole (goal.at.returns-clause-length c).After-text-2).0

pub returns-clause-out : goal.returns-clause-out
returns-clause-out c = let w = (written_whole (goal.at.returns-clause-out c).After-text-2).1 in search rules
