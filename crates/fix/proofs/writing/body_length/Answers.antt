use Rattle.std.proofs.Common.{◌≡◌, ℕ, ◌+◌, ◌≤◌, List, [], ◌∷◌, ◌++◌, length, sym, ap, ◌∙◌, arith, length-append}
use Rattle.fields.specs.Field.{written}
use Rattle.fix.specs.declared.writer.Numbered.{Numbered}
use Rattle.fix.specs.declared.command.Command as code
use Rattle.fix.specs.Command.{figures}
use Rattle.fix.specs.Message.{values_of, body_by}
use Rattle.fix.specs.Writing.{numbers}
use Rattle.fix.proofs.Bodies.{new_order_body, cancel_body}
use Rattle.fix.proofs.Lengths.{body_length, kind_length}
use Rattle.fix.proofs.Values.{commands_are_valid}
use Rattle.fix.proofs.writing.body_length.Goals as goal
use Rattle.fix.proofs.writing.body_length.Goals.{After-numbers_length, After-numbers_length-in-Cancel}

pub record Sized (c : code.Command) (n : ℕ) : Type 0 where
  pub value : n ≡ length (body_by (values_of (figures c)))
  pub range : (20 ≤ n) × (n ≤ 64)

sized : (c : code.Command) (k n : ℕ) (fs : List Numbered) → written 35 (k ∷ []) ++ numbers fs ≡ body_by (values_of (figures c)) → n ≡ length (numbers fs) → Sized c (5 + n)
sized c k n fs is e =
    let kind = kind_length k in
    let size = body_length (figures c) (commands_are_valid c) in
    let all = sym (length-append (written 35 (k ∷ [])) (numbers fs)) ∙ ap length is in
    record { value = omega arith; range = (omega arith, omega arith) }

in_New : (c : After-numbers_length) → Sized c.args.command.now (5 + c.numbers_length.result)
in_New c = sized c.args.command.now 68 _ c.order_fields.result (new_order_body c.args.command.now _ _ c.in-New.is c.order_fields.ensures) c.numbers_length.ensures

in_Cancel : (c : After-numbers_length-in-Cancel) → Sized c.args.command.now (5 + c.numbers_length-in-Cancel.result)
in_Cancel c = sized c.args.command.now 70 _ c.cancel_fields.result (cancel_body c.args.command.now _ _ c.in-Cancel.is c.cancel_fields.ensures) c.numbers_length-in-Cancel.ensures

pub overflow_add-result : goal.overflow_add-result
overflow_add-result c = omega (arith, (in_New (goal.at.overflow_add-result c).After-numbers_length).range)

pub overflow_add-result-in-Cancel : goal.overflow_add-result-in-Cancel
overflow_add-result-in-Cancel c = omega (arith, (in_Cancel (goal.at.overflow_add-result-in-Cancel c).After-numbers_length-in-Cancel).range)

pub returns-in-New : goal.returns-in-New
returns-in-New c = let s = in_New (goal.at.returns-in-New c).After-numbers_length in record { value = s.value; range = s.range }

pub returns-in-Cancel : goal.returns-in-Cancel
returns-in-Cancel c = let s = in_Cancel (goal.at.returns-in-Cancel c).After-numbers_length-in-Cancel in record { value = s.value; range = s.range }
