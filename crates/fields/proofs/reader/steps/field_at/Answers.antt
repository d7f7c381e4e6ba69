use Rattle.std.proofs.Common.{◌≡◌, ◌+◌, drop, arith, length-drop}
use Rattle.std.proofs.lemmas.List.{take_rest}
use Rattle.fields.specs.Field.{bind, of_tag, front}
use Rattle.fields.specs.Numeral.{numeral}
use Rattle.fields.proofs.Fronts.{tag_at, value_at, no_end, no_equals, at_tag, tag_none, tag_unknown, tag_known}
use Rattle.fields.proofs.reader.steps.field_at.Goals as goal
use Rattle.fields.proofs.reader.steps.field_at.Goals.{In_ok-equals}

pub returns-in_err-end : goal.returns-in_err-end
returns-in_err-end c =
    let none = no_end c.args.bytes.now c.args.at (c.in_err-end.ensures) in
    rw c.from_residual.ensures none

pub returns-in_err-equals : goal.returns-in_err-equals
returns-in_err-equals c =
    let none = no_equals c.args.bytes.now c.args.at _ c.in_ok-end.ensures (c.in_err-equals.ensures) in
    rw c.from_residual-in_err-equals.ensures none

-- past both searches
tagged : (c : In_ok-equals) → front (drop c.args.at c.args.bytes.now) ≡ bind (numeral 1 99 (tag_at c.args.bytes.now c.args.at c.in_ok-end.end c.in_ok-equals.equals)) (of_tag (value_at c.args.bytes.now c.args.at c.in_ok-end.end c.in_ok-equals.equals) (drop (c.args.at + c.in_ok-end.end + 1) c.args.bytes.now))
tagged c = at_tag c.args.bytes.now c.args.at _ c.in_ok-end.ensures _ c.in_ok-equals.ensures

pub returns-in_err-tag : goal.returns-in_err-tag
returns-in_err-tag c =
    let none = tag_none _ _ _ _ (tagged (goal.at.returns-in_err-tag c).In_ok-equals) c.in_err-tag.ensures.value in
    rw c.from_residual-in_err-tag.ensures none

pub returns-in_err-field : goal.returns-in_err-field
returns-in_err-field c =
    let none = tag_unknown _ _ _ _ (tagged (goal.at.returns-in_err-field c).In_ok-equals) _ c.in_ok-tag.ensures.value c.in_err-field.ensures in
    rw c.from_residual-in_err-field.ensures none

pub returns : goal.returns
returns c =
    let new = c.in_ok-field.ensures in
    let inside = c.in_ok-end.ensures.0 in
    (tag_known _ _ _ _ (tagged (goal.at.returns c).In_ok-equals) _ _ _ c.in_ok-tag.ensures.value new.0 new.1 new.2, omega arith, omega (arith, simp take_rest at inside, length-drop c.args.at c.args.bytes.now, c.requires.inside))
