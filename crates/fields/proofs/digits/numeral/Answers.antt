use Rattle.std.proofs.Common.{◌<◌, ◌≤◌, length, get_or, Some, sym, ap, ◌∙◌, arith}
use Rattle.std.specs.Str.Parse.{digits_value}
use Rattle.std.specs.Str.{all_ascii_digits}
use Rattle.std.proofs.lemmas.Bool.{eqb-true, eqb-false}
use Rattle.std.proofs.lemmas.List.{take_all}
use Rattle.fields.proofs.Numerals.{none_first, bad_first, too_low, all_right, first_digit, turn_value, turn_digits, turn_bad, turn_past}
use Rattle.fields.proofs.digits.numeral.Goals as goal
use Rattle.fields.proofs.digits.numeral.Goals.{then-is_empty-via-then-is_empty, then-is_empty-via-else-is_empty+then-bytes-eq48}

pub returns-then-is_empty : goal.returns-then-is_empty
returns-then-is_empty c =
    let v = c.args.bytes.now in
    let first : get_or v 0 0 ≤ 48 = elim c.then-is_empty.branch [
      | then-is_empty-via-then-is_empty w ↦ none_first v (eqb-true _ _ (sym w.if-is_empty.ensures))
      | then-is_empty-via-else-is_empty+then-bytes-eq48 w ↦ omega (arith, w.if-bytes-eq48.true)
    ] in
    record { value = sym (bad_first c.args.low c.args.high v first); range = tt }

pub returns-then-not-is_ascii_digit : goal.returns-then-not-is_ascii_digit
returns-then-not-is_ascii_digit c =
    record { value = sym (turn_bad _ _ _ c.loop-b-test.true c.loop-b.invariant.1 _ _ (sym c.if-not-is_ascii_digit.ensures.value)); range = tt }

pub returns-then-n-high : goal.returns-then-n-high
returns-then-n-high c =
    record { value = sym (turn_past _ _ _ c.loop-b-test.true c.loop-b.invariant.1 _ _ (sym c.if-not-is_ascii_digit.ensures.value) c.if-n-high.true); range = tt }

pub loop-b-preserved : goal.loop-b-preserved
loop-b-preserved c =
    let digit = sym c.if-not-is_ascii_digit.ensures.value in
    (c.if-n-high.false, turn_value _ _ _ c.loop-b-test.true c.loop-b.invariant.1 digit, turn_digits _ _ _ c.loop-b-test.true c.loop-b.invariant.1 c.loop-b.invariant.2 digit)

pub returns-then-n-low : goal.returns-then-n-low
returns-then-n-low c =
    let all = take_all _ c.args.bytes.now c.loop-b-test.false in
    let is = c.loop-b.invariant.1 ∙ ap (digits_value 10) all in
    record { value = sym (too_low c.args.low c.args.high c.args.bytes.now (omega (arith, c.if-n-low.true))); range = tt }

pub returns-else-n-low : goal.returns-else-n-low
returns-else-n-low c =
    let v = c.args.bytes.now in
    let all = take_all _ v c.loop-b-test.false in
    let is = c.loop-b.invariant.1 ∙ ap (digits_value 10) all in
    let digits = ap all_ascii_digits (sym all) ∙ c.loop-b.invariant.2 in
    let some : 0 < length v = omega (arith, eqb-false _ _ (sym c.if-is_empty.ensures)) in
    let first = first_digit v some digits c.if-bytes-eq48.false in
    record {
      value = ap (λ n. Some n) is ∙ sym (all_right c.args.low c.args.high v first digits (omega (arith, c.if-n-low.false)) (omega (arith, c.loop-b.invariant.0)));
      range = (c.if-n-low.false, c.loop-b.invariant.0);
    }
