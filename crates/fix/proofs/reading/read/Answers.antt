use Rattle.std.proofs.Common.{◌≡◌, ◌≤◌, [], ◌∷◌, length, drop, sym, ap, ◌∙◌, arith}
use Rattle.std.proofs.lemmas.Result.{err_from_is_err_and}
use Rattle.answers.specs.Answer.{refused}
use Rattle.fields.specs.Row.{wrong, right}
use Rattle.fix.specs.Message.{form}
use Rattle.fix.specs.Refusal.{refusal}
use Rattle.fix.specs.Step.{form_of}
use Rattle.fix.proofs.Checks.{at_start, parse_wrong, parse_more, parse_all}
use Rattle.fix.proofs.reading.read.Goals as goal
use Rattle.fix.proofs.reading.read.Goals.{In_ok-form}

pub returns-in_err-form : goal.returns-in_err-form
returns-in_err-form c =
    let bs = c.args.bytes.now in
    let w = c.in_err-form.field-0.0 in
    let p = err_from_is_err_and c.from_residual.result c.from_residual.ensures.1 in
    let new = c.new-reader.ensures in
    let f = at_start (λ l a. (form (drop a l) ≡ wrong (drop w.place l)) × (w.place ≤ length l)) _ bs _ new.source new.start c.in_err-form.ensures.walked.reads in
    record { answer = rw p.1 (ap refusal p.2 ∙ sym (parse_wrong bs _ f.1 f.0)) }

formed : (c : In_ok-form) → form c.args.bytes.now ≡ right (form_of c.args.bytes.now c.in_ok-form.form) (drop c.read_form.new.reader.at c.args.bytes.now)
formed c =
    let bs = c.args.bytes.now in
    let new = c.new-reader.ensures in
    let at = c.read_form.new.reader.at in
    let found = c.in_ok-form.form in
    at_start (λ l a. form (drop a l) ≡ right (form_of l found) (drop at l)) _ bs _ new.source new.start
    (c.in_ok-form.ensures.walked.reads ∙ ap (λ l. right (form_of c.new-reader.result.bytes.now found) (drop at l)) c.in_ok-form.ensures.walked.source)

pub returns-then-place-bytes : goal.returns-then-place-bytes
returns-then-place-bytes c =
    let at = c.place-place.ensures.value in
    record { answer = ap (λ n. refused 11 (n ∷ [])) at ∙ sym (parse_more c.args.bytes.now _ _ (formed (goal.at.returns-then-place-bytes c).In_ok-form) (omega (arith, at, c.if-place-bytes.true))) }

pub returns : goal.returns
returns c =
    let at = c.place-place.ensures.value in
    record { answer = c.check.ensures.answer ∙ sym (parse_all c.args.bytes.now _ _ (formed (goal.at.returns c).In_ok-form) (omega (arith, at, c.if-place-bytes.false))) }
