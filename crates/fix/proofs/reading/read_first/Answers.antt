use Rattle.std.proofs.Common.{◌≡◌, ℕ, ◌≤◌, length, drop, sym, refl, ap, ◌∙◌, arith}
use Rattle.std.proofs.lemmas.Result.{err_from_is_err_and}
use Rattle.answers.specs.Answer.{answered}
use Rattle.fields.specs.Row.{wrong, right}
use Rattle.fix.specs.declared.refusal.MessageRefusal.{MessageRefusal}
use Rattle.fix.specs.declared.refusal.MessageRefusal.TheVariants.{WrongField, WrongCount, WrongSum}
use Rattle.fix.specs.Command.{figures}
use Rattle.fix.specs.Message.{form, checked, with_length, parse_first}
use Rattle.fix.specs.Refusal.{refusal}
use Rattle.fix.specs.Step.{form_of}
use Rattle.fix.proofs.Checks.{at_start, first_wrong, first_formed}
use Rattle.fix.proofs.Whole.{first_takes}
use Rattle.fix.proofs.reading.read_first.Goals as goal
use Rattle.fix.proofs.reading.read_first.Goals.{In_ok-form}

pub returns-in_err-form : goal.returns-in_err-form
returns-in_err-form c =
    let bs = c.args.bytes.now in
    let w = c.in_err-form.field-0.0 in
    let p = err_from_is_err_and c.from_residual.result c.from_residual.ensures.1 in
    let new = c.new-reader.ensures in
    let f = at_start (λ l a. (form (drop a l) ≡ wrong (drop w.place l)) × (w.place ≤ length l)) _ bs _ new.source new.start c.in_err-form.ensures.walked.reads in
    record {
      answer = rw p.1 (ap refusal p.2 ∙ sym (first_wrong bs _ f.1 f.0));
      inside = rw p.1 (rw p.2 f.1);
    }

formed : (c : In_ok-form) → parse_first c.args.bytes.now ≡ with_length c.read_form.new.reader.at (checked c.args.bytes.now (form_of c.args.bytes.now c.in_ok-form.form))
formed c =
    let bs = c.args.bytes.now in
    let new = c.new-reader.ensures in
    let at = c.read_form.new.reader.at in
    let found = c.in_ok-form.form in
    let is = at_start (λ l a. form (drop a l) ≡ right (form_of l found) (drop at l)) _ bs _ new.source new.start
    (c.in_ok-form.ensures.walked.reads ∙ ap (λ l. right (form_of c.new-reader.result.bytes.now found) (drop at l)) c.in_ok-form.ensures.walked.source) in
    let same = ap length (c.in_ok-form.ensures.walked.source ∙ new.source) in
    let inside : at ≤ length bs = omega (arith, same, c.read_form.new.reader.inside) in
    first_formed bs _ at is inside

-- a refusal says nothing of lengths
same_refusal : (n : ℕ) (x : MessageRefusal) → refusal x ≡ with_length n (refusal x)
same_refusal n (WrongField place) = refl
same_refusal n WrongCount = refl
same_refusal n WrongSum = refl

pub returns-in_err-command : goal.returns-in_err-command
returns-in_err-command c =
    let at = c.read_form.new.reader.at in
    let x = c.in_err-command.field-0.0 in
    let p = err_from_is_err_and c.from_residual-in_err-command.result c.from_residual-in_err-command.ensures.1 in
    record {
      answer = rw p.1 (ap refusal p.2 ∙ same_refusal at x ∙ ap (with_length at) c.in_err-command.ensures.answer ∙ sym (formed (goal.at.returns-in_err-command c).In_ok-form));
      inside = rw p.1 (rw p.2 (omega (arith, c.in_err-command.ensures.placeless)));
    }

pub returns : goal.returns
returns c =
    let bs = c.args.bytes.now in
    let at = c.read_form.new.reader.at in
    let command = figures c.in_ok-command.command in
    let is : answered (command, c.place.result) ≡ parse_first bs =
    ap (λ n. answered (command, n)) c.place.ensures.value ∙ ap (with_length at) c.in_ok-command.ensures.answer ∙ sym (formed (goal.at.returns c).In_ok-form) in
    record { answer = is; inside = first_takes bs command c.place.result (sym is) }
