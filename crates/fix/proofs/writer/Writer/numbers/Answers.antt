use Rattle.std.proofs.Common.{◌+◌, drop, sym, subst}
use Rattle.std.proofs.lemmas.List.{at_drop_all}
use Rattle.fix.specs.Writing.{Fits, Wrote, numbers}
use Rattle.fix.proofs.Writes.{fits_front, fits_after, wrote_more, wrote_none, next}
use Rattle.fix.proofs.writer.Writer.numbers.Goals as goal

pub loop-field-init : goal.loop-field-init
loop-field-init c = record { room = c.requires.room; whole = λ w p. p }

pub number-requires : goal.number-requires
number-requires c =
    let fs = c.args.fields.now in
    let i = c.loop-field.field-index in
    record { room = fits_front c.loop-field.self _ (numbers (drop (i + 1) fs)) (subst (Fits c.loop-field.self) (next fs i c.loop-field-test.true) c.loop-field.invariant.room) }

pub loop-field-preserved : goal.loop-field-preserved
loop-field-preserved c =
    let fs = c.args.fields.now in
    let i = c.loop-field.field-index in
    let is = next fs i c.loop-field-test.true in
    let room = subst (Fits c.loop-field.self) is c.loop-field.invariant.room in
    record {
      room = fits_after _ _ c.number.ensures room;
      whole = λ w p. c.loop-field.invariant.whole w (subst (Wrote c.loop-field.self w) (sym is) (wrote_more _ _ c.number.ensures room p));
    }

pub returns : goal.returns
returns c =
    let none = at_drop_all numbers c.args.fields.now _ c.loop-field-test.false in
    c.loop-field.invariant.whole _ (subst (Wrote c.loop-field.self c.loop-field.self) (sym none) (wrote_none c.loop-field.self))
