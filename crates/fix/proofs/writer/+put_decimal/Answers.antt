use Rattle.std.proofs.Common.{◌+◌, ◌/◌, ◌%◌, ◌<◌, length, set, decimal, sym, ap, ◌∙◌, arith, length-append}
use Rattle.std.proofs.lemmas.Fmt.{decimal_digit}
use Rattle.fix.specs.Writing.{over}
use Rattle.fix.proofs.Writes.{over_one, over_byte, last_digit}
use Rattle.fix.proofs.writer.+put_decimal.Goals as goal
use Rattle.fix.proofs.writer.+put_decimal.Goals.{Else-n-lt10}

pub bounds-out-at : goal.bounds-out-at
bounds-out-at t c = let long = ap length (decimal_digit c.args.n c.if-n-lt10.true) in omega (arith, c.requires.room)

pub returns-then-n-lt10 : goal.returns-then-n-lt10
returns-then-n-lt10 t c =
    let is = decimal_digit c.args.n c.if-n-lt10.true in
    let long = ap length is in
    let inside : c.args.at < length c.args.out.now = omega (arith, c.requires.room) in
    record { end = omega arith; out = over_one c.args.out.now c.args.at _ inside ∙ ap (over c.args.out.now c.args.at) (sym is) }

-- room for the front, and for the last digit
room : (t : _) (c : Else-n-lt10 t) → c.args.at + length (decimal (c.args.n / 10)) < length c.args.out.now
room t c =
    let long = ap length (last_digit c.args.n c.if-n-lt10.false (omega arith)) ∙ length-append (decimal (c.args.n / 10)) _ in
    omega (arith, c.requires.room)

pub put_decimal-end-requires : goal.put_decimal-end-requires
put_decimal-end-requires t c = (omega arith, omega (arith, room t (goal.at.put_decimal-end-requires t c).Else-n-lt10))

pub bounds-out-end : goal.bounds-out-end
bounds-out-end t c = omega (arith, room t (goal.at.bounds-out-end t c).Else-n-lt10, c.put_decimal-end.auto.out)

pub returns : goal.returns
returns t c =
    let before = c.put_decimal-end.ensures in
    let is = last_digit c.args.n c.if-n-lt10.false (omega arith) in
    let long = ap length is ∙ length-append (decimal (c.args.n / 10)) _ in
    record {
      end = omega (arith, before.end);
      out = (λ i. set (before.out i) (before.end i) (48 + c.args.n % 10))
          ∙ over_byte c.args.out.now c.args.at _ (decimal (c.args.n / 10)) (room t (goal.at.returns t c).Else-n-lt10)
          ∙ ap (over c.args.out.now c.args.at) (sym is);
    }
