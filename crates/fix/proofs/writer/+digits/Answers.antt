use Rattle.std.proofs.Common.{◌^◌, ◌<◌, sym, arith}
use Rattle.std.proofs.lemmas.Fmt.{length-decimal-le}
use Rattle.fix.proofs.Lengths.{one_digit, more_digits}
use Rattle.fix.proofs.writer.+digits.Goals as goal

pub returns-then-n-lt10 : goal.returns-then-n-lt10
returns-then-n-lt10 t c = record { value = sym (one_digit _ c.if-n-lt10.true); few = omega arith }

pub returns-else-n-lt10 : goal.returns-else-n-lt10
returns-else-n-lt10 t c =
    let small : c.args.n < 2 ^ 64 = omega arith in
    let more = more_digits c.args.n c.if-n-lt10.false small in
    let most = length-decimal-le 10 c.args.n (omega arith) (omega arith) small in
    let is = c.digits.ensures.value in
    record { value = omega arith; few = omega arith }
