use Rattle.std.proofs.Common.{◌≡◌, ℕ, zero, suc, ◌+◌, ◌-◌, ◌*◌, ◌%◌, ◌^◌, ◌<◌, Bool, true, false, sym, ap, ◌∙◌, mod-eq_of_lt, one-mul, pow-suc, zero-mul, arith, pow_pos}
use lib.Pow.{pow-lt}
use mir.Val.{bool_byte}
use Rattle.std.specs.Ordering.{is_lt}
use Rattle.ordered.specs.Order.{Total}
use Rattle.ordered.proofs.Orders.{total_from}
use Rattle.ordered.proofs.Between.{stepped, ended}
use Rattle.ordered.proofs.row.search.count_less.Given as given
use Rattle.ordered.proofs.row.search.count_less.Goals as goal

total : (g : given.Over) → Total g.K.Ord.cmp
total g = total_from g.met.K.Ord.total g.met.K.Key.same

-- the steps that are left reach as far as this step and as many again
halves : (bit : ℕ) → 0 < bit → 2 ^ bit ≡ 2 ^ (bit - 1) + 2 ^ (bit - 1)
halves zero h = absurd (omega arith)
halves (suc b) h = let e : suc b - 1 ≡ b = omega arith in rw e (pow-suc 2 b ∙ omega arith)

-- a step does not pass the word
step_is : (bit : ℕ) → bit < 64 → (1 * 2 ^ bit) % 18446744073709551616 ≡ 2 ^ bit
step_is bit h = ap (λ n. n % 18446744073709551616) (one-mul (2 ^ bit)) ∙ mod-eq_of_lt (pow-lt h)

bit_is : (b : Bool) (bit : ℕ) → bit < 64 → (bool_byte b * 2 ^ bit) % 18446744073709551616 ≡ bool_byte b * 2 ^ bit
bit_is true bit h = step_is bit h ∙ sym (one-mul (2 ^ bit))
bit_is false bit h = ap (λ n. n % 18446744073709551616) (zero-mul (2 ^ bit)) ∙ sym (zero-mul (2 ^ bit))

pub loop-bit-init : goal.loop-bit-init
loop-bit-init g c = record { within = omega arith; below = λ i d b. absurd (omega arith); above = λ i d b w. absurd (omega (arith, c.requires.short)) }

pub overflow_sub-nodes : goal.overflow_sub-nodes
overflow_sub-nodes g c = c.loop-bit.invariant.within

pub loop-bit-preserved-then-step-nodes : goal.loop-bit-preserved-then-step-nodes
loop-bit-preserved-then-step-nodes g c =
    let bit = c.loop-bit.bit - 1 in
    let step = step_is bit (omega arith) in
    let reach = halves c.loop-bit.bit (omega arith) in
    let some = pow_pos bit in
    stepped g.K.Ord.cmp (total g) c.args.nodes.now c.requires.ascending c.args.key.now c.loop-bit.low _ _ (2 ^ bit) _ c.is_lt-less.result c.loop-bit.invariant (omega arith) (c.is_lt-less.ensures ∙ ap is_lt c.cmp.ensures) (omega arith) (omega arith) _ (ap (λ n. c.loop-bit.low + n) (bit_is c.is_lt-less.result bit (omega arith)))

pub loop-bit-preserved : goal.loop-bit-preserved
loop-bit-preserved g c =
    let step = step_is (c.loop-bit.bit - 1) (omega arith) in
    ended g.K.Ord.cmp (total g) c.args.nodes.now c.requires.ascending c.args.key.now _ _ _ c.loop-bit.invariant (omega arith)
