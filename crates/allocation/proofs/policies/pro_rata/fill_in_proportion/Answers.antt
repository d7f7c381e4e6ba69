use Rattle.std.proofs.Common.{◌<◌, ◌≤◌, length, sym, subst, arith}
use Rattle.std.specs.List.{AllZip}
use Rattle.std.proofs.lemmas.List.Elements.{length_all_zip}
use Rattle.std.proofs.lemmas.Bool.{eqb-true, eqb-false}
use Rattle.allocation.proofs.Ranges.{sum_above}
use Rattle.allocation.specs.Shares.{shares_within, shares_le, pro_rata_none, pro_rata_made}
use Rattle.allocation.proofs.policies.pro_rata.fill_in_proportion.Goals as goal

pub returns-then-is_empty : goal.returns-then-is_empty
returns-then-is_empty c = record { writes = pro_rata_none c.args.quantity c.args.lots.now c.args.fills.now (eqb-true (length c.args.lots.now) 0 (sym c.if-is_empty.ensures)) c.requires.level }

pub give_shares-given-requires : goal.give_shares-given-requires
give_shares-given-requires c =
    let ls = c.args.lots.now in
    let some : 0 < length ls = omega (arith, eqb-false (length ls) 0 (sym c.if-is_empty.ensures)) in
    let above = sum_above ls c.requires.range.resting some in
    record { few = c.requires.range.few; level = c.requires.level; some = omega arith; part = omega arith; small = omega (arith, c.requires.range.incoming.1) }

pub overflow_sub-trades : goal.overflow_sub-trades
overflow_sub-trades c = omega (arith, shares_le c.min-trades.result c.total_of-total.result c.args.lots.now c.total_of-total.ensures.value, c.give_shares-given.ensures.value)

pub top_up-requires : goal.top_up-requires
top_up-requires c =
    let ls = c.args.lots.now in
    let within : AllZip ◌≤◌ c.give_shares-given.new.fills ls =
    subst (λ xs. AllZip ◌≤◌ xs ls) (sym c.give_shares-given.ensures.writes) (shares_within c.min-trades.result c.total_of-total.result ls (omega arith)) in
    record { level = sym (length_all_zip ◌≤◌ c.give_shares-given.new.fills ls within); within = within }

pub returns : goal.returns
returns c = record { writes = pro_rata_made c.args.quantity c.total_of-total.result c.min-trades.result c.give_shares-given.result c.args.lots.now c.give_shares-given.new.fills c.top_up.new.fills c.total_of-total.ensures.value c.min-trades.ensures c.give_shares-given.ensures.writes c.give_shares-given.ensures.value c.top_up.ensures.writes }
