use Rattle.std.proofs.Common.{◌≡◌, Bool, true, false, cond, leb, [], length, sym, refl, ap, ◌∙◌}
use Rattle.fix.specs.Refusal.{tested_order, range_refusal}
use Rattle.fix.specs.declared.command.Side.{Side}
use Rattle.fix.specs.declared.refusal.OutOfRange.{OutOfRange}
use Rattle.fix.specs.declared.refusal.OutOfRange.TheVariants.{Member, Number, Order, Lots, Price}
use Rattle.exports.specs.Message.{text_of, order_of, written_length, written_into}
use Rattle.exports.proofs.messages.lezdamir_write.Goals as goal

no_text : (e : OutOfRange) → text_of (range_refusal e) ≡ []
no_text Member = refl
no_text Number = refl
no_text Order = refl
no_text Lots = refl
no_text Price = refl

same : {A : Type 0} (b : Bool) (x : A) → x ≡ cond b x x
same true x = refl
same false x = refl

pub returns-in-Err : goal.returns-in-Err
returns-in-Err c =
    let a = c.args in
    let b = c.args.out.now in
    let nothing : text_of (tested_order (order_of a.member a.number a.order a.buys a.lots a.price)) ≡ [] =
    ap (λ (s : Side). text_of (tested_order (record { member = a.member; number = a.number; order = a.order; side = s; lots = a.lots; price = a.price }))) (sym c.side_of-side.ensures.value)
    ∙ ap text_of (sym c.in-Err.ensures.answer) ∙ no_text c.in-Err._range in
    record {
      value = same (leb 0 (length b)) 0 ∙ ap (λ t. written_length t (length b)) (sym nothing);
      writes = same (leb 0 (length b)) b ∙ ap (λ t. written_into t b) (sym nothing);
    }
