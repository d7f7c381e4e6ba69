use Rattle.std.proofs.Common.{length, refl, sym, ◌∙◌, rules, length-append}
use Rattle.std.proofs.lemmas.Iterator.{YieldsList-from_slice, YieldsList-from_map}
use Rattle.std.proofs.lemmas.Iterator.Consumers.{sum_by_from_yields_List}
use Rattle.std.proofs.lemmas.List.Recursion.{is_sum_by}
use Rattle.fix.specs.Writing.{numbers}
use Rattle.fix.proofs.Writes.{text_of}
use Rattle.fix.proofs.writer.numbers_length.Goals as goal

pub returns : goal.returns
returns c =
    let fs = c.args.fields.now in
    sum_by_from_yields_List (λ f. length (text_of f)) fs c.map.result _ c.sum.ensures.ran (YieldsList-from_map _ _ (YieldsList-from_slice fs cc) c.map.ensures.closure (λ x r q k. search rules))
    ∙ sym (is_sum_by (λ l. length (numbers l)) (λ f. length (text_of f)) refl (λ f l. length-append (text_of f) (numbers l)) fs)
