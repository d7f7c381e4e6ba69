use Rattle.std.proofs.Common.{length, ltb, refl, rules, tests}
use Rattle.std.proofs.lemmas.Iterator.{YieldsList-from_slice}
use Rattle.std.proofs.lemmas.Iterator.Search.{position_from_yields_List}
use Rattle.market.specs.Market.{is_of}
use Rattle.level.proofs.Queues.{place, placed}
use Rattle.level.proofs.queue.place_of.Goals as goal

pub returns : goal.returns
returns c =
    let m = c.args.member in
    let n = c.args.order in
    let q = c.args.queue.now in
    let is = position_from_yields_List (is_of m n) _ _ c.position.result c.position.ensures.ran (YieldsList-from_slice q cc) (λ x b f k. search (rules, tests)) in
    record { value = rw is (placed m n q (ltb (place m n q) (length q)) refl) }
