use Rattle.std.proofs.Common.{◌≡◌, ℕ, ◌+◌, ◌*◌, ◌≤◌, true, ◌&&◌, leb, List, length, sym, ◌∙◌, arith}
use Rattle.std.proofs.lemmas.Bool.{cond-true, le-leb, and_from}
use Rattle.answers.specs.Answer.{answered}
use Rattle.allocation.specs.Range.{tradable, all_tradable}
use Rattle.allocation.proofs.Ranges.{tested_fits}
use Rattle.market.specs.declared.resting.Resting.{Resting}
use Rattle.market.specs.Market.{lots_of}
use Rattle.level.specs.Queue.{queue_of}
use Rattle.level.specs.Refusal.{trading}
use Rattle.level.proofs.Rows.{length_lots}
use Rattle.side.proofs.levels.meet.trade.Goals as goal

-- a trade is not refused where there is room, and what is left and what rests are in range
trades : (left from long : ℕ) (q : List Resting) → tradable left ≡ true → from + 2 * length q ≤ long → length q ≤ 1024 → all_tradable (lots_of q) ≡ true → trading left from long q ≡ answered tt
trades left from long q l room few a =
    cond-true (leb (from + 2 * length q) long) _ _ (le-leb _ _ room)
    ∙ sym (tested_fits left (lots_of q) (length q) (length_lots q) (and_from (leb (length (lots_of q)) 1024) (tradable left && all_tradable (lots_of q)) (le-leb _ _ (omega (arith, length_lots q))) (and_from (tradable left) (all_tradable (lots_of q)) l a)))

pub unreachable-requires : goal.unreachable-requires
unreachable-requires g c =
    let level = c.args.level.now in
    let fits = trades c.args.before.left c.args.before.written (length c.args.list.now) (queue_of level) c.requires.left c.requires.room (omega (arith, level.few, level.queue.ok.0)) level.tradable in
    let answers = c.in-Err.ensures.answers in
    cc
