-- Something rests at a level that crosses.
use Rattle.std.proofs.Common.{◌≡◌, ℕ, ◌<◌, true, List, [], ◌∷◌, length}
use Rattle.std.proofs.lemmas.Bool.{false≢true}
use Rattle.fix.specs.declared.command.Side.{Side}
use Rattle.market.specs.Market.{best_crosses, Level}
use Rattle.side.specs.Meeting.{first_queue}
use Rattle.side.specs.Row.{standing}
use Rattle.side.proofs.Ladder.{standing_head, stands_some}

pub first_some : (of : Side) (price : ℕ) (ls : List Level) → standing ls ≡ true → best_crosses of price ls ≡ true → 0 < length (first_queue ls)
first_some of price [] t e = absurd (false≢true e)
first_some of price (l ∷ ls) t e = stands_some l (standing_head l ls t)
