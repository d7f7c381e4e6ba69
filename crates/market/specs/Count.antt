-- How many entries a command gives.
use Rattle.std.specs.Prelude.{ℕ, ◌+◌, ◌*◌, ◌≤◌, List, length}
use Rattle.fix.specs.Command.{Command}
use Rattle.market.specs.Market.{Market, empty, all_resting}
use Rattle.market.specs.Put.{put, after}

pub record FewEntries (split : ℕ → List ℕ → List ℕ) : Type 0 where
  -- one, and two for each order that rests
  pub by_resting : (c : Command) (m : Market) → length (put split c m).entries ≤ 1 + 2 * all_resting m
  -- after every row of commands
  pub always : (cs : List Command) (c : Command) → length (put split c (after split cs empty)).entries ≤ 2049
