-- What a level holds.
use Rattle.std.specs.Prelude.{List, vec_items}
use Rattle.market.specs.declared.resting.Resting.{Resting}
use Rattle.level.specs.declared.level.Level.{Level}

-- its orders, oldest first
abbrev pub queue_of : Level → List Resting
queue_of level = vec_items level.queue
