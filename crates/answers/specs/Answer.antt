-- What a call answers: a value, or a refusal by its number and its figures.
-- Each crate maps its own result types to this one, so that all contracts speak of refusals alike.
use Rattle.std.specs.Prelude.{List, ℕ}

pub data Answer (A : Type 0) : Type 0 where
  answered : A → Answer A
  refused : ℕ → List ℕ → Answer A

-- what a buffer holds after a call: `new` where the call answered, `old` where it was refused
abbrev pub if_answered : {A X : Type 0} → Answer A → X → X → X
if_answered (answered a) new old = new
if_answered (refused number figures) new old = old
