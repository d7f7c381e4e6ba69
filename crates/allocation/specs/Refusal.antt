-- What a call of a policy answers, in the terms that all contracts share. No refusal has figures.
use Rattle.std.specs.Prelude.{ℕ, [], Ok, Err, Result}
use Rattle.answers.specs.Answer.{Answer, answered, refused}
use Rattle.allocation.specs.declared.refusal.AllocationRefusal.{AllocationRefusal}
use Rattle.allocation.specs.declared.refusal.AllocationRefusal.TheVariants.{LengthsDiffer, OutOfRange}

abbrev pub number_of : AllocationRefusal → ℕ
number_of LengthsDiffer = 51
number_of OutOfRange = 52

abbrev pub answer : {A : Type 0} → Result A AllocationRefusal → Answer A
answer (Ok a) = answered a
answer (Err refusal) = refused (number_of refusal) []
