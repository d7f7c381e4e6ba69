-- What a side answers, in the terms that all contracts share. No refusal has figures.
use Rattle.std.specs.Prelude.{ℕ, ◌+◌, cond, [], Ok, Err, Result, nat_le, nat_lt}
use Rattle.answers.specs.Answer.{Answer, answered, refused}
use Rattle.allocation.specs.Range.{tradable}
use Rattle.fix.specs.declared.command.Side.{Side}
use Rattle.market.specs.Market.{capacity}
use Rattle.market.specs.Tally.{same_side}
use Rattle.side.specs.declared.refusal.JoinRefusal.{JoinRefusal}
use Rattle.side.specs.declared.refusal.JoinRefusal.TheVariants.{PriceOutOfRange, LotsOutOfRange, Full}
use Rattle.side.specs.declared.refusal.MeetRefusal.{MeetRefusal}
use Rattle.side.specs.declared.refusal.MeetRefusal.TheVariants.{SameSide, ListTooShort}
use Rattle.side.specs.Rank.{in_range}

abbrev pub join_number : JoinRefusal → ℕ
join_number PriceOutOfRange = 99
join_number LotsOutOfRange = 96
join_number Full = 97

abbrev pub join_answer : {A : Type 0} → Result A JoinRefusal → Answer A
join_answer (Ok a) = answered a
join_answer (Err why) = refused (join_number why) []

-- an order of that price and these lots joins a side at which `count` orders rest
abbrev pub joining : ℕ → ℕ → ℕ → Answer (Unit {0})
joining price lots count =
    cond (in_range price) (cond (tradable lots) (cond (nat_lt count capacity) (answered tt) (refused 97 [])) (refused 96 [])) (refused 99 [])

abbrev pub meet_number : MeetRefusal → ℕ
meet_number SameSide = 100
meet_number ListTooShort = 98

abbrev pub meet_answer : {A : Type 0} → Result A MeetRefusal → Answer (Unit {0})
meet_answer (Ok a) = answered tt
meet_answer (Err why) = refused (meet_number why) []

-- an order of one side meets another, and the entries go to a list of `long` from `from` on
abbrev pub meeting : Side → Side → ℕ → ℕ → Answer (Unit {0})
meeting mine theirs from long = cond (same_side mine theirs) (refused 100 []) (cond (nat_le (from + 2048) long) (answered tt) (refused 98 []))
