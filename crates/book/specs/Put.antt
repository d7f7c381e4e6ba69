-- What putting a command through answers, and what it leaves of a list.
use Rattle.std.specs.Prelude.{ℕ, cond, List, [], ◌++◌, length, drop, Ok, Err, Result, nat_lt}
use Rattle.answers.specs.Answer.{Answer, answered, refused}
use Rattle.market.specs.declared.entry.Entry.{Entry}
use Rattle.book.specs.declared.refusal.ListTooShort.{ListTooShort}

abbrev pub answer : {A : Type 0} → Result A ListTooShort → Answer A
answer (Ok a) = answered a
answer (Err why) = refused 25 []

-- a command that gives `count` entries, with a list of `long`
abbrev pub putting : ℕ → ℕ → Answer ℕ
putting long count = cond (nat_lt long 2049) (refused 25 []) (answered count)

-- a list with these entries at its front
abbrev pub written : List Entry → List Entry → List Entry
written entries list = entries ++ drop (length entries) list
