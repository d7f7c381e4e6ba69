-- A command has exactly one spelling.
use Rattle.std.specs.Prelude.{◌≡◌, ℕ, ◌≤◌, List, [], ◌∷◌, ◌++◌, length, codes}
use Rattle.answers.specs.Answer.{answered}
use Rattle.fix.specs.declared.command.Command as code
use Rattle.fix.specs.declared.command.Side.TheVariants.{Sell}
use Rattle.fix.specs.Command.{Command, new, Valid, figures}
use Rattle.fix.specs.Message.{parse, parse_first, render}

-- the message of a command is read as that command,
abbrev pub WrittenIsRead : Type 0
WrittenIsRead = (c : Command) → Valid c → parse (render c) ≡ answered c

-- and no other bytes are; so bytes other than those that the writer makes of their content are refused
abbrev pub ReadIsWritten : Type 0
ReadIsWritten = (bytes : List ℕ) (c : Command) → parse bytes ≡ answered c → (bytes ≡ render c) × Valid c

-- the first message of a run is read whatever follows it,
abbrev pub FirstWrittenIsRead : Type 0
FirstWrittenIsRead = (c : Command) (rest : List ℕ) → Valid c → parse_first (render c ++ rest) ≡ answered (c, length (render c))

-- and only the message of its command is
abbrev pub FirstReadIsWritten : Type 0
FirstReadIsWritten =
    (bytes : List ℕ) (c : Command) (n : ℕ) → parse_first bytes ≡ answered (c, n)
    → (rest : List ℕ) × (bytes ≡ render c ++ rest) × (n ≡ length (render c)) × Valid c

-- every command that the code can hold is in range
abbrev pub CommandsAreValid : Type 0
CommandsAreValid = (c : code.Command) → Valid (figures c)

-- messages have from 42 to 86 bytes
abbrev pub Lengths : Type 0
Lengths = (c : Command) → Valid c → (42 ≤ length (render c)) × (length (render c) ≤ 86)

-- the example of docs/MESSAGES.md: member 7 sells 10 lots at 1,000
abbrev pub ended : List ℕ → List ℕ
ended field = field ++ 1 ∷ []

abbrev pub example : List ℕ
example =
    ended (codes "8=FIX.4.4") ++ (ended (codes "9=39") ++ (ended (codes "35=D") ++ (ended (codes "49=7") ++ (ended (codes "34=1") ++ (ended (codes "11=1") ++ (ended (codes "54=2") ++ (ended (codes "38=10") ++ (ended (codes "44=1000") ++ ended (codes "10=193")))))))))

pub record WorkedExample : Type 0 where
  pub reads : parse example ≡ answered (new (record { member = 7; number = 1; order = 1; side = Sell; lots = 10; price = 1000 }))
  pub long : length example ≡ 61
