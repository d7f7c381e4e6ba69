-- Messages back to back: what the next one says, and where the run stops.
use Rattle.std.specs.Prelude.{ℕ, ◌+◌, cond, List, [], ◌∷◌, length, drop, Some, None, Ok, Err, Option, Result, ◌==◌, slice_index}
use Rattle.answers.specs.Answer.{Answer, answered, refused}
use Rattle.fix.specs.Command.{Command, figures}
use Rattle.fix.specs.Message.{parse_first}
use Rattle.fix.specs.declared.command.Command as code
use Rattle.fix.specs.declared.refusal.MessageRefusal.{MessageRefusal}
use Rattle.fix.specs.declared.refusal.MessageRefusal.TheVariants.{WrongField, WrongCount, WrongSum}
use Rattle.console.specs.declared.feed.Feed.{Feed}
use Rattle.console.specs.declared.feed.Stopped.{Stopped}

abbrev pub source : Feed → List ℕ
source feed = feed.bytes.now

abbrev pub place : Feed → ℕ
place feed = feed.at

-- how many messages were taken
abbrev pub taken : Feed → ℕ
taken feed = feed.count

-- the bytes after them
abbrev pub left : Feed → List ℕ
left feed = drop (place feed) (source feed)

-- a message's own refusal, with the message's count from 1 and the byte of the whole run
abbrev pub refusal : MessageRefusal → ℕ → ℕ → Answer Command
refusal (WrongField p) message byte = refused 11 (message ∷ byte ∷ [])
refusal WrongCount message byte = refused 12 (message ∷ byte ∷ [])
refusal WrongSum message byte = refused 13 (message ∷ byte ∷ [])

abbrev pub answer : Option (Result code.Command Stopped) → Option (Answer Command)
answer None = None
answer (Some (Ok c)) = Some (answered (figures c))
answer (Some (Err s)) = Some (refusal s.why s.message s.byte)

-- what the first message says, where `count` messages and `at` bytes came before it
abbrev pub located : ℕ → ℕ → Answer (Command × ℕ) → Answer Command
located at count (answered r) = answered r.0
located at count (refused number figures) = refused number ((count + 1) ∷ (at + slice_index figures 0) ∷ [])

-- none where nothing is left
abbrev pub next : Feed → Option (Answer Command)
next feed = cond (length (left feed) == 0) None (Some (located (place feed) (taken feed) (parse_first (left feed))))

-- how many bytes the first message takes, and how many messages that is: none where it is refused, or nothing is left
abbrev pub bytes_taken : Answer (Command × ℕ) → ℕ
bytes_taken (answered r) = r.1
bytes_taken (refused number figures) = 0

abbrev pub messages_taken : Answer (Command × ℕ) → ℕ
messages_taken (answered r) = 1
messages_taken (refused number figures) = 0
