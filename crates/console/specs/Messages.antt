-- The messages of a feed, one after the other.
use Rattle.std.specs.Prelude.{◌≡◌, ◌+◌, true, false, Bool, cond, length, Some, None, Ok, Err, Option, Result}
use Rattle.std.specs.Iterator.{Count, at_most}
use Rattle.fix.specs.Message.{parse_first}
use Rattle.fix.specs.declared.command.Command as code
use Rattle.console.specs.declared.feed.Stopped.{Stopped}
use Rattle.console.specs.declared.feed.messages.Messages.{Messages}
use Rattle.console.specs.Feed.{source, place, taken, left, answer, next, bytes_taken, messages_taken}

-- a refusal is the last
abbrev pub is_refusal : Option (Result code.Command Stopped) → Bool
is_refusal None = false
is_refusal (Some (Ok c)) = false
is_refusal (Some (Err s)) = true

-- what the feed's next step answers and takes; once it refused, nothing
pub record Steps (before after : Messages) (result : Option (Result code.Command Stopped)) : Type 0 where
  pub answer : answer result ≡ next before.feed.now
  pub source : source after.feed.now ≡ source before.feed.now
  pub place : place after.feed.now ≡ place before.feed.now + bytes_taken (parse_first (left before.feed.now))
  pub taken : taken after.feed.now ≡ taken before.feed.now + messages_taken (parse_first (left before.feed.now))
  pub stopped : after.stopped ≡ is_refusal result
  pub same : after.feed.ghost_name ≡ before.feed.ghost_name

abbrev pub Gives : Messages → Option (Result code.Command Stopped) → Messages → Type 0
Gives before result after = (before.stopped ≡ false → Steps before after result) × (before.stopped ≡ true → (result ≡ None) × (after ≡ before))

-- each message takes a byte, and a refused one is the last
abbrev pub most_left : Messages → Count
most_left m = at_most (cond m.stopped 0 (length (left m.feed.now) + 1))
