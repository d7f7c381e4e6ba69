use Rattle.std.proofs.Common.{◌≡◌, ◌<◌, false, length, Some, None, Ok, Err, Option, Result, ap, rules, arith, length-drop}
use Rattle.std.specs.Bool.{⊤}
use Rattle.std.specs.Iterator.{MakesProgress, size}
use Rattle.fix.specs.Command.{figures}
use Rattle.fix.specs.declared.command.Command as code
use Rattle.console.specs.declared.feed.Stopped.{Stopped}
use Rattle.console.specs.declared.feed.messages.Messages.{Messages}
use Rattle.console.specs.Feed.{source, place, taken, left}
use Rattle.console.specs.Messages.{Steps, most_left}
use Rattle.console.proofs.Feeds.{command_takes}
use Rattle.console.proofs.feed.messages.MessagesIterator.next.Goals as goal

-- a step that gives a message leaves fewer
fewer : (before after : Messages) (c : code.Command) → before.stopped ≡ false → Steps before after (Some (Ok c)) → size (most_left after) < size (most_left before)
fewer before after c on s =
    let takes = command_takes (place before.feed.now) (taken before.feed.now) (left before.feed.now) (figures c) s.answer in
    let a = length-drop (place before.feed.now) (source before.feed.now) in
    let b = length-drop (place after.feed.now) (source after.feed.now) in
    let same = ap length s.source in
    let at = s.place in
    rw (on, s.stopped) (omega (arith, takes.0, takes.1))

last : (before after : Messages) (e : Stopped) → before.stopped ≡ false → Steps before after (Some (Err e)) → size (most_left after) < size (most_left before)
last before after e on s = rw (on, s.stopped) (omega arith)

progress : (before after : Messages) (r : Option (Result code.Command Stopped)) → before.stopped ≡ false → Steps before after r → MakesProgress (λ _. ⊤) most_left before r after
progress before after None on s = record { on = λ f. tt; keeps = tt; rests = λ f. tt }
progress before after (Some (Ok c)) on s = record { on = λ f. (tt, tt, fewer before after c on s); keeps = tt; rests = λ f. tt }
progress before after (Some (Err e)) on s = record { on = λ f. (tt, tt, last before after e on s); keeps = tt; rests = λ f. tt }

pub returns-clause-goes : goal.returns-clause-goes
returns-clause-goes c =
    let step = c.next-next.ensures in
    progress _ _ _ c.if-self.false (record {
      answer = step.answer;
      source = step.source;
      place = step.place;
      taken = step.taken;
      stopped = search rules;
      same = search rules;
    })
