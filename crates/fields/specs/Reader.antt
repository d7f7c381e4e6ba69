-- A reader of fields: the bytes it was given, where it stands, and what a step answers.
use Rattle.std.specs.Prelude.{◌≡◌, ℕ, ◌≤◌, List, [], ◌∷◌, length, drop, Some, None, Ok, Err, Option, Result}
use Rattle.answers.specs.Answer.{Answer, answered, refused}
use Rattle.fields.specs.declared.field.Placed.{Placed}
use Rattle.fields.specs.declared.field.WrongField.{WrongField}
use Rattle.fields.specs.declared.reader.Reader.{Reader}
use Rattle.fields.specs.Field.{Front, front}
use Rattle.fields.specs.Kind.{tag_of, value_of}
use Rattle.fields.specs.Row.{Read, wrong, right}

abbrev pub source : Reader → List ℕ
source reader = reader.bytes.now

abbrev pub place : Reader → ℕ
place reader = reader.at

-- the bytes that are still to be read
abbrev pub left : Reader → List ℕ
left reader = drop (place reader) (source reader)

-- what a step answers, by the figures of its result: 11 is a field that is wrong or missing, with the place where it starts or should start
abbrev pub answer : {X A : Type 0} → (X → A) → Result X WrongField → Answer A
answer figures (Ok x) = answered (figures x)
answer figures (Err w) = refused 11 (w.place ∷ [])

-- a field that was handed out: its tag, its value, and where it starts
abbrev pub placed : Placed → ℕ × List ℕ × ℕ
placed p = (tag_of p.field, value_of p.field, p.place)

-- the answer for the field at the front, where that starts at p
abbrev pub at_front : ℕ → Option Front → Answer (ℕ × List ℕ × ℕ)
at_front p None = refused 11 (p ∷ [])
at_front p (Some f) = answered (f.tag, f.value, p)

-- what follows the field at the front; all where there is none
abbrev pub past : List ℕ → Option Front → List ℕ
past bytes None = bytes
past bytes (Some f) = f.rest

-- the answer for what is read from the front, where that starts at p
abbrev pub of_read : {A : Type 0} → ℕ → Read A → Answer A
of_read p (wrong bytes) = refused 11 (p ∷ [])
of_read p (right x rest) = answered x

abbrev pub rest_of : {A : Type 0} → Read A → List ℕ
rest_of (wrong bytes) = bytes
rest_of (right x rest) = rest

-- The same by cases, for callers that go on: `read` of what was left before gave the figures and left the rest,
-- or stopped at the place that is refused.
abbrev pub Reads : {X A : Type 0} → (List ℕ → Read A) → (X → A) → Reader → Reader → Result X WrongField → Type 0
Reads read figures before after (Ok x) = read (left before) ≡ right (figures x) (left after)
Reads read figures before after (Err w) = (read (left before) ≡ wrong (drop w.place (source before))) × (w.place ≤ length (source before))

-- a step of a reader: its bytes stay, it stands no earlier than it did, and it read what `read` says
pub record Walked {X A : Type 0} (read : List ℕ → Read A) (figures : X → A) (before after : Reader) (result : Result X WrongField) : Type 0 where
  pub source : source after ≡ source before
  pub ahead : place before ≤ place after
  pub reads : Reads read figures before after result

abbrev pub Next : Reader → Reader → Result Placed WrongField → Type 0
Next before after (Ok p) = (front (left before) ≡ Some (record { tag = tag_of p.field; value = value_of p.field; rest = left after })) × (p.place ≡ place before)
Next before after (Err w) = (front (left before) ≡ None) × (w.place ≡ place before)
