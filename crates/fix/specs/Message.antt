-- Whole messages: what bytes say, and how a command is written.
use Rattle.std.specs.Prelude.{ℕ, ◌-◌, ◌%◌, cond, List, [], ◌∷◌, ◌++◌, length, take, sum, ◌==◌, slice_index}
use Rattle.answers.specs.Answer.{Answer, answered, refused}
use Rattle.fields.specs.Row.{Read, wrong, right, then, step, row, shown, shown_row}
use Rattle.fix.specs.declared.command.Side.{Side}
use Rattle.fix.specs.declared.command.Side.TheVariants.{Buy, Sell}
use Rattle.fix.specs.Command.{Command, NewOrder, Cancel, new, cancel}
use Rattle.fix.specs.Layout.{kind, check_sum, header, fields_of}

abbrev pub side_number : Side → ℕ
side_number Buy = 1
side_number Sell = 2

-- the numbers of a command's fields, the kind's letter first
abbrev pub new_order_values : NewOrder → List ℕ
new_order_values o = o.member ∷ o.number ∷ o.order ∷ side_number o.side ∷ o.lots ∷ o.price ∷ []

abbrev pub cancel_values : Cancel → List ℕ
cancel_values o = o.member ∷ o.number ∷ o.order ∷ []

abbrev pub values_of : Command → List ℕ
values_of (new o) = 68 ∷ new_order_values o
values_of (cancel o) = 70 ∷ cancel_values o

abbrev pub command_of : List ℕ → Command
command_of vs =
    cond (slice_index vs 0 == 68)
    (new (record { member = slice_index vs 1; number = slice_index vs 2; order = slice_index vs 3; side = cond (slice_index vs 4 == 1) Buy Sell; lots = slice_index vs 5; price = slice_index vs 6 }))
    (cancel (record { member = slice_index vs 1; number = slice_index vs 2; order = slice_index vs 3 }))

-- A message whose fields are right; its count and its sum are still to be tested.
pub record Form : Type 0 where
  -- field 9
  pub count : ℕ
  pub values : List ℕ
  -- field 10
  pub sum : ℕ
  -- the bytes after field 9
  pub body : List ℕ
  -- the bytes from field 10 on
  pub trailer : List ℕ

-- the kind, and the fields that a message of this kind has
abbrev pub body_values : List ℕ → Read (List ℕ)
body_values bytes = then (step kind bytes) (λ k rest. then (row (fields_of k) rest) (λ vs after. right (k ∷ vs) after))

abbrev pub form : List ℕ → Read Form
form bytes =
    then (row header bytes) (λ h body. then (body_values body) (λ vs trailer. then (step check_sum trailer) (λ s rest. right (record { count = slice_index h 1; values = vs; sum = s; body = body; trailer = trailer }) rest)))

-- 12 where field 9 is not the count of bytes from its end to field 10; else 13 where field 10 is not the sum of the bytes before it
abbrev pub checked : List ℕ → Form → Answer Command
checked bytes f =
    cond (f.count == length f.body - length f.trailer)
    (cond (f.sum == sum (take (length bytes - length f.trailer) bytes) % 256) (answered (command_of f.values)) (refused 13 []))
    (refused 12 [])

-- a place is how much longer the bytes are than what is left of them there
abbrev pub whole : List ℕ → Read Form → Answer Command
whole bytes (wrong left) = refused 11 ((length bytes - length left) ∷ [])
whole bytes (right f []) = checked bytes f
whole bytes (right f (b ∷ more)) = refused 11 ((length bytes - length (b ∷ more)) ∷ [])

-- What the bytes say: the command; or 11 with the place where the first wrong field, or what follows the last, starts; or 12; or 13.
unfoldable pub parse : List ℕ → Answer Command
parse bytes = whole bytes (form bytes)

abbrev pub with_length : ℕ → Answer Command → Answer (Command × ℕ)
with_length n (answered c) = answered (c, n)
with_length n (refused number figures) = refused number figures

abbrev pub leading : List ℕ → Read Form → Answer (Command × ℕ)
leading bytes (wrong left) = refused 11 ((length bytes - length left) ∷ [])
leading bytes (right f rest) = with_length (length bytes - length rest) (checked bytes f)

-- What the first message of a run of bytes says, and how many bytes it takes.
unfoldable pub parse_first : List ℕ → Answer (Command × ℕ)
parse_first bytes = leading bytes (form bytes)

-- from the kind up to field 10
abbrev pub body_by : List ℕ → List ℕ
body_by vs = shown_row (kind ∷ fields_of (slice_index vs 0)) vs

-- up to field 10 (field 8 says nothing, which is written 0)
abbrev pub front_by : List ℕ → List ℕ
front_by vs = shown_row header (0 ∷ length (body_by vs) ∷ []) ++ body_by vs

-- The message of a command.
unfoldable pub render : Command → List ℕ
render c = front_by (values_of c) ++ shown check_sum (sum (front_by (values_of c)) % 256)
