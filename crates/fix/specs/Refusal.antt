-- Refusals by their numbers and figures.
use Rattle.std.specs.Prelude.{ℕ, ◌≤◌, Bool, cond, ◌&&◌, [], ◌∷◌, Ok, Err, Result, nat_le}
use Rattle.answers.specs.Answer.{Answer, answered, refused}
use Rattle.fix.specs.declared.command.Command as code
use Rattle.fix.specs.declared.command.NewOrder as code_order
use Rattle.fix.specs.declared.command.Cancel as code_cancel
use Rattle.fix.specs.declared.reading.First.{First}
use Rattle.fix.specs.declared.refusal.MessageRefusal.{MessageRefusal}
use Rattle.fix.specs.declared.refusal.MessageRefusal.TheVariants.{WrongField, WrongCount, WrongSum}
use Rattle.fix.specs.declared.refusal.BufferTooShort.{BufferTooShort}
use Rattle.fix.specs.declared.refusal.OutOfRange.{OutOfRange}
use Rattle.fix.specs.declared.refusal.OutOfRange.TheVariants.{Member, Number, Order, Lots, Price}
use Rattle.fix.specs.Command.{Command, NewOrder, Cancel, figures, order_figures, cancel_figures}
use Rattle.fix.specs.Range.{largest_member, largest_number, largest_lots, largest_price}

abbrev pub number_of : MessageRefusal → ℕ
number_of (WrongField place) = 11
number_of WrongCount = 12
number_of WrongSum = 13

-- 11 with a place: a field is wrong or missing, or bytes follow the last; 12: the count is wrong; 13: the sum is wrong
abbrev pub refusal : {A : Type 0} → MessageRefusal → Answer A
refusal (WrongField place) = refused 11 (place ∷ [])
refusal WrongCount = refused 12 []
refusal WrongSum = refused 13 []

abbrev pub answer : Result code.Command MessageRefusal → Answer Command
answer (Ok c) = answered (figures c)
answer (Err e) = refusal e

abbrev pub first_answer : Result First MessageRefusal → Answer (Command × ℕ)
first_answer (Ok r) = answered (figures r.command, r.length)
first_answer (Err e) = refusal e

-- a message that was taken has 42 bytes or more, and lies within these bytes; so does a place that is refused
abbrev pub place_of : MessageRefusal → ℕ
place_of (WrongField place) = place
place_of WrongCount = 0
place_of WrongSum = 0

abbrev pub Inside : ℕ → Result First MessageRefusal → Type 0
Inside size (Ok r) = (42 ≤ r.length) × (r.length ≤ size)
Inside size (Err e) = place_of e ≤ size

-- 91 with the length of the message: the buffer is shorter than that
abbrev pub written_answer : Result ℕ BufferTooShort → Answer ℕ
written_answer (Ok n) = answered n
written_answer (Err e) = refused 91 (e.needed ∷ [])

abbrev pub room : ℕ → ℕ → Answer ℕ
room needed given = cond (nat_le needed given) (answered needed) (refused 91 (needed ∷ []))

-- 93 with the tag of the first figure that is out of its range
abbrev pub range_refusal : {A : Type 0} → OutOfRange → Answer A
range_refusal Member = refused 93 (49 ∷ [])
range_refusal Number = refused 93 (34 ∷ [])
range_refusal Order = refused 93 (11 ∷ [])
range_refusal Lots = refused 93 (38 ∷ [])
range_refusal Price = refused 93 (44 ∷ [])

abbrev pub order_answer : Result code_order.NewOrder OutOfRange → Answer NewOrder
order_answer (Ok o) = answered (order_figures o)
order_answer (Err e) = range_refusal e

abbrev pub cancel_answer : Result code_cancel.Cancel OutOfRange → Answer Cancel
cancel_answer (Ok o) = answered (cancel_figures o)
cancel_answer (Err e) = range_refusal e

abbrev pub within : ℕ → ℕ → Bool
within largest n = nat_le 1 n && nat_le n largest

abbrev pub in_range : {A : Type 0} → ℕ → ℕ → ℕ → Answer A → Answer A
in_range tag largest n next = cond (within largest n) next (refused 93 (tag ∷ []))

abbrev pub tested_order : NewOrder → Answer NewOrder
tested_order o =
    in_range 49 largest_member o.member (in_range 34 largest_number o.number (in_range 11 largest_number o.order (in_range 38 largest_lots o.lots (in_range 44 largest_price o.price (answered o)))))

abbrev pub tested_cancel : Cancel → Answer Cancel
tested_cancel o = in_range 49 largest_member o.member (in_range 34 largest_number o.number (in_range 11 largest_number o.order (answered o)))
