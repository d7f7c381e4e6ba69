-- What the exported functions on messages return.
use Rattle.std.specs.Prelude.{ℕ, Bool, cond, List, [], length, sum, nat_le, slice_index}
use Rattle.answers.specs.Answer.{Answer, answered, refused}
use Rattle.fix.specs.Command.{Command, NewOrder, new}
use Rattle.fix.specs.declared.command.Side.{Side}
use Rattle.fix.specs.declared.command.Side.TheVariants.{Buy, Sell}
use Rattle.fix.specs.Message.{values_of, render}
use Rattle.fix.specs.Writing.{over_front}

-- the place of a refusal; 0 where it has none
abbrev pub place : Answer Command → ℕ
place (answered c) = 0
place (refused number figures) = slice_index figures 0

-- the sum of a command's letter and figures
abbrev pub digest : Answer Command → ℕ
digest (answered c) = sum (values_of c)
digest (refused number figures) = 0

abbrev pub side_of : Bool → Side
side_of buys = cond buys Buy Sell

abbrev pub order_of : ℕ → ℕ → ℕ → Bool → ℕ → ℕ → NewOrder
order_of member number order buys lots price = record { member = member; number = number; order = order; side = side_of buys; lots = lots; price = price }

-- the message of an order; nothing where a figure is out of range
abbrev pub text_of : Answer NewOrder → List ℕ
text_of (answered o) = render (new o)
text_of (refused number figures) = []

-- a text that fits a buffer of `given` bytes has its length; another 0
abbrev pub written_length : List ℕ → ℕ → ℕ
written_length text given = cond (nat_le (length text) given) (length text) 0

abbrev pub written_into : List ℕ → List ℕ → List ℕ
written_into text buffer = cond (nat_le (length text) (length buffer)) (over_front buffer text) buffer
