-- What the reader's inner steps find.
use Rattle.std.specs.Prelude.{ℕ, ◌≤◌, List, length, drop}
use Rattle.fix.specs.declared.layout.Form as code
use Rattle.fix.specs.declared.layout.Kind.{Kind}
use Rattle.fix.specs.declared.layout.Kind.TheVariants as kinds
use Rattle.fix.specs.Command.{figures}
use Rattle.fix.specs.Message.{Form, values_of}

abbrev pub letter_of : Kind → ℕ
letter_of kinds.New = 68
letter_of kinds.Cancel = 70

-- the form that the code found in these bytes
abbrev pub form_of : List ℕ → code.Form → Form
form_of bytes f = record {
  count = f.count;
  values = values_of (figures f.command);
  sum = f.sum;
  body = drop f.body bytes;
  trailer = drop f.trailer bytes;
}

abbrev pub Ordered : List ℕ → code.Form → Type 0
Ordered bytes f = (f.body ≤ f.trailer) × (f.trailer ≤ length bytes)
