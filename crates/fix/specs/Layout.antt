-- The fields of messages.
use Rattle.std.specs.Prelude.{ℕ, ◌+◌, ◌-◌, ◌*◌, ◌/◌, ◌%◌, Bool, cond, ◌&&◌, ◌||◌, List, [], ◌∷◌, Some, None, codes, Option, ◌==◌}
use Rattle.std.specs.Char.{is_ascii_digit}
use Rattle.std.specs.Str.{bytes_eq}
use Rattle.fields.specs.Row.{Shape, number}
use Rattle.fix.specs.Range.{largest_member, largest_number, largest_lots, largest_price}

-- 8 (BeginString): one text, which says nothing
abbrev pub exactly : List ℕ → List ℕ → Option ℕ
exactly text value = cond (bytes_eq value text) (Some 0) None

abbrev pub version : Shape
version = record { tag = 8; says = exactly (codes "FIX.4.4"); spells = λ _. codes "FIX.4.4" }

-- 9 (BodyLength): two digits
abbrev pub body_length : Shape
body_length = number 9 10 99

-- 35 (MsgType): D, 68, for a new order and F, 70, for a cancel
abbrev pub is_kind : ℕ → Bool
is_kind b = b == 68 || b == 70

abbrev pub letter : List ℕ → Option ℕ
letter [] = None
letter (b ∷ []) = cond (is_kind b) (Some b) None
letter (b ∷ c ∷ cs) = None

abbrev pub kind : Shape
kind = record { tag = 35; says = letter; spells = λ k. k ∷ [] }

-- 10 (CheckSum): three digits
abbrev pub three : List ℕ → Option ℕ
three [] = None
three (a ∷ []) = None
three (a ∷ b ∷ []) = None
three (a ∷ b ∷ c ∷ []) = cond (is_ascii_digit a && (is_ascii_digit b && is_ascii_digit c)) (Some ((a - 48) * 100 + (b - 48) * 10 + (c - 48))) None
three (a ∷ b ∷ c ∷ d ∷ ds) = None

abbrev pub three_digits : ℕ → List ℕ
three_digits n = (48 + n / 100) ∷ (48 + n / 10 % 10) ∷ (48 + n % 10) ∷ []

abbrev pub check_sum : Shape
check_sum = record { tag = 10; says = three; spells = three_digits }

abbrev pub header : List Shape
header = version ∷ body_length ∷ []

-- after the kind: the member, the command's number, the order's number; and of a new order side, lots and price
abbrev pub new_order_fields : List Shape
new_order_fields =
    number 49 1 largest_member ∷ number 34 1 largest_number ∷ number 11 1 largest_number ∷ number 54 1 2 ∷ number 38 1 largest_lots ∷ number 44 1 largest_price ∷ []

abbrev pub cancel_fields : List Shape
cancel_fields = number 49 1 largest_member ∷ number 34 1 largest_number ∷ number 41 1 largest_number ∷ []

abbrev pub fields_of : ℕ → List Shape
fields_of k = cond (k == 68) new_order_fields cancel_fields
