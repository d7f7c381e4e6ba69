-- Fields in a row, by a layout: what they say, and how they are written.
use Rattle.std.specs.Prelude.{ℕ, cond, List, [], ◌∷◌, ◌++◌, Some, None, decimal, Option, ◌==◌}
use Rattle.fields.specs.Field.{Front, front, written}
use Rattle.fields.specs.Numeral.{numeral}

-- one field of a layout: its tag, what number a value says (none where the value is wrong), and how a number is spelt
pub record Shape : Type 0 where
  pub tag : ℕ
  pub says : List ℕ → Option ℕ
  pub spells : ℕ → List ℕ

-- a field with a number from low to high
abbrev pub number : ℕ → ℕ → ℕ → Shape
number tag low high = record { tag = tag; says = numeral low high; spells = decimal }

-- what is read from the front of a list, and what follows it; or what is left where the first wrong field starts or should start
pub data Read (A : Type 0) : Type 0 where
  wrong : List ℕ → Read A
  right : A → List ℕ → Read A

-- what `go` reads next, of what is left
abbrev pub then : {A B : Type 0} → Read A → (A → List ℕ → Read B) → Read B
then (wrong left) go = wrong left
then (right x rest) go = go x rest

abbrev pub said : List ℕ → List ℕ → Option ℕ → Read ℕ
said bytes rest None = wrong bytes
said bytes rest (Some n) = right n rest

abbrev pub of_shape : Shape → List ℕ → Option Front → Read ℕ
of_shape shape bytes None = wrong bytes
of_shape shape bytes (Some f) = cond (f.tag == shape.tag) (said bytes f.rest (shape.says f.value)) (wrong bytes)

-- the field of this shape at the front of a list
abbrev pub step : Shape → List ℕ → Read ℕ
step shape bytes = of_shape shape bytes (front bytes)

-- the fields of a layout, one after the other
abbrev pub row : List Shape → List ℕ → Read (List ℕ)
row [] bytes = right [] bytes
row (shape ∷ shapes) bytes = then (step shape bytes) (λ n rest. then (row shapes rest) (λ ns after. right (n ∷ ns) after))

abbrev pub shown : Shape → ℕ → List ℕ
shown shape n = written shape.tag (shape.spells n)

abbrev pub shown_row : List Shape → List ℕ → List ℕ
shown_row [] ns = []
shown_row (shape ∷ shapes) [] = []
shown_row (shape ∷ shapes) (n ∷ ns) = shown shape n ++ shown_row shapes ns
