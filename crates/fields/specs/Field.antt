-- One field: a tag, "=" (61), a value and the byte 1.
use Rattle.std.specs.Prelude.{ℕ, cond, List, [], ◌∷◌, ◌++◌, Some, None, decimal, Option, ◌==◌}
use Rattle.fields.specs.Kind.{known}
use Rattle.fields.specs.Numeral.{numeral}

-- f of what o holds
abbrev pub bind : {A B : Type 0} → Option A → (A → Option B) → Option B
bind None f = None
bind (Some x) f = f x

abbrev pub prepend : ℕ → List ℕ × List ℕ → Option (List ℕ × List ℕ)
prepend b p = Some (b ∷ p.0, p.1)

-- what stands before the first x in a list, and what stands after it
abbrev pub cut : ℕ → List ℕ → Option (List ℕ × List ℕ)
cut x [] = None
cut x (b ∷ bs) = cond (b == x) (Some ([], bs)) (bind (cut x bs) (prepend b))

-- a field at the front of a list, and what follows it
pub record Front : Type 0 where
  pub tag : ℕ
  pub value : List ℕ
  pub rest : List ℕ

abbrev pub of_tag : List ℕ → List ℕ → ℕ → Option Front
of_tag value rest t = cond (known t) (Some (record { tag = t; value = value; rest = rest })) None

-- the field at the front of a list: up to the first byte 1, and in it a known tag up to the first "="
unfoldable pub front : List ℕ → Option Front
front bytes = bind (cut 1 bytes) (λ p. bind (cut 61 p.0) (λ q. bind (numeral 1 99 q.0) (of_tag q.1 p.1)))

-- a field as it is written
abbrev pub written : ℕ → List ℕ → List ℕ
written tag value = decimal tag ++ 61 ∷ (value ++ 1 ∷ [])
