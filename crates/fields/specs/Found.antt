-- What the reader's own searches find.
use Rattle.std.specs.Prelude.{◌≡◌, ℕ, ◌<◌, ◌≤◌, List, length, drop, Some, None, Option, ◌≢◌, slice_index}
use Rattle.fields.specs.declared.field.Field.{Field}
use Rattle.fields.specs.Field.{front}
use Rattle.fields.specs.Kind.{tag_of, value_of}

-- the place of the first x, if there is one
abbrev pub Found : ℕ → List ℕ → Option ℕ → Type 0
Found x bytes None = (k : ℕ) → k < length bytes → slice_index bytes k ≢ x
Found x bytes (Some i) = (i < length bytes) × (slice_index bytes i ≡ x) × ((k : ℕ) → k < i → slice_index bytes k ≢ x)

-- the field that starts at a place, and the place where it ends
abbrev pub FieldAt : List ℕ → ℕ → Option (Field × ℕ) → Type 0
FieldAt bytes at None = front (drop at bytes) ≡ None
FieldAt bytes at (Some r) = (front (drop at bytes) ≡ Some (record { tag = tag_of r.0; value = value_of r.0; rest = drop r.1 bytes })) × (at ≤ r.1) × (r.1 ≤ length bytes)
