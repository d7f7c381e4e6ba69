-- What a writer leaves in its buffer.
use Rattle.std.specs.Prelude.{◌≡◌, ℕ, ◌+◌, ◌≤◌, List, [], ◌∷◌, ◌++◌, length, take, drop, decimal}
use Rattle.fields.specs.Field.{written}
use Rattle.fix.specs.declared.writer.Numbered.{Numbered}
use Rattle.fix.specs.declared.writer.Writer.{Writer}

-- a buffer with this text over its front
abbrev pub over_front : List ℕ → List ℕ → List ℕ
over_front buffer text = text ++ drop (length text) buffer

-- and over what stood at a place
abbrev pub over : List ℕ → ℕ → List ℕ → List ℕ
over buffer at text = take at buffer ++ (text ++ drop (at + length text) buffer)

-- there is room for the text where the writer stands
abbrev pub Fits : Writer → List ℕ → Type 0
Fits writer text = writer.at + length text ≤ length writer.out.now

-- the text was written into the writer's buffer where it stood, and it stands behind the text
pub record Wrote (before after : Writer) (text : List ℕ) : Type 0 where
  pub same : after.out.ghost_name ≡ before.out.ghost_name
  pub ends : after.at ≡ before.at + length text
  pub is : after.out.now ≡ over before.out.now before.at text

-- fields with numbers, one after the other
abbrev pub numbers : List Numbered → List ℕ
numbers [] = []
numbers (f ∷ fs) = written f.tag (decimal f.number) ++ numbers fs
