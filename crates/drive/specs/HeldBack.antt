-- What a drive that holds blocks back means, and what it holds and puts out.
use Rattle.std.specs.Prelude.{◌≡◌, ℕ, ◌-◌, ◌<◌, ◌≤◌, ◌⊎◌, Option, IsSome, IsNone, List, [], ◌∷◌, ◌++◌, length, map, take, vec_items, ◌==◌, slice_index, find}
use Rattle.std.specs.Option.{option_map_or}
use Rattle.drive.specs.Block.{whole, block, put, spare, joined}
use Rattle.drive.specs.Medium.{Visible, Durable, Medium, medium}
use Rattle.drive.specs.declared.drives.held_back.HeldBack.{HeldBack}
use Rattle.drive.specs.declared.drives.held_back.HeldBlock.{HeldBlock}

-- the most blocks that are held
abbrev pub most_held : ℕ
most_held = 16

-- the one of these that is held for block b, if there is one
abbrev pub held_block : List HeldBlock → ℕ → Option HeldBlock
held_block held b = find (λ h. h.number == b) held

-- block b: what is held of it, or else what lies under
abbrev pub view : List HeldBlock → ℕ → List ℕ → List ℕ
view held b under = option_map_or (λ h. h.bytes) (held_block held b) under

-- the bytes of block b in the memory
abbrev pub lies_under : HeldBack → ℕ → List ℕ
lies_under d b = block (vec_items d.memory) b

abbrev pub held_visible : HeldBack → Visible
held_visible d = record {
  count = whole (length (vec_items d.memory));
  shown = λ b. view d.held.items b (lies_under d b);
}

-- a block that is not held is settled; of one that is held, what lies in the memory may stand, or what is held
abbrev pub held_durable : HeldBack → Durable
held_durable d = record {
  stands = λ b c. (c ≡ lies_under d b) ⊎ (c ≡ (held_visible d).shown b);
  settled = λ b. IsNone (held_block d.held.items b);
}

abbrev pub held_medium : HeldBack → Medium
held_medium = medium held_visible held_durable

-- the numbers of the held blocks, in the order in which they came to be held
abbrev pub held_numbers : HeldBack → List ℕ
held_numbers d = map (λ h. h.number) d.held.items

-- the one that came last
abbrev pub last_held : HeldBack → ℕ
last_held d = slice_index (held_numbers d) (length d.held.items - 1)

-- the memory with that block put out
abbrev pub last_put_out : HeldBack → List ℕ
last_put_out d = put (vec_items d.memory) (last_held d) ((held_visible d).shown (last_held d))

-- the memory with every held block put out
abbrev pub all_put_out : HeldBack → List ℕ
all_put_out d = joined (held_visible d).shown (held_visible d).count ++ spare (vec_items d.memory)

-- what a write to block `at` makes of what is held and of the memory
pub record Holds (d : HeldBack) (at : ℕ) (e : HeldBack) : Type 0 where
  -- a block that is held already: the same are held, and nothing is put out
  pub again : IsSome (held_block d.held.items at) → (held_numbers e ≡ held_numbers d) × (vec_items e.memory ≡ vec_items d.memory)
  -- another, and there is room: it is held too, and nothing is put out
  pub beside : IsNone (held_block d.held.items at) → length d.held.items < most_held → (held_numbers e ≡ held_numbers d ++ at ∷ []) × (vec_items e.memory ≡ vec_items d.memory)
  -- another, and there is none: the one that came last is put out, and leaves its place
  pub in_place : IsNone (held_block d.held.items at) → length d.held.items ≡ most_held → (held_numbers e ≡ take (most_held - 1) (held_numbers d) ++ at ∷ []) × (vec_items e.memory ≡ last_put_out d)

-- blocks were put out: the first of those that were held are, and nothing else is seen of it
pub record PutOut (d e : HeldBack) : Type 0 where
  pub size : length (vec_items e.memory) ≡ length (vec_items d.memory)
  pub spares : spare (vec_items e.memory) ≡ spare (vec_items d.memory)
  pub fewer : length e.held.items ≤ length d.held.items
  pub first : e.held.items ≡ take (length e.held.items) d.held.items
  pub same : (b : ℕ) → (held_visible e).shown b ≡ (held_visible d).shown b
  pub stands : (b : ℕ) (c : List ℕ) → (held_durable e).stands b c → (held_durable d).stands b c
