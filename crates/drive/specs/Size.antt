-- Every block that the drives show has 512 bytes. The law of the trait takes this as a term, so it stands here.
use Rattle.std.specs.Prelude.{◌≡◌, ℕ, suc, ◌+◌, ◌*◌, ◌<◌, ◌≤◌, List, [], ◌∷◌, length, vec_items}
use Rattle.std.specs.List.{All}
use Rattle.std.proofs.Common.{inl, inr, arith, length-take, length-drop}
use Rattle.std.proofs.lemmas.Bool.{cases_eq, eq-eqb, ne_eqb}
use Rattle.drive.specs.Block.{block_size, whole}
use Rattle.drive.specs.Medium.{Sized}
use Rattle.drive.specs.Plain.{bare_visible}
use Rattle.drive.specs.HeldBack.{view, lies_under, held_visible}
use Rattle.drive.specs.declared.drives.held_back.HeldBack.{HeldBack}
use Rattle.drive.specs.declared.drives.held_back.HeldBlock.{HeldBlock}

-- a block below the count lies within
pub within : (size b : ℕ) → b < whole size → b * block_size + block_size ≤ size
within size b h = omega arith

pub bare_sized : (memory : List ℕ) → Sized (bare_visible memory)
bare_sized memory b h = let w = within (length memory) b h in simp (length-take, length-drop) (omega arith)

view_sized : (held : List HeldBlock) (b : ℕ) (under : List ℕ) → All (λ h. length h.bytes ≡ block_size) held → length under ≡ block_size → length (view held b under) ≡ block_size
view_sized [] b under sized e = e
view_sized (h ∷ held) b under sized e =
    elim (cases_eq h.number b) [
      | inl same ↦ rw (eq-eqb h.number b same) (sized 0 h (omega arith))
      | inr other ↦ rw (ne_eqb h.number b other) (view_sized held b under (λ k d l. sized (suc k) d (omega arith)) e)
    ]

pub held_sized : (d : HeldBack) → Sized (held_visible d)
held_sized d b h = view_sized d.held.items b (lies_under d b) d.sized (bare_sized (vec_items d.memory) b h)
