-- Rows of acts on a drive, and a power cut somewhere in such a row.
use Rattle.std.specs.Prelude.{◌≡◌, ℕ, ◌⊎◌, List, [], ◌∷◌, ◌≢◌}
use Rattle.drive.specs.Medium.{Medium, Written, Flushed, CutAt}

-- what is asked of a drive
pub data Act : Type 0 where
  write : ℕ → List ℕ → Act
  flush : Act

unfoldable pub Acted : Act → Medium → Medium → Type 0
Acted (write at bytes) d e = Written d at bytes e
Acted flush d e = Flushed d e

-- the medium as a power cut finds it within an act. Within a flush it is as just before; within a write too,
-- but there the written block is not settled, and the new bytes may stand in it.
abbrev pub amid : Act → Medium → Medium
amid flush d = d
amid (write at bytes) d = record {
  count = d.count;
  shown = d.shown;
  stands = λ b c. d.stands b c ⊎ ((b ≡ at) × (c ≡ bytes));
  settled = λ b. d.settled b × (b ≢ at);
}

unfoldable pub CutIn : (List ℕ → Type 0) → Act → Medium → Medium → Type 0
CutIn junk act d e = CutAt junk (amid act d) e

-- the acts, one after the other, led from `d` to `e`
unfoldable pub Does : {D : Type 0} → (D → Medium) → List Act → D → D → Type 0
Does means [] d e = e ≡ d
Does {D} means (act ∷ acts) d e = (m : D) × Acted act (means d) (means m) × Does means acts m e

-- a power cut before, within or after one of the acts leaves `e`
unfoldable pub CutDuring : {D : Type 0} → (D → Medium) → (List ℕ → Type 0) → List Act → D → Medium → Type 0
CutDuring means junk [] d e = CutAt junk (means d) e
CutDuring {D} means junk (act ∷ acts) d e =
    CutAt junk (means d) e ⊎ (CutIn junk act (means d) e ⊎ ((m : D) × Acted act (means d) (means m) × CutDuring means junk acts m e))
