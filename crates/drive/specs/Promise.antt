-- What every kind of drive promises of a power cut. `means` is what its drives mean.
-- Junk is given by a test, since a statement over every `List ℕ → Type 0` is too large for a contract.
use Rattle.std.specs.Prelude.{◌≡◌, ℕ, ◌<◌, Bool, T, ◌⊎◌, List, [], ◌∷◌, ◌≢◌}
use Rattle.drive.specs.Act.{Act, write, flush, CutDuring}
use Rattle.drive.specs.Medium.{Medium, Flushed, CutAt}

-- one of the acts writes c to block b
unfoldable pub Writes : List Act → ℕ → List ℕ → Type 0
Writes [] b c = ⊥
Writes (flush ∷ acts) b c = Writes acts b c
Writes (write at bytes ∷ acts) b c = ((b ≡ at) × (c ≡ bytes)) ⊎ Writes acts b c

-- none of the acts writes to block b
unfoldable pub Spares : List Act → ℕ → Type 0
Spares [] b = Unit {0}
Spares (flush ∷ acts) b = Spares acts b
Spares (write at bytes ∷ acts) b = (b ≢ at) × Spares acts b

-- what is shown when a flush returns is shown after a power cut
abbrev pub FlushedSurvives : {D : Type 0} → (D → Medium) → Type 0
FlushedSurvives {D} means =
    (junk : List ℕ → Bool) (d f e : D) (b : ℕ) → Flushed (means d) (means f) → CutAt (λ c. T (junk c)) (means f) (means e) → b < (means d).count
    → (means e).shown b ≡ (means d).shown b

-- a settled block that no act of a row writes is shown as it was, wherever in the row the power is cut
abbrev pub SparedSurvives : {D : Type 0} → (D → Medium) → Type 0
SparedSurvives {D} means =
    (junk : List ℕ → Bool) (acts : List Act) (d e : D) (b : ℕ) → CutDuring means (λ c. T (junk c)) acts d (means e) → b < (means d).count
    → (means d).settled b → Spares acts b → (means e).shown b ≡ (means d).shown b

-- wherever in a row of acts the power is cut, a block holds what might have stood before the row, or what the row wrote to it,
-- or junk, but that only where it was not settled or was written
abbrev pub CutLeaves : {D : Type 0} → (D → Medium) → Type 0
CutLeaves {D} means =
    (junk : List ℕ → Bool) (acts : List Act) (d e : D) (b : ℕ) → CutDuring means (λ c. T (junk c)) acts d (means e) → b < (means d).count
    → (means d).stands b ((means e).shown b) ⊎ (Writes acts b ((means e).shown b) ⊎ (((means d).settled b × Spares acts b → ⊥) × T (junk ((means e).shown b))))
