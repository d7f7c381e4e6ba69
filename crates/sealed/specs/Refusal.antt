-- What the sealer answers.
use Rattle.std.specs.Prelude.{◌≡◌, ℕ, ◌<◌, ◌≤◌, cond, ◌&&◌, List, [], ◌∷◌, length, Ok, Err, Result, nat_le}
use Rattle.answers.specs.Answer.{Answer, answered, refused}
use Rattle.sealed.specs.Sealing.{sealing}
use Rattle.sealed.specs.declared.sealer.SealRefusal.{SealRefusal}
use Rattle.sealed.specs.declared.sealer.SealRefusal.TheVariants.{PayloadLength}

abbrev pub number_of : SealRefusal → ℕ
number_of (PayloadLength length) = 92

abbrev pub answer : Result (Unit {0}) SealRefusal → Answer (Unit {0})
answer (Ok _) = answered tt
answer (Err (PayloadLength length)) = refused 92 (length ∷ [])

-- a payload has 1 to 505 bytes
abbrev pub tested : List ℕ → Answer (Unit {0})
tested p = cond (nat_le 1 (length p) && nat_le (length p) 505) (answered tt) (refused 92 (length p ∷ []))

-- the same by cases, with what the buffer held before and holds after
abbrev pub Told : List ℕ → List ℕ → Result (Unit {0}) SealRefusal → List ℕ → Type 0
Told p before (Ok _) after = (1 ≤ length p) × (length p ≤ 505) × (after ≡ sealing p)
Told p before (Err (PayloadLength n)) after = (n ≡ length p) × (1 ≤ length p → 505 < length p) × (after ≡ before)
