-- Entries at a list's front.
use Rattle.std.proofs.Common.{◌≡◌, ◌<◌, List, [], ◌∷◌, length, take, drop, set, refl, arith}
use Rattle.market.specs.declared.entry.Entry.{Entry}

pub take_one : (l : List Entry) (x : Entry) → 0 < length l → take 1 (set l 0 x) ≡ x ∷ []
take_one [] x h = absurd (omega arith)
take_one (y ∷ l) x h = refl

pub drop_one : (l : List Entry) (x : Entry) → drop 1 (set l 0 x) ≡ drop 1 l
drop_one [] x = refl
drop_one (y ∷ l) x = refl
