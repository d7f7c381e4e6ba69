-- Rows of acts.
use Rattle.std.proofs.Common.{List, [], ◌∷◌, ◌++◌, refl, subst}
use Rattle.drive.specs.Act.{Act, Acted, Does}
use Rattle.drive.specs.Medium.{Medium}

-- one more act
pub does_more : {D : Type 0} (means : D → Medium) (acts : List Act) (act : Act) (d m e : D) → Does means acts d m → Acted act (means m) (means e) → Does means (acts ++ (act ∷ [])) d e
unfolding Does
does_more means [] act d m e p x = (e, subst (λ y. Acted act (means y) (means e)) p x, refl)
does_more means (first ∷ acts) act d m e (k, x, rest) s = (k, x, does_more means acts act k m e rest s)
