use Rattle.std.proofs.Common.{◌≡◌, ℕ, ◌+◌, ◌%◌, List, [], ◌∷◌, fold, refl, ap, ◌∙◌, rules}
use native.Mathlib.Nat.{mod-add-mod}
use Rattle.std.proofs.lemmas.Iterator.{YieldsList-from_slice}
use Rattle.std.proofs.lemmas.Iterator.Consumers.{fold_from_yields_List}
use Rattle.fix.proofs.reading.sum_of.Goals as goal

-- a sum that wraps at each step is the sum that wraps once
wrapped : (bs : List ℕ) (n : ℕ) → fold (λ a b. (a + b) % 256) (n % 256) bs ≡ fold ◌+◌ n bs % 256
wrapped [] n = refl
wrapped (b ∷ bs) n = ap (λ m. fold (λ a b. (a + b) % 256) m bs) (mod-add-mod n 256 b) ∙ wrapped bs (n + b)

pub returns : goal.returns
returns c = fold_from_yields_List _ (λ a b. (a + b) % 256) 0 _ c.fold.ensures.ran (YieldsList-from_slice c.args.bytes.now cc) (λ a x b q k. search rules) ∙ wrapped c.args.bytes.now 0
