-- Every policy splits as `Splits` says.
use Rattle.std.proofs.Common.{◌≡◌, ℕ, suc, ◌≤◌, min, List, [], ◌∷◌, length, get_or, sum, refl, arith}
use Rattle.std.specs.List.{AllZip}
use Rattle.std.proofs.lemmas.List.Sums.{sum_by-cons}
use Rattle.market.specs.Market.{total}
use Rattle.market.specs.Split.{Splits}

-- past the end both read 0
each_from_places : (fs ls : List ℕ) → length fs ≡ length ls → ((place : ℕ) → get_or fs place 0 ≤ get_or ls place 0) → AllZip ◌≤◌ fs ls
each_from_places [] [] e h = tt
each_from_places [] (l ∷ ls) e h = absurd (omega arith)
each_from_places (f ∷ fs) [] e h = absurd (omega arith)
each_from_places (f ∷ fs) (l ∷ ls) e h = (h 0, each_from_places fs ls (omega arith) (λ place. h (suc place)))

total_is_sum : (xs : List ℕ) → total xs ≡ sum xs
total_is_sum [] = refl
total_is_sum (x ∷ xs) = omega (arith, total_is_sum xs, sum_by-cons (λ n. n) x xs)

-- from the laws of a policy
pub splits : {P : Type 0} (split : P → ℕ → List ℕ → List ℕ)
    → ((p : P) (quantity : ℕ) (lots : List ℕ) → length (split p quantity lots) ≡ length lots)
    → ((p : P) (quantity : ℕ) (lots : List ℕ) (place : ℕ) → get_or (split p quantity lots) place 0 ≤ get_or lots place 0)
    → ((p : P) (quantity : ℕ) (lots : List ℕ) → sum (split p quantity lots) ≡ min quantity (sum lots))
    → (p : P) → Splits (split p)
splits split as_many within full p = record {
  within = λ q lots. each_from_places (split p q lots) lots (as_many p q lots) (within p q lots);
  full = λ q lots. omega (arith, total_is_sum (split p q lots), total_is_sum lots, full p q lots);
}
