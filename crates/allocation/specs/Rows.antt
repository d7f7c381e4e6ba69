-- Rows of numbers: sums, rows that stay within another, and a row that a loop writes from the front.
use Rattle.std.specs.Prelude.{◌≡◌, ℕ, zero, suc, ◌+◌, ◌<◌, ◌≤◌, List, [], ◌∷◌, ◌++◌, map, length, take, sum, slice_index, slice_set, refl}
use Rattle.std.proofs.Common.{sym, ap, ◌∙◌, arith}
use Rattle.std.specs.List.{AllZip}
use Rattle.std.proofs.lemmas.List.{take_more_set, take_all, append_assoc, append-nil}
use Rattle.std.proofs.lemmas.List.Sums.{sum_by-cons}

pub sum_cons : (x : ℕ) (xs : List ℕ) → sum (x ∷ xs) ≡ x + sum xs
sum_cons x xs = sum_by-cons (λ n. n) x xs

-- past the end both read 0
pub each_le_at : (fs ls : List ℕ) → AllZip ◌≤◌ fs ls → (i : ℕ) → slice_index fs i ≤ slice_index ls i
each_le_at [] [] w i = omega arith
each_le_at [] (l ∷ ls) w i = absurd w
each_le_at (f ∷ fs) [] w i = absurd w
each_le_at (f ∷ fs) (l ∷ ls) w zero = w.0
each_le_at (f ∷ fs) (l ∷ ls) w (suc i) = each_le_at fs ls w.1 i

pub sum_le : (fs ls : List ℕ) → AllZip ◌≤◌ fs ls → sum fs ≤ sum ls
sum_le [] [] w = omega arith
sum_le [] (l ∷ ls) w = absurd w
sum_le (f ∷ fs) [] w = absurd w
sum_le (f ∷ fs) (l ∷ ls) w = let ih = sum_le fs ls w.1 in omega (arith, w.0, sum_cons f fs, sum_cons l ls)

-- a row within another that comes to as much is that row
pub same_from_sums : (fs ls : List ℕ) → AllZip ◌≤◌ fs ls → sum fs ≡ sum ls → fs ≡ ls
same_from_sums [] [] w e = refl
same_from_sums [] (l ∷ ls) w e = absurd w
same_from_sums (f ∷ fs) [] w e = absurd w
same_from_sums (f ∷ fs) (l ∷ ls) w e =
    let le = sum_le fs ls w.1 in
    let first : f ≡ l = omega (arith, w.0, sum_cons f fs, sum_cons l ls) in
    let rest : sum fs ≡ sum ls = omega (arith, w.0, sum_cons f fs, sum_cons l ls) in
    let ih = same_from_sums fs ls w.1 rest in
    cc

pub getD_map_zero : (f : ℕ → ℕ) → f 0 ≡ 0 → (xs : List ℕ) (i : ℕ) → slice_index (map f xs) i ≡ f (slice_index xs i)
getD_map_zero f e [] i = sym e
getD_map_zero f e (x ∷ xs) zero = refl
getD_map_zero f e (x ∷ xs) (suc i) = getD_map_zero f e xs i

-- what is written so far, and what is still to be written, are the whole
pub written_more : (xs rest whole : List ℕ) (i x : ℕ) → i < length xs → take i xs ++ (x ∷ rest) ≡ whole → take (i + 1) (slice_set xs i x) ++ rest ≡ whole
written_more xs rest whole i x h e = rw (take_more_set xs i x h, append_assoc) e

pub written_all : (xs rest whole : List ℕ) (i : ℕ) → length xs ≤ i → rest ≡ [] → take i xs ++ rest ≡ whole → xs ≡ whole
written_all xs rest whole i h r e = sym (append-nil xs) ∙ ap (λ ys. ys ++ []) (sym (take_all i xs h)) ∙ ap (λ ys. take i xs ++ ys) (sym r) ∙ e
