-- What `fifo` keeps, and a turn of its loop.
use Rattle.std.specs.Prelude.{◌≡◌, ℕ, zero, suc, ◌+◌, ◌-◌, ◌<◌, ◌≤◌, min, List, [], ◌∷◌, ◌++◌, length, take, drop, sum, slice_index, slice_index_or, slice_set, refl}
use Rattle.std.proofs.Common.{sym, ap, ◌∙◌, arith}
use Rattle.std.specs.List.{AllZip}
use Rattle.std.proofs.lemmas.List.{at_drop_more, at_drop_all}
use Rattle.allocation.specs.Fifo.{fifo}
use Rattle.allocation.specs.Rows.{sum_cons, same_from_sums, written_more, written_all}

pub fifo_within : (q : ℕ) (ls : List ℕ) → AllZip ◌≤◌ (fifo q ls) ls
unfolding fifo
fifo_within q [] = tt
fifo_within q (l ∷ ls) = (omega arith, fifo_within (q - l) ls)

pub fifo_full : (q : ℕ) (ls : List ℕ) → sum (fifo q ls) ≡ min q (sum ls)
unfolding fifo
fifo_full q [] = omega arith
fifo_full q (l ∷ ls) = let ih = fifo_full (q - l) ls in omega (arith, sum_cons l ls, sum_cons (min q l) (fifo (q - l) ls))

pub fifo_fills_all : (q : ℕ) (ls : List ℕ) → sum ls ≤ q → fifo q ls ≡ ls
fifo_fills_all q ls h = same_from_sums (fifo q ls) ls (fifo_within q ls) (fifo_full q ls ∙ omega arith)

fifo_le : (q : ℕ) (ls : List ℕ) (i : ℕ) → slice_index (fifo q ls) i ≤ q
unfolding fifo
fifo_le q [] i = omega arith
fifo_le q (l ∷ ls) zero = omega arith
fifo_le q (l ∷ ls) (suc i) = omega (arith, fifo_le (q - l) ls i)

pub fifo_in_turn : (q : ℕ) (ls : List ℕ) (i j : ℕ) → i < j → 0 < slice_index (fifo q ls) j → slice_index (fifo q ls) i ≡ slice_index ls i
unfolding fifo
fifo_in_turn q [] i j lt some = refl
fifo_in_turn q (l ∷ ls) i zero lt some = absurd (omega arith)
fifo_in_turn q (l ∷ ls) zero (suc j) lt some = omega (arith, fifo_le (q - l) ls j)
fifo_in_turn q (l ∷ ls) (suc i) (suc j) lt some = fifo_in_turn (q - l) ls i j (omega arith) some

-- one turn: the order at i takes x of what is left
pub fifo_more : (left x i : ℕ) (xs ls whole : List ℕ) → i < length xs → i < length ls → x ≡ min left (slice_index ls i) → take i xs ++ fifo left (drop i ls) ≡ whole
    → take (i + 1) (slice_set xs i x) ++ fifo (left - x) (drop (i + 1) ls) ≡ whole
unfolding fifo
fifo_more left x i xs ls whole h k e inv =
    let l = slice_index_or ls i 0 in
    let n : left - l ≡ left - x = omega arith in
    let here = at_drop_more (fifo left) ls i 0 k in
    written_more xs (fifo (left - x) (drop (i + 1) ls)) whole i x h (ap (λ m. take i xs ++ (x ∷ fifo m (drop (i + 1) ls))) (sym n) ∙ ap (λ y. take i xs ++ (y ∷ fifo (left - l) (drop (i + 1) ls))) e ∙ ap (λ ys. take i xs ++ ys) (sym here) ∙ inv)

pub fifo_end : (left i : ℕ) (xs ls whole : List ℕ) → length xs ≤ i → length ls ≤ i → take i xs ++ fifo left (drop i ls) ≡ whole → xs ≡ whole
unfolding fifo
fifo_end left i xs ls whole h k inv = written_all xs (fifo left (drop i ls)) whole i h (at_drop_all (fifo left) ls i k) inv
