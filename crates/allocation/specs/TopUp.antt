-- What `topped_up` keeps, and a turn of its loop.
use Rattle.std.specs.Prelude.{◌≡◌, ℕ, zero, suc, ◌+◌, ◌-◌, ◌<◌, ◌≤◌, min, List, [], ◌∷◌, ◌++◌, length, take, drop, sum, slice_index, slice_index_or, slice_set, refl}
use Rattle.std.proofs.Common.{sym, ap, subst, ◌∙◌, arith}
use mathlib.Core.List.{zip_with}
use Rattle.std.specs.List.{AllZip}
use Rattle.std.proofs.lemmas.List.{drop_more, drop_all, drop-set-lt, take-append-drop}
use Rattle.allocation.specs.Fifo.{fifo}
use Rattle.allocation.specs.ProRata.{topped_up}
use Rattle.allocation.specs.Rows.{sum_cons, sum_le, written_more, written_all}

pub topped_within : (r : ℕ) (gs ls : List ℕ) → AllZip ◌≤◌ gs ls → AllZip ◌≤◌ (topped_up r gs ls) ls
unfolding topped_up zip_with fifo
topped_within r [] [] w = tt
topped_within r [] (l ∷ ls) w = absurd w
topped_within r (g ∷ gs) [] w = absurd w
topped_within r (g ∷ gs) (l ∷ ls) w = (omega (arith, w.0), topped_within (r - (l - g)) gs ls w.1)

pub topped_full : (r : ℕ) (gs ls : List ℕ) → AllZip ◌≤◌ gs ls → sum (topped_up r gs ls) ≡ min (sum gs + r) (sum ls)
unfolding topped_up zip_with fifo
topped_full r [] [] w = omega arith
topped_full r [] (l ∷ ls) w = absurd w
topped_full r (g ∷ gs) [] w = absurd w
topped_full r (g ∷ gs) (l ∷ ls) w =
    let ih = topped_full (r - (l - g)) gs ls w.1 in
    let le = sum_le gs ls w.1 in
    omega (arith, w.0, sum_cons g gs, sum_cons l ls, sum_cons (g + min r (l - g)) (topped_up (r - (l - g)) gs ls))

pub topped_none : (gs ls : List ℕ) → AllZip ◌≤◌ gs ls → topped_up 0 gs ls ≡ gs
unfolding topped_up zip_with fifo
topped_none [] [] w = refl
topped_none [] (l ∷ ls) w = absurd w
topped_none (g ∷ gs) [] w = absurd w
topped_none (g ∷ gs) (l ∷ ls) w =
    let first : g + min 0 (l - g) ≡ g = omega arith in
    let none : 0 - (l - g) ≡ 0 = omega arith in
    let ih = topped_none gs ls w.1 in
    ap (λ x. x ∷ topped_up (0 - (l - g)) gs ls) first ∙ ap (λ r. g ∷ topped_up r gs ls) none ∙ ap (λ xs. g ∷ xs) ih

pub topped_above : (r : ℕ) (gs ls : List ℕ) → AllZip ◌≤◌ gs ls → (i : ℕ) → (slice_index gs i ≤ slice_index (topped_up r gs ls) i) × (slice_index (topped_up r gs ls) i ≤ slice_index gs i + r)
unfolding topped_up zip_with fifo
topped_above r [] [] w i = (omega arith, omega arith)
topped_above r [] (l ∷ ls) w i = absurd w
topped_above r (g ∷ gs) [] w i = absurd w
topped_above r (g ∷ gs) (l ∷ ls) w zero = (omega arith, omega arith)
topped_above r (g ∷ gs) (l ∷ ls) w (suc i) = let ih = topped_above (r - (l - g)) gs ls w.1 i in (ih.0, omega (arith, ih.1))

pub topped_in_turn : (r : ℕ) (gs ls : List ℕ) → AllZip ◌≤◌ gs ls → (i j : ℕ) → i < j → slice_index gs j < slice_index (topped_up r gs ls) j → slice_index (topped_up r gs ls) i ≡ slice_index ls i
unfolding topped_up zip_with fifo
topped_in_turn r [] [] w i j lt more = refl
topped_in_turn r [] (l ∷ ls) w i j lt more = absurd w
topped_in_turn r (g ∷ gs) [] w i j lt more = absurd w
topped_in_turn r (g ∷ gs) (l ∷ ls) w i zero lt more = absurd (omega arith)
topped_in_turn r (g ∷ gs) (l ∷ ls) w zero (suc j) lt more = omega (arith, w.0, (topped_above (r - (l - g)) gs ls w.1 j).1)
topped_in_turn r (g ∷ gs) (l ∷ ls) w (suc i) (suc j) lt more = topped_in_turn (r - (l - g)) gs ls w.1 i j (omega arith) more

-- ---- the loop

topped_drop : (r : ℕ) (gs ls : List ℕ) (i : ℕ) → i < length gs → i < length ls → topped_up r (drop i gs) (drop i ls) ≡ (slice_index gs i + min r (slice_index ls i - slice_index gs i)) ∷ topped_up (r - (slice_index ls i - slice_index gs i)) (drop (i + 1) gs) (drop (i + 1) ls)
unfolding topped_up zip_with fifo
topped_drop r gs ls i h k = ap (λ xs. topped_up r xs (drop i ls)) (drop_more gs i 0 h) ∙ ap (λ xs. topped_up r (slice_index gs i ∷ drop (i + 1) gs) xs) (drop_more ls i 0 k)

pub within_drop : (gs ls : List ℕ) (i : ℕ) → i < length gs → i < length ls → AllZip ◌≤◌ (drop i gs) (drop i ls) → (slice_index gs i ≤ slice_index ls i) × AllZip ◌≤◌ (drop (i + 1) gs) (drop (i + 1) ls)
within_drop gs ls i h k w = subst (λ xs. AllZip ◌≤◌ (slice_index gs i ∷ drop (i + 1) gs) xs) (drop_more ls i 0 k) (subst (λ xs. AllZip ◌≤◌ xs (drop i ls)) (drop_more gs i 0 h) w)

-- one turn: the order at i takes x more
pub topped_more : (r x i : ℕ) (gs ls whole : List ℕ) → i < length gs → i < length ls → x ≡ min r (slice_index ls i - slice_index gs i)
    → AllZip ◌≤◌ (drop i gs) (drop i ls) × (take i gs ++ topped_up r (drop i gs) (drop i ls) ≡ whole)
    → AllZip ◌≤◌ (drop (i + 1) (slice_set gs i (slice_index gs i + x))) (drop (i + 1) ls) × (take (i + 1) (slice_set gs i (slice_index gs i + x)) ++ topped_up (r - x) (drop (i + 1) (slice_set gs i (slice_index gs i + x))) (drop (i + 1) ls) ≡ whole)
topped_more r x i gs ls whole h k e inv =
    let g = slice_index_or gs i 0 in
    let l = slice_index_or ls i 0 in
    let y = g + x in
    let rest = drop (i + 1) ls in
    let same : drop (i + 1) gs ≡ drop (i + 1) (slice_set gs i y) = sym (drop-set-lt (i + 1) gs i y (omega arith)) in
    let fill : g + min r (l - g) ≡ y = omega arith in
    let left : r - (l - g) ≡ r - x = omega arith in
    let turn : topped_up r (drop i gs) (drop i ls) ≡ y ∷ topped_up (r - x) (drop (i + 1) (slice_set gs i y)) rest =
    topped_drop r gs ls i h k
    ∙ ap (λ z. z ∷ topped_up (r - (l - g)) (drop (i + 1) gs) rest) fill
    ∙ ap (λ m. y ∷ topped_up m (drop (i + 1) gs) rest) left
    ∙ ap (λ xs. y ∷ topped_up (r - x) xs rest) same in (
      subst (λ xs. AllZip ◌≤◌ xs rest) same (within_drop gs ls i h k inv.0).1,
      written_more gs (topped_up (r - x) (drop (i + 1) (slice_set gs i y)) rest) whole i y h (ap (λ xs. take i gs ++ xs) (sym turn) ∙ inv.1),
    )

-- nothing is left to deal
pub topped_early : (r i : ℕ) (gs ls whole : List ℕ) → r ≡ 0 → AllZip ◌≤◌ (drop i gs) (drop i ls) × (take i gs ++ topped_up r (drop i gs) (drop i ls) ≡ whole) → gs ≡ whole
topped_early r i gs ls whole none inv =
    sym (take-append-drop i gs)
    ∙ ap (λ xs. take i gs ++ xs) (sym (topped_none (drop i gs) (drop i ls) inv.0))
    ∙ ap (λ m. take i gs ++ topped_up m (drop i gs) (drop i ls)) (sym none)
    ∙ inv.1

pub topped_end : (r i : ℕ) (gs ls whole : List ℕ) → length gs ≤ i → take i gs ++ topped_up r (drop i gs) (drop i ls) ≡ whole → gs ≡ whole
unfolding topped_up zip_with
topped_end r i gs ls whole h inv = written_all gs (topped_up r (drop i gs) (drop i ls)) whole i h (ap (λ xs. topped_up r xs (drop i ls)) (drop_all i gs h)) inv
