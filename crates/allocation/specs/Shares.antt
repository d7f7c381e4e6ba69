-- What the shares and `pro_rata` keep.
use Rattle.std.specs.Prelude.{◌≡◌, ℕ, zero, suc, ◌+◌, ◌-◌, ◌*◌, ◌<◌, ◌≤◌, min, List, [], ◌∷◌, map, length, sum, slice_index, refl}
use Rattle.std.proofs.Common.{sym, ap, subst, ◌∙◌, ⊎_elim, div-mul-le_self, le_of_mul-le-mul_right, mul-le-mul_right, mul-add, add-mul, mul-suc, suc-mul, mul-zero, arith}
use Rattle.std.proofs.Math.Nat.{div-le_of_le-mul, div-zero, zero-div}
use Rattle.std.specs.List.{AllZip}
use Rattle.std.proofs.lemmas.List.{nil_from_length}
use Rattle.std.proofs.lemmas.List.Elements.{length_all_zip}
use Rattle.std.proofs.lemmas.Nat.{div-add-mod', mod_below}
use Rattle.std.proofs.lemmas.Bool.{cases_lt}
use Rattle.allocation.specs.ProRata.{traded, share, shares, remainder, topped_up, pro_rata}
use Rattle.allocation.specs.Promise.{share_at}
use Rattle.allocation.specs.Rows.{sum_cons, same_from_sums, getD_map_zero}
use Rattle.allocation.specs.TopUp.{topped_within, topped_full, topped_above, topped_in_turn}

-- ---- shares

pub share_le : (t n l : ℕ) → t ≤ n → share t n l ≤ l
share_le t n l h = div-le_of_le-mul n (mul-le-mul_right l h)

pub shares_within : (t n : ℕ) (ls : List ℕ) → t ≤ n → AllZip ◌≤◌ (map (share t n) ls) ls
shares_within t n [] h = tt
shares_within t n (l ∷ ls) h = (share_le t n l h, shares_within t n ls h)

shares_sum : (t n : ℕ) (ls : List ℕ) → sum (map (share t n) ls) * n ≤ t * sum ls
shares_sum t n [] = omega arith
shares_sum t n (l ∷ ls) =
    let ih = shares_sum t n ls in
    let here = div-mul-le_self (t * l) n in
    rw (sum_cons (share t n l) (map (share t n) ls), sum_cons l ls) (omega (arith, add-mul (share t n l) (sum (map (share t n) ls)) n, mul-add t l (sum ls)))

shares_none : (t : ℕ) (ls : List ℕ) → sum (map (share t 0) ls) ≡ 0
shares_none t [] = refl
shares_none t (l ∷ ls) = let ih = shares_none t ls in omega (arith, div-zero (t * l), sum_cons (share t 0 l) (map (share t 0) ls))

-- the shares never come to more than what trades
pub shares_le : (t n : ℕ) (ls : List ℕ) → n ≡ sum ls → sum (map (share t n) ls) ≤ t
shares_le t n ls e = ⊎_elim
    (λ (some : 0 < n). le_of_mul-le-mul_right (subst (λ m. sum (map (share t n) ls) * n ≤ t * m) (sym e) (shares_sum t n ls)) some)
    (λ (none : n ≤ 0). let z : n ≡ 0 = omega arith in omega (arith, ap (λ m. sum (map (share t m) ls)) z, shares_none t ls))
    (cases_lt 0 n)

-- nor less by a lot for each order: a total of m + 1 keeps the differences out of it
share_near : (t m l : ℕ) → t * l ≤ share t (suc m) l * suc m + m
share_near t m l = omega (arith, div-add-mod' (t * l) (suc m), mod_below (t * l) (suc m) (omega arith))

shares_near : (t m : ℕ) (ls : List ℕ) → t * sum ls ≤ sum (map (share t (suc m)) ls) * suc m + length ls * m
shares_near t m [] = omega arith
shares_near t m (l ∷ ls) =
    let f = share t (suc m) in
    let ih = shares_near t m ls in
    let here = share_near t m l in
    rw (sum_cons (f l) (map f ls), sum_cons l ls) (omega (arith, add-mul (f l) (sum (map f ls)) (suc m), mul-add t l (sum ls), suc-mul (length ls) m))

shares_short : (t m : ℕ) (ls : List ℕ) → sum ls ≡ suc m → 0 < length ls → t < sum (map (share t (suc m)) ls) + length ls
shares_short t m ls e some =
    let given = sum (map (share t (suc m)) ls) in
    let near : t * suc m ≤ given * suc m + length ls * m = subst (λ n. t * n ≤ given * suc m + length ls * m) e (shares_near t m ls) in
    ⊎_elim
    (λ (h : t < given + length ls). h)
    (λ (h : given + length ls ≤ t). absurd (omega (arith, mul-le-mul_right (suc m) h, add-mul given (length ls) (suc m), mul-suc (length ls) m)))
    (cases_lt t (given + length ls))

remainder_by : (q n : ℕ) (ls : List ℕ) → n ≡ sum ls → 0 < length ls → min q n - sum (map (share (min q n) n) ls) < length ls
remainder_by q zero ls e some = omega arith
remainder_by q (suc m) ls e some = omega (arith, shares_short (min q (suc m)) m ls (sym e) some)

pub remainder_small : (q : ℕ) (ls : List ℕ) → 0 < length ls → remainder q ls < length ls
remainder_small q ls some = remainder_by q (sum ls) ls refl some

-- ---- pro-rata

own_shares_within : (q : ℕ) (ls : List ℕ) → AllZip ◌≤◌ (shares q ls) ls
own_shares_within q ls = shares_within (traded q ls) (sum ls) ls (omega arith)

pub pro_rata_within : (q : ℕ) (ls : List ℕ) → AllZip ◌≤◌ (pro_rata q ls) ls
unfolding pro_rata
pro_rata_within q ls = topped_within (remainder q ls) (shares q ls) ls (own_shares_within q ls)

pub pro_rata_full : (q : ℕ) (ls : List ℕ) → sum (pro_rata q ls) ≡ min q (sum ls)
unfolding pro_rata
pro_rata_full q ls =
    let le = shares_le (traded q ls) (sum ls) ls refl in
    topped_full (remainder q ls) (shares q ls) ls (own_shares_within q ls) ∙ omega arith

pub pro_rata_fills_all : (q : ℕ) (ls : List ℕ) → sum ls ≤ q → pro_rata q ls ≡ ls
pro_rata_fills_all q ls h = same_from_sums (pro_rata q ls) ls (pro_rata_within q ls) (pro_rata_full q ls ∙ omega arith)

share_at_is : (q : ℕ) (ls : List ℕ) (i : ℕ) → slice_index (shares q ls) i ≡ share_at q ls i
share_at_is q ls i = getD_map_zero (share (traded q ls) (sum ls)) (rw mul-zero (zero-div (sum ls))) ls i

pub pro_rata_at_least : (q : ℕ) (ls : List ℕ) (i : ℕ) → share_at q ls i ≤ slice_index (pro_rata q ls) i
unfolding pro_rata
pro_rata_at_least q ls i = rw (share_at_is q ls i) at (topped_above (remainder q ls) (shares q ls) ls (own_shares_within q ls) i).0

pub pro_rata_in_turn : (q : ℕ) (ls : List ℕ) (i j : ℕ) → i < j → share_at q ls j < slice_index (pro_rata q ls) j → slice_index (pro_rata q ls) i ≡ slice_index ls i
unfolding pro_rata
pro_rata_in_turn q ls i j lt more = topped_in_turn (remainder q ls) (shares q ls) ls (own_shares_within q ls) i j lt (rw (share_at_is q ls j) more)

-- ---- the passes

pub pro_rata_none : (q : ℕ) (ls fills : List ℕ) → length ls ≡ 0 → length ls ≡ length fills → fills ≡ pro_rata q ls
pro_rata_none q ls fills none level =
    let long = length_all_zip ◌≤◌ (pro_rata q ls) ls (pro_rata_within q ls) in
    nil_from_length fills (omega arith) ∙ sym (nil_from_length (pro_rata q ls) (omega arith))

pub pro_rata_made : (q n t u : ℕ) (ls gs fills : List ℕ) → n ≡ sum ls → t ≡ min q n → gs ≡ map (share t n) ls → u ≡ sum (map (share t n) ls) → fills ≡ topped_up (t - u) gs ls → fills ≡ pro_rata q ls
unfolding pro_rata
pro_rata_made q n t u ls gs fills en et eg eu ef =
    ef
    ∙ ap (λ v. topped_up (t - v) gs ls) eu
    ∙ ap (λ xs. topped_up (t - sum (map (share t n) ls)) xs ls) eg
    ∙ ap (λ s. topped_up (s - sum (map (share s n) ls)) (map (share s n) ls) ls) et
    ∙ ap (λ m. topped_up (min q m - sum (map (share (min q m) m) ls)) (map (share (min q m) m) ls) ls) en
