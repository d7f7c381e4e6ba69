-- Steps of the loops.
use Rattle.std.proofs.Common.{◌≡◌, ℕ, suc, ◌+◌, ◌<◌, ◌≤◌, cond, ltb, List, [], ◌∷◌, ◌++◌, length, get_or, take, drop, set, sym, refl, ap, ◌∙◌, arith}
use Rattle.std.proofs.lemmas.List.{take_more_set, drop_more, drop_all, take_all, drop-set-lt, append_assoc, append-nil}
use Rattle.std.proofs.lemmas.Bool.{cond-true, cond-false, lt-ltb, le-ltb}
use Rattle.std.specs.List.{AllZip}
use Rattle.market.specs.declared.resting.Resting.{Resting}
use Rattle.market.specs.Market.{lots_of}
use Rattle.market.specs.Put.{less, after_fills}

pub length_lots : (os : List Resting) → length (lots_of os) ≡ length os
length_lots [] = refl
length_lots (o ∷ os) = ap suc (length_lots os)

pub fits_length : (fs ls : List ℕ) → AllZip ◌≤◌ fs ls → length fs ≡ length ls
fits_length [] [] w = refl
fits_length [] (l ∷ ls) w = absurd w
fits_length (f ∷ fs) [] w = absurd w
fits_length (f ∷ fs) (l ∷ ls) w = ap suc (fits_length fs ls w.1)

pub built_more : {X : Type 0} (out rest whole : List X) (i : ℕ) (x : X) → i < length out → take i out ++ (x ∷ rest) ≡ whole → take (i + 1) (set out i x) ++ rest ≡ whole
built_more out rest whole i x h e = ap (λ xs. xs ++ rest) (take_more_set out i x h) ∙ append_assoc (take i out) (x ∷ []) rest ∙ e

pub built_all : {X : Type 0} (out rest whole : List X) (i : ℕ) → length out ≤ i → rest ≡ [] → take i out ++ rest ≡ whole → out ≡ whole
built_all out rest whole i h r e = sym (append-nil out) ∙ ap (λ xs. xs ++ []) (sym (take_all i out h)) ∙ ap (λ xs. take i out ++ xs) (sym r) ∙ e

pub lots_drop : (os : List Resting) (i : ℕ) (d : Resting) → i < length os → lots_of (drop i os) ≡ (get_or os i d).lots ∷ lots_of (drop (i + 1) os)
lots_drop os i d h = ap lots_of (drop_more os i d h)

pub lots_end : (os : List Resting) (i : ℕ) → length os ≤ i → lots_of (drop i os) ≡ []
lots_end os i h = ap lots_of (drop_all i os h)

pub filled_drop : (fs : List ℕ) (os : List Resting) (i : ℕ) (d : Resting) → i < length fs → i < length os → after_fills (drop i fs) (drop i os) ≡ cond (ltb (get_or fs i 0) (get_or os i d).lots) (less (get_or os i d) (get_or fs i 0) ∷ after_fills (drop (i + 1) fs) (drop (i + 1) os)) (after_fills (drop (i + 1) fs) (drop (i + 1) os))
filled_drop fs os i d h k = ap (λ xs. after_fills xs (drop i os)) (drop_more fs i 0 h) ∙ ap (λ xs. after_fills (get_or fs i 0 ∷ drop (i + 1) fs) xs) (drop_more os i d k)

module _ (fs : List ℕ) (qs whole : List Resting) (stay i : ℕ) (o : Resting) (h : i < length fs) (k : i < length qs) (le : stay ≤ i) (e : o ≡ get_or qs i o) (inv : take stay qs ++ after_fills (drop i fs) (drop i qs) ≡ whole) where
  opened : after_fills (drop i fs) (drop i qs) ≡ cond (ltb (get_or fs i 0) o.lots) (less o (get_or fs i 0) ∷ after_fills (drop (i + 1) fs) (drop (i + 1) qs)) (after_fills (drop (i + 1) fs) (drop (i + 1) qs))
  opened = filled_drop fs qs i o h k ∙ ap (λ x. cond (ltb (get_or fs i 0) x.lots) (less x (get_or fs i 0) ∷ after_fills (drop (i + 1) fs) (drop (i + 1) qs)) (after_fills (drop (i + 1) fs) (drop (i + 1) qs))) (sym e)

  pub keep_step : get_or fs i 0 < o.lots → take (stay + 1) (set qs stay (less o (get_or fs i 0))) ++ after_fills (drop (i + 1) fs) (drop (i + 1) (set qs stay (less o (get_or fs i 0)))) ≡ whole
  keep_step t =
      let x = less o (get_or fs i 0) in
      built_more qs _ whole stay x (omega arith)
      (ap (λ xs. take stay qs ++ (x ∷ after_fills (drop (i + 1) fs) xs)) (drop-set-lt (i + 1) qs stay x (omega arith))
      ∙ ap (λ xs. take stay qs ++ xs) (sym (opened ∙ cond-true (ltb (get_or fs i 0) o.lots) _ _ (lt-ltb _ _ t)))
      ∙ inv)

  pub gone_step : o.lots ≤ get_or fs i 0 → take stay qs ++ after_fills (drop (i + 1) fs) (drop (i + 1) qs) ≡ whole
  gone_step t = ap (λ xs. take stay qs ++ xs) (sym (opened ∙ cond-false (ltb (get_or fs i 0) o.lots) _ _ (le-ltb _ _ t))) ∙ inv

pub filled_end : (fs : List ℕ) (qs whole : List Resting) (stay i : ℕ) → length fs ≤ i → length qs ≤ i → take stay qs ++ after_fills (drop i fs) (drop i qs) ≡ whole → take stay qs ≡ whole
filled_end fs qs whole stay i h k inv =
    sym (append-nil (take stay qs)) ∙ ap (λ xs. take stay qs ++ xs) (sym (ap (λ xs. after_fills xs (drop i qs)) (drop_all i fs h) ∙ drop_all i qs k)) ∙ inv

pub fits_even : (fs : List ℕ) (os : List Resting) → AllZip ◌≤◌ fs (lots_of os) → length fs ≡ length os
fits_even fs os w = fits_length fs (lots_of os) w ∙ length_lots os
