-- An incoming order meets one level after another.
use Rattle.std.proofs.Common.{◌≡◌, ℕ, zero, suc, ◌+◌, ◌-◌, ◌<◌, ◌≤◌, true, false, ltb, ◌⊎◌, List, [], ◌∷◌, ◌++◌, length, sym, refl, ap, ◌∙◌, inl, inr, ⊎_elim, arith}
use Rattle.std.proofs.lemmas.Bool.{cases_lt, cond-true, cond-false, le-ltb}
use Rattle.std.specs.List.{AllZip}
use Rattle.market.specs.declared.resting.Resting.{Resting}
use Rattle.fix.specs.declared.command.Side.{Side}
use Rattle.fix.specs.Command.{NewOrder}
use Rattle.market.specs.Market.{Level, total, lots_of, crosses, resting}
use Rattle.market.specs.Split.{Splits}
use Rattle.market.specs.Put.{Met, after_fills, kept, of_fills, meets}
use Rattle.side.specs.Rank.{turned, at_price, priced}
use Rattle.side.specs.Meeting.{best_filled, first_queue, first_rank}
use Rattle.side.proofs.Prices.{kept_priced}

-- ---- a queue that is filled whole

within_total : (fs ls : List ℕ) → AllZip ◌≤◌ fs ls → total fs ≤ total ls
within_total [] [] w = omega arith
within_total [] (l ∷ ls) w = absurd w
within_total (f ∷ fs) [] w = absurd w
within_total (f ∷ fs) (l ∷ ls) w = omega (arith, w.0, within_total fs ls w.1)

all_filled : (fs ls : List ℕ) → AllZip ◌≤◌ fs ls → total fs ≡ total ls → fs ≡ ls
all_filled [] [] w e = refl
all_filled [] (l ∷ ls) w e = absurd w
all_filled (f ∷ fs) [] w e = absurd w
all_filled (f ∷ fs) (l ∷ ls) w e =
    let le = within_total fs ls w.1 in
    let here : f ≡ l = omega (arith, w.0) in
    let rest : total fs ≡ total ls = omega arith in
    ap (λ x. x ∷ fs) here ∙ ap (λ xs. l ∷ xs) (all_filled fs ls w.1 rest)

after_whole : (rs : List Resting) → after_fills (lots_of rs) rs ≡ []
after_whole [] = refl
after_whole (r ∷ rs) = cond-false (ltb r.lots r.lots) _ _ (le-ltb r.lots r.lots (omega arith)) ∙ after_whole rs

module _ (split : ℕ → List ℕ → List ℕ) (means : Splits split) where
  -- a trade leaves nothing of the level, or nothing of the order
  pub done_or_gone : (q : ℕ) (rs : List Resting) → (after_fills (split q (lots_of rs)) rs ≡ []) ⊎ (q - total (split q (lots_of rs)) ≡ 0)
  done_or_gone q rs = ⊎_elim
      (λ (l : total (lots_of rs) < q).
      let all : total (split q (lots_of rs)) ≡ total (lots_of rs) = omega (arith, means.full q (lots_of rs)) in
      inl (ap (λ fs. after_fills fs rs) (all_filled (split q (lots_of rs)) (lots_of rs) (means.within q (lots_of rs)) all) ∙ after_whole rs))
      (λ (l : q ≤ total (lots_of rs)). inr (omega (arith, means.full q (lots_of rs))))
      (cases_lt (total (lots_of rs)) q)

  module _ (o : NewOrder) where
    pub meets_zero : (ls : List Level) → meets split o 0 ls ≡ record { left = 0; levels = ls; entries = [] }
    meets_zero [] = refl
    meets_zero (l ∷ ls) = refl

    pub meets_stops : (q : ℕ) (l : Level) (ls : List Level) → crosses o.side o.price l.price ≡ false → meets split o q (l ∷ ls) ≡ record { left = q; levels = l ∷ ls; entries = [] }
    meets_stops zero l ls f = refl
    meets_stops (suc q) l ls f = cond-false (crosses o.side o.price l.price) _ _ f

    abbrev met_level : ℕ → Level → List Level → Met → Met
    met_level q l ls rest = record {
      left = rest.left;
      levels = kept l.price (after_fills (split q (lots_of l.queue)) l.queue) rest.levels;
      entries = of_fills o l.price q (split q (lots_of l.queue)) l.queue ++ rest.entries;
    }

    meets_cross : (q : ℕ) (l : Level) (ls : List Level) → 0 < q → crosses o.side o.price l.price ≡ true → meets split o q (l ∷ ls) ≡ met_level q l ls (meets split o (q - total (split q (lots_of l.queue))) ls)
    meets_cross zero l ls h t = absurd (omega arith)
    meets_cross (suc q) l ls h t = cond-true (crosses o.side o.price l.price) _ _ t

    -- what is left meets what is left
    meets_after : (q p : ℕ) (rs : List Resting) (ls : List Level)
        → meets split o (q - total (split q (lots_of rs))) (kept p (after_fills (split q (lots_of rs)) rs) ls)
        ≡ record {
          left = (meets split o (q - total (split q (lots_of rs))) ls).left;
          levels = kept p (after_fills (split q (lots_of rs)) rs) (meets split o (q - total (split q (lots_of rs))) ls).levels;
          entries = (meets split o (q - total (split q (lots_of rs))) ls).entries;
        }
    meets_after q p rs ls = ⊎_elim
        (λ (e : after_fills (split q (lots_of rs)) rs ≡ []).
        let left = q - total (split q (lots_of rs)) in
        let made : List Resting → Met = λ a. record { left = (meets split o left ls).left; levels = kept p a (meets split o left ls).levels; entries = (meets split o left ls).entries } in
        ap (λ a. meets split o left (kept p a ls)) e ∙ sym (ap made e))
        (λ (e : q - total (split q (lots_of rs)) ≡ 0).
        let a = after_fills (split q (lots_of rs)) rs in
        let made : Met → Met = λ (m : Met). record { left = m.left; levels = kept p a m.levels; entries = m.entries } in
        ap (λ n. meets split o n (kept p a ls)) e ∙ meets_zero (kept p a ls) ∙ sym (ap (λ n. made (meets split o n ls)) e ∙ ap made (meets_zero ls)))
        (done_or_gone q rs)

    -- one level met
    pub record Stepped (s : Side) (q : ℕ) (rs : List Level) : Type 0 where
      pub same_left : (meets split o q (priced s rs)).left ≡ (meets split o (q - total (split q (lots_of (first_queue rs)))) (priced s (best_filled (split q) rs))).left
      pub same_levels : (meets split o q (priced s rs)).levels ≡ (meets split o (q - total (split q (lots_of (first_queue rs)))) (priced s (best_filled (split q) rs))).levels
      pub entries : (meets split o q (priced s rs)).entries ≡ of_fills o (turned s (first_rank rs)) q (split q (lots_of (first_queue rs))) (first_queue rs) ++ (meets split o (q - total (split q (lots_of (first_queue rs)))) (priced s (best_filled (split q) rs))).entries

    pub stepped : (s : Side) (q : ℕ) (rs : List Level) → 0 < q → 0 < length rs → crosses o.side o.price (turned s (first_rank rs)) ≡ true → Stepped s q rs
    stepped s q [] h some t = absurd (omega arith)
    stepped s q (l ∷ ls) h some t =
        let fs : List ℕ = split q (lots_of l.queue) in
        let left = q - total fs in
        let a = after_fills fs l.queue in
        let p = turned s l.price in
        let rest : Met = meets split o left (priced s ls) in
        let one = meets_cross q (at_price s l) (priced s ls) h t in
        let two : meets split o left (priced s (kept l.price a ls)) ≡ record { left = rest.left; levels = kept p a rest.levels; entries = rest.entries } = ap (meets split o left) (kept_priced s l.price a ls) ∙ meets_after q p l.queue (priced s ls) in
        record {
          same_left = ap (λ (m : Met). m.left) one ∙ sym (ap (λ (m : Met). m.left) two);
          same_levels = ap (λ (m : Met). m.levels) one ∙ sym (ap (λ (m : Met). m.levels) two);
          entries = ap (λ (m : Met). m.entries) one ∙ ap (λ es. of_fills o p q fs l.queue ++ es) (sym (ap (λ (m : Met). m.entries) two));
        }

  -- ---- how much is left

  pub resting_step : (q : ℕ) (rs : List Level) → 0 < length rs → 0 < q - total (split q (lots_of (first_queue rs))) → length (first_queue rs) + resting (best_filled (split q) rs) ≤ resting rs
  resting_step q [] some h = absurd (omega arith)
  resting_step q (l ∷ ls) some h = ⊎_elim
      (λ (e : after_fills (split q (lots_of l.queue)) l.queue ≡ []). let f = ap (λ a. resting (kept l.price a ls)) e in omega arith)
      (λ (e : q - total (split q (lots_of l.queue)) ≡ 0). absurd (omega arith))
      (done_or_gone q l.queue)

  length_kept : (p : ℕ) (q : List Resting) (ls : List Level) → length (kept p q ls) ≤ 1 + length ls
  length_kept p [] ls = omega arith
  length_kept p (r ∷ rs) ls = omega arith

  pub length_step : (q : ℕ) (rs : List Level) → 0 < length rs → 0 < q → length (best_filled (split q) rs) + (q - total (split q (lots_of (first_queue rs)))) < length rs + q
  length_step q [] some h = absurd (omega arith)
  length_step q (l ∷ ls) some h = ⊎_elim
      (λ (e : after_fills (split q (lots_of l.queue)) l.queue ≡ []). let f = ap (λ a. length (kept l.price a ls)) e in omega arith)
      (λ (e : q - total (split q (lots_of l.queue)) ≡ 0). omega (arith, length_kept l.price (after_fills (split q (lots_of l.queue)) l.queue) ls))
      (done_or_gone q l.queue)
