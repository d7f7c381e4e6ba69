-- Entries written one after another.
use Rattle.std.proofs.Common.{◌≡◌, ℕ, zero, suc, ◌+◌, ◌-◌, ◌<◌, ◌≤◌, ◌⊎◌, inl, inr, List, [], ◌∷◌, ◌++◌, length, take, drop, set, sym, refl, ap, subst, ◌∙◌, arith}
use Rattle.std.specs.List.{AllZip}
use Rattle.std.proofs.lemmas.List.{take_more_set, drop-set-lt, drop-drop, append_assoc, length-set}
use Rattle.market.specs.declared.resting.Resting.{Resting}
use Rattle.market.specs.declared.entry.Entry.{Entry}
use Rattle.fix.specs.Command.{NewOrder}
use Rattle.market.specs.declared.entry.Event.TheVariants.{Filled}
use Rattle.market.specs.Market.{total, other, lots_of}
use Rattle.market.specs.Put.{of_fill, of_fills, entry}

pub drop_later : {X : Type 0} (l m : List X) (a b : ℕ) → a ≤ b → drop a l ≡ drop a m → drop b l ≡ drop b m
drop_later l m a b h e =
    let q : b ≡ a + (b - a) = omega arith in
    ap (λ n. drop n l) q ∙ sym (drop-drop (b - a) a l) ∙ ap (drop (b - a)) e ∙ drop-drop (b - a) a m ∙ ap (λ n. drop n m) (sym q)

pub take_two : {X : Type 0} (l : List X) (at : ℕ) (x y : X) → at + 1 < length l → take (at + 2) (set (set l at x) (at + 1) y) ≡ take at l ++ (x ∷ (y ∷ []))
take_two l at x y h =
    let q : at + 2 ≡ (at + 1) + 1 = omega arith in
    ap (λ n. take n (set (set l at x) (at + 1) y)) q
    ∙ take_more_set (set l at x) (at + 1) y (omega (arith, length-set l at x))
    ∙ ap (λ xs. xs ++ y ∷ []) (take_more_set l at x (omega arith))
    ∙ append_assoc (take at l) (x ∷ []) (y ∷ [])

pub drop_two : {X : Type 0} (l m : List X) (at : ℕ) (x y : X) → drop at l ≡ drop at m → drop (at + 2) (set (set l at x) (at + 1) y) ≡ drop (at + 2) m
drop_two l m at x y e =
    drop-set-lt (at + 2) (set l at x) (at + 1) y (omega arith)
    ∙ drop-set-lt (at + 2) l at x (omega arith)
    ∙ drop_later l m at (at + 2) (omega arith) e

of_none : (o : NewOrder) (price f left : ℕ) (r : Resting) → f ≡ 0 → of_fill o price f left r ≡ []
of_none o price zero left r e = refl
of_none o price (suc f) left r e = absurd (omega arith)

of_some : (o : NewOrder) (price f left : ℕ) (r : Resting) → 0 < f → of_fill o price f left r ≡ entry o.number r.member r.order (Filled (other o.side) f price (r.lots - f)) ∷ (entry o.number o.member o.order (Filled o.side f price (left - f)) ∷ [])
of_some o price zero left r h = absurd (omega arith)
of_some o price (suc f) left r h = refl

-- one turn: a fill of f lots with the order r; behind it `fs` and `rs` are left, before it they were `fs'` and `rs'`
module _ (o : NewOrder) (price left f : ℕ) (r : Resting) (fs fs' : List ℕ) (rs rs' : List Resting) (ef : fs' ≡ f ∷ fs) (er : rs' ≡ r ∷ rs) where
  opened : of_fills o price left fs' rs' ≡ of_fill o price f left r ++ of_fills o price (left - f) fs rs
  opened = ap (λ xs. of_fills o price left xs rs') ef ∙ ap (of_fills o price left (f ∷ fs)) er

  pub wrote_none : (front whole : List Entry) → f ≡ 0 → front ++ of_fills o price left fs' rs' ≡ whole → front ++ of_fills o price left fs rs ≡ whole
  wrote_none front whole z inv =
      let same : left - f ≡ left = omega arith in
      ap (λ n. front ++ of_fills o price n fs rs) (sym same)
      ∙ ap (λ xs. front ++ (xs ++ of_fills o price (left - f) fs rs)) (sym (of_none o price f left r z))
      ∙ ap (λ xs. front ++ xs) (sym opened)
      ∙ inv

  pub wrote_some : (list whole : List Entry) (at : ℕ) (x y : Entry) → at + 1 < length list → 0 < f
      → x ≡ entry o.number r.member r.order (Filled (other o.side) f price (r.lots - f))
      → y ≡ entry o.number o.member o.order (Filled o.side f price (left - f))
      → take at list ++ of_fills o price left fs' rs' ≡ whole
      → take (at + 2) (set (set list at x) (at + 1) y) ++ of_fills o price (left - f) fs rs ≡ whole
  wrote_some list whole at x y room some ex ey inv =
      let rest = of_fills o price (left - f) fs rs in
      let pair : of_fill o price f left r ≡ x ∷ (y ∷ []) = of_some o price f left r some ∙ ap (λ a. a ∷ (entry o.number o.member o.order (Filled o.side f price (left - f)) ∷ [])) (sym ex) ∙ ap (λ b. x ∷ (b ∷ [])) (sym ey) in
      ap (λ xs. xs ++ rest) (take_two list at x y room)
      ∙ append_assoc (take at list) (x ∷ (y ∷ [])) rest
      ∙ ap (λ xs. take at list ++ (xs ++ rest)) (sym pair)
      ∙ ap (λ xs. take at list ++ xs) (sym opened)
      ∙ inv

  pub fits_next : AllZip ◌≤◌ fs' (lots_of rs') → (f ≤ r.lots) × AllZip ◌≤◌ fs (lots_of rs)
  fits_next w = subst (λ xs. AllZip ◌≤◌ (f ∷ fs) (lots_of xs)) er (subst (λ xs. AllZip ◌≤◌ xs (lots_of rs')) ef w)

  pub total_next : total fs' ≡ f + total fs
  total_next = ap total ef

-- nothing is left of the fills, or of the queue, and so of neither
pub wrote_all : (o : NewOrder) (price left : ℕ) (fs : List ℕ) (rs : List Resting) → AllZip ◌≤◌ fs (lots_of rs) → (length fs ≡ 0) ⊎ (length rs ≡ 0) → (of_fills o price left fs rs ≡ []) × (total fs ≡ 0)
wrote_all o price left [] [] w e = (refl, refl)
wrote_all o price left [] (r ∷ rs) w e = absurd w
wrote_all o price left (f ∷ fs) [] w e = absurd w
wrote_all o price left (f ∷ fs) (r ∷ rs) w (inl e) = absurd (omega arith)
wrote_all o price left (f ∷ fs) (r ∷ rs) w (inr e) = absurd (omega arith)
