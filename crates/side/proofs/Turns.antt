-- A turn of the loop over the levels.
use Rattle.std.proofs.Common.{◌≡◌, ℕ, ◌+◌, ◌-◌, ◌<◌, true, false, ◌&&◌, ltb, leb, List, [], ◌∷◌, ◌++◌, length, take, sym, refl, ap, ◌∙◌, ⊎_elim, arith}
use Rattle.std.proofs.lemmas.List.{append_assoc}
use Rattle.std.proofs.lemmas.Bool.{and_parts, and_cases, ltb-true, ltb-false, false≢true}
use Rattle.level.specs.declared.trade.Progress.{Progress}
use Rattle.level.specs.Trade.{Reported}
use Rattle.level.proofs.Wrote.{drop_later}
use Rattle.fix.specs.Command.{NewOrder}
use Rattle.fix.specs.declared.command.Side.{Side}
use Rattle.fix.specs.declared.command.Side.TheVariants.{Buy, Sell}
use Rattle.market.specs.declared.entry.Entry.{Entry}
use Rattle.market.specs.Market.{Level, total, lots_of, crosses, resting, other}
use Rattle.market.specs.Split.{Splits}
use Rattle.market.specs.Put.{Met, of_fills, meets}
use Rattle.side.specs.Meeting.{Meeting, best_filled, first_queue, first_rank, first_within}
use Rattle.side.specs.Rank.{in_range, turned, at_price, priced}
use Rattle.side.specs.Row.{standing}
use Rattle.side.proofs.First.{first_few, first_in_range}
use Rattle.side.proofs.Meets.{meets_zero, meets_stops, stepped, resting_step, length_step}
use Rattle.side.proofs.Prices.{crosses_turned}

other_other : (s : Side) → other (other s) ≡ s
other_other Buy = refl
other_other Sell = refl

-- an order crosses the level at a rank just where the rank is within its limit
crosses_rank : (o : NewOrder) (s : Side) (p : ℕ) → s ≡ other o.side → in_range o.price ≡ true → in_range p ≡ true → crosses o.side o.price (turned s p) ≡ leb p (turned s o.price)
crosses_rank o s p e f g = ap (λ t. crosses t o.price (turned s p)) (sym (ap other e ∙ other_other o.side)) ∙ crosses_turned s p o.price g f

module _ (o : NewOrder) (s : Side) (limit : ℕ) (side : s ≡ other o.side) (is : limit ≡ turned s o.price) (fits : in_range o.price ≡ true) where
  -- the loop goes on where something is left, there is a level, and it crosses
  pub record Crossing (ls : List Level) (left : ℕ) : Type 0 where
    pub more : 0 < left
    pub some : 0 < length ls
    pub crossed : crosses o.side o.price (turned s (first_rank ls)) ≡ true

  pub crossing : (ls : List Level) (left : ℕ) → standing ls ≡ true → true ≡ (ltb 0 left && first_within limit ls) → Crossing ls left
  crossing [] left t e = absurd (false≢true (and_parts (ltb 0 left) false (sym e)).1)
  crossing (n ∷ ls) left t e =
      let both = and_parts (ltb 0 left) (leb n.price limit) (sym e) in
      record {
        more = ltb-true _ _ both.0;
        some = omega arith;
        crossed = crosses_rank o s n.price side fits (first_in_range (n ∷ ls) (omega arith) t) ∙ ap (leb n.price) (sym is) ∙ both.1;
      }

  module _ (split : ℕ → List ℕ → List ℕ) (means : Splits split) where
    -- and ends where nothing more happens
    pub meets_end : (ls : List Level) (left : ℕ) → standing ls ≡ true → false ≡ (ltb 0 left && first_within limit ls) → meets split o left (priced s ls) ≡ record { left = left; levels = priced s ls; entries = [] }
    meets_end [] left t e = refl
    meets_end (n ∷ ls) left t e = ⊎_elim
        (λ (z : ltb 0 left ≡ false).
        let none : left ≡ 0 = omega (arith, ltb-false 0 left z) in
        let made : ℕ → Met = λ k. record { left = k; levels = priced s (n ∷ ls); entries = [] } in
        ap (λ k. meets split o k (priced s (n ∷ ls))) none ∙ meets_zero split means o (priced s (n ∷ ls)) ∙ ap made (sym none))
        (λ (z : leb n.price limit ≡ false).
        meets_stops split means o left (at_price s n) (priced s ls) (crosses_rank o s n.price side fits (first_in_range (n ∷ ls) (omega arith) t) ∙ ap (leb n.price) (sym is) ∙ z))
        (and_cases (ltb 0 left) (leb n.price limit) (sym e))

module _ (split : ℕ → List ℕ → List ℕ) (means : Splits split)
    (o : NewOrder) (s : Side) (start : ℕ)
    (ls ls' ls'' : List Level) (list list' list'' : List Entry) (at after : Progress)
    (before : Meeting split o s start ls ls' list list' at.left at.written)
    (more : 0 < at.left) (some : 0 < length ls') (crossed : crosses o.side o.price (turned s (first_rank ls')) ≡ true)
    (shows : ls'' ≡ best_filled (split at.left) ls')
    (told : Reported o (turned s (first_rank ls')) (split at.left (lots_of (first_queue ls'))) (first_queue ls') list' list'' at after) where
  -- a level or the order is gone
  pub less_again : length ls'' + after.left < length ls' + at.left
  less_again = omega (arith, told.left, ap length shows, length_step split means at.left ls' some more)

  pub met_again : length list'' ≡ length list' → Meeting split o s start ls ls'' list list'' after.left after.written
  met_again long =
      let rs = ls' in
      let left = at.left in
      let one = stepped split means o s left rs more some crossed in
      let new : Met = meets split o after.left (priced s ls'') in
      let same : meets split o (left - total (split left (lots_of (first_queue rs)))) (priced s (best_filled (split left) rs)) ≡ new = ap (λ n. meets split o n (priced s (best_filled (split left) rs))) (sym told.left) ∙ ap (λ ls. meets split o after.left (priced s ls)) (sym shows) in
      let fills = of_fills o (turned s (first_rank rs)) left (split left (lots_of (first_queue rs))) (first_queue rs) in
      let few = before.room more in
      let first = first_few rs in
      record {
        same_left = before.same_left ∙ one.same_left ∙ ap (λ (m : Met). m.left) same;
        same_levels = before.same_levels ∙ one.same_levels ∙ ap (λ (m : Met). m.levels) same;
        front =
            ap (λ es. es ++ new.entries) told.front
            ∙ append_assoc (take at.written list') fills new.entries
            ∙ ap (λ es. take at.written list' ++ (fills ++ es)) (sym (ap (λ (m : Met). m.entries) same))
            ∙ ap (λ es. take at.written list' ++ es) (sym one.entries)
            ∙ before.front;
        back = told.back ∙ drop_later list' list at.written after.written told.from before.back;
        from = omega (arith, before.from, told.from);
        upto = omega (arith, told.upto);
        room = λ h. let step = resting_step split means left rs some (omega (arith, told.left)) in omega (arith, ap resting shows, told.upto);
        most = omega (arith, told.left, before.most);
      }
