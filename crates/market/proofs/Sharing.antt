-- The policy's split decides what each level gives.
use Rattle.std.proofs.Common.{◌≡◌, ℕ, ◌+◌, ◌-◌, ◌<◌, ◌≤◌, min, Bool, true, false, cond, ◌&&◌, eqb, ltb, ◌⊎◌, List, [], ◌∷◌, sym, refl, ap, ◌∙◌, subst, inl, inr, arith}
use Rattle.std.proofs.lemmas.Bool.{eqb-true, lt-ltb, le-ltb, eq-eqb, cases_lt, and_left, and_right, cond-true, cond-false, cond_both}
use Rattle.fix.specs.declared.command.Side.{Side}
use Rattle.fix.specs.Command.{NewOrder, Command, new, cancel}
use Rattle.market.specs.declared.resting.Resting.{Resting}
use Rattle.market.specs.declared.entry.Reason.{Reason}
use Rattle.market.specs.declared.entry.Reason.TheVariants.{BookFull, DuplicateOrder}
use Rattle.market.specs.declared.entry.Event.TheVariants.{Accepted, OrderTurnedDown}
use Rattle.market.specs.declared.entry.Entry.{Entry}
use Rattle.market.specs.Market.{Level, Market, other, levels, crosses, lots_of, total}
use Rattle.market.specs.Put.{entry, after_fills, kept, Met, meets, rests, put}
use Rattle.market.specs.Split.{Splits}
use Rattle.market.specs.Prices.{Better, queue_at}
use Rattle.market.specs.Shape.{Sorted, Shape}
use Rattle.market.specs.Turns.{ahead, shared, ByPolicy}
use Rattle.market.proofs.Fills.{Fills}
use Rattle.market.proofs.Levels.{Prices, Clear, better_from, better_not, better_itself, clear_false, clear_crosses, clear_all}
use Rattle.market.proofs.Queues.{queue_kept}
use Rattle.market.proofs.Meets.{meets_all, prices_meets}
use Rattle.market.proofs.Sides.{levels_other}
use Rattle.market.proofs.Cases.{order_cases}

fills_nothing : (fs : List ℕ) → after_fills fs [] ≡ []
fills_nothing [] = refl
fills_nothing (f ∷ fs) = refl

none_ahead : (side : Side) (p : ℕ) (ls : List Level) → Prices (Better side p) ls → ahead side p ls ≡ 0
none_ahead side p [] e = refl
none_ahead side p (l ∷ ls) e = omega (arith, none_ahead side p ls e.1, ap (λ (b : Bool). cond b (total (lots_of l.queue)) 0) (better_not side p l.price e.0))

-- a queue that is shared out if the price allows and something is left for it
module _ (split : ℕ → List ℕ → List ℕ) where
  abbrev gives : Bool → ℕ → ℕ → List Resting → List Resting
  gives x ahead left q = cond (x && ltb ahead left) (after_fills (split (left - ahead) (lots_of q)) q) q

  gives_shift : (x : Bool) (s a left k : ℕ) (q : List Resting) → k ≡ min left s → gives x (s + a) left q ≡ gives x a (left - k) q
  gives_shift x s a left k q e = λ i. cond (x && t (cases_lt (s + a) left) i) (after_fills (split (d i) (lots_of q)) q) q
    where
      t : (s + a < left) ⊎ (left ≤ s + a) → ltb (s + a) left ≡ ltb a (left - k)
      t (inl h) = lt-ltb (s + a) left h ∙ sym (lt-ltb a (left - k) (omega arith))
      t (inr h) = le-ltb (s + a) left h ∙ sym (le-ltb a (left - k) (omega arith))

      d : left - (s + a) ≡ left - k - a
      d = omega arith

module _ (split : ℕ → List ℕ → List ℕ) (o : NewOrder) where
  -- where nothing rests nothing is shared out
  shared_none : (left p : ℕ) (ls : List Level) → queue_at p ls ≡ [] → shared split o left p ls ≡ []
  shared_none left p ls e =
      cond_both (crosses o.side o.price p && ltb (ahead (other o.side) p ls) left) _ _ (λ q. q ≡ [])
      (λ _. ap (after_fills (split (left - ahead (other o.side) p ls) (lots_of (queue_at p ls)))) e ∙ fills_nothing _) (λ _. e)

  shared_not : (left p : ℕ) (ls : List Level) → (crosses o.side o.price p && ltb (ahead (other o.side) p ls) left) ≡ false → shared split o left p ls ≡ queue_at p ls
  shared_not left p ls e = cond-false _ _ _ e

  -- a price at which something rests has all that holds of the prices
  at_some : (P : ℕ → Type 0) (p : ℕ) (ls : List Level) → Prices P ls → (queue_at p ls ≡ []) ⊎ P p
  at_some P p [] e = inl refl
  at_some P p (l ∷ ls) e = go (eqb l.price p) refl (at_some P p ls e.1)
    where
      go : (b : Bool) → eqb l.price p ≡ b → (queue_at p ls ≡ []) ⊎ P p → (cond b l.queue (queue_at p ls) ≡ []) ⊎ P p
      go true x h = inr (subst P (eqb-true l.price p x) e.0)
      go false x h = h

  -- levels that are not reached
  shared_clear : (left p : ℕ) (ls : List Level) → Prices (Clear o.side o.price) ls → shared split o left p ls ≡ queue_at p ls
  shared_clear left p ls e = go (at_some (Clear o.side o.price) p ls e)
    where
      go : (queue_at p ls ≡ []) ⊎ Clear o.side o.price p → shared split o left p ls ≡ queue_at p ls
      go (inl n) = shared_none left p ls n ∙ sym n
      go (inr c) = shared_not left p ls (and_left _ _ (clear_crosses o.side o.price p c))

  -- the level that is reached first
  shared_here : (left : ℕ) (l : Level) (ls : List Level) → 0 < left → crosses o.side o.price l.price ≡ true → Prices (Better (other o.side) l.price) ls
      → shared split o left l.price (l ∷ ls) ≡ after_fills (split left (lots_of l.queue)) l.queue
  shared_here left l ls h x e =
      let a : ahead (other o.side) l.price (l ∷ ls) ≡ 0
      = omega (arith, none_ahead (other o.side) l.price ls e, ap (λ (b : Bool). cond b (total (lots_of l.queue)) 0) (better_itself (other o.side) l.price)) in
      let q : queue_at l.price (l ∷ ls) ≡ l.queue = cond-true _ _ _ (eq-eqb l.price l.price refl) in
      let g : shared split o left l.price (l ∷ ls) ≡ gives split true 0 left l.queue = λ i. gives split (x i) (a i) left (q i) in
      let d : left - 0 ≡ left = omega arith in
      g ∙ cond-true _ _ _ (lt-ltb 0 left h) ∙ ap (λ (n : ℕ). after_fills (split n (lots_of l.queue)) l.queue) d

  -- the levels behind it
  shared_behind : (left p : ℕ) (l : Level) (ls : List Level) (fs : List ℕ) → total fs ≡ min left (total (lots_of l.queue)) → Prices (Better (other o.side) l.price) ls → eqb l.price p ≡ false
      → shared split o left p (l ∷ ls) ≡ shared split o (left - total fs) p ls
  shared_behind left p l ls fs full e ne = go (at_some (Better (other o.side) l.price) p ls e)
    where
      q : queue_at p (l ∷ ls) ≡ queue_at p ls
      q = cond-false _ _ _ ne

      go : (queue_at p ls ≡ []) ⊎ Better (other o.side) l.price p → shared split o left p (l ∷ ls) ≡ shared split o (left - total fs) p ls
      go (inl n) = shared_none left p (l ∷ ls) (q ∙ n) ∙ sym (shared_none (left - total fs) p ls n)
      go (inr b) =
          let a : ahead (other o.side) p (l ∷ ls) ≡ total (lots_of l.queue) + ahead (other o.side) p ls
          = omega (arith, ap (λ (b : Bool). cond b (total (lots_of l.queue)) 0) (better_from (other o.side) l.price p b)) in
          let g : shared split o left p (l ∷ ls) ≡ gives split (crosses o.side o.price p) (total (lots_of l.queue) + ahead (other o.side) p ls) left (queue_at p ls)
          = λ i. gives split (crosses o.side o.price p) (a i) left (q i) in
          g ∙ gives_shift split (crosses o.side o.price p) (total (lots_of l.queue)) (ahead (other o.side) p ls) left (total fs) (queue_at p ls) full

  module _ (means : Splits split) where
    meets_shared : (p left : ℕ) (ls : List Level) → Sorted (other o.side) ls → queue_at p (meets split o left ls).levels ≡ shared split o left p ls
    meets_shared p = meets_all split means o (λ left ls met. Sorted (other o.side) ls → queue_at p met.levels ≡ shared split o left p ls)
        (λ left s. sym (shared_none left p [] refl))
        (λ ls s. sym (shared_not 0 p ls (and_right _ _ (le-ltb (ahead (other o.side) p ls) 0 (omega arith)))))
        (λ left l ls e s. sym (shared_clear left p (l ∷ ls) (clear_all o.side o.price l ls s (clear_false o.side o.price l.price e))))
        (λ left l ls fs e f h s. go left l ls fs e f (h s.1) s (eqb l.price p) refl)
      where
        go : (left : ℕ) (l : Level) (ls : List Level) (fs : List ℕ) → crosses o.side o.price l.price ≡ true → Fills split left l.queue fs
            → queue_at p (meets split o (left - total fs) ls).levels ≡ shared split o (left - total fs) p ls → Sorted (other o.side) (l ∷ ls) → (b : Bool) → eqb l.price p ≡ b
            → queue_at p (kept l.price (after_fills fs l.queue) (meets split o (left - total fs) ls).levels) ≡ shared split o left p (l ∷ ls)
        go left l ls fs e f h s true x =
            queue_kept (other o.side) p l.price (after_fills fs l.queue) (meets split o (left - total fs) ls).levels (prices_meets split means o (Better (other o.side) l.price) (left - total fs) ls s.0)
            ∙ cond-true _ _ _ x ∙ ap (λ (fs : List ℕ). after_fills fs l.queue) f.by_split ∙ sym (shared_here left l ls f.some e s.0)
            ∙ ap (λ (q : ℕ). shared split o left q (l ∷ ls)) (eqb-true l.price p x)
        go left l ls fs e f h s false x =
            queue_kept (other o.side) p l.price (after_fills fs l.queue) (meets split o (left - total fs) ls).levels (prices_meets split means o (Better (other o.side) l.price) (left - total fs) ls s.0)
            ∙ cond-false _ _ _ x ∙ h ∙ sym (shared_behind left p l ls fs f.full s.0 x)

pub by_policy : (split : ℕ → List ℕ → List ℕ) → Splits split → (c : Command) (m : Market) → Shape m → ByPolicy split c m (put split c m)
by_policy split means (new o) m g =
    order_cases split o m (λ out. ByPolicy split (new o) m out) (λ _ t. absurd (not_accepted DuplicateOrder t)) (λ _ _ _ t. absurd (not_accepted BookFull t))
    (λ _ _ _ p. ap (queue_at p) (levels_other o.side (rests o met.left (levels o.side m)) met.levels m)
    ∙ meets_shared split o means p o.lots (levels (other o.side) m) (g.sorted (other o.side)))
  where
    met : Met
    met = meets split o o.lots (levels (other o.side) m)

    not_accepted : (reason : Reason) → entry o.number o.member o.order (OrderTurnedDown o.side reason) ≡ entry o.number o.member o.order (Accepted o.side o.lots) → ⊥
    not_accepted reason e = let d = ap (λ (x : Entry). x.event) e in let z : ◌≡◌ {A = ℕ} 0 1 = cc in omega arith
by_policy split means (cancel c) m g = tt
