-- Nobody overtakes: the queue at each price.
use Rattle.std.proofs.Common.{◌≡◌, ℕ, zero, suc, ◌-◌, ◌≤◌, Bool, true, false, cond, eqb, ltb, List, [], ◌∷◌, ◌++◌, refl, inl, inr, arith}
use Rattle.std.specs.List.{AllZip}
use Rattle.std.proofs.lemmas.Bool.{cond_both}
use Rattle.fix.specs.declared.command.Side.{Side}
use Rattle.fix.specs.Command.{NewOrder, Command, new, cancel}
use Rattle.market.specs.declared.resting.Resting.{Resting}
use Rattle.market.specs.Market.{Level, Market, empty, other, levels, is_of, lots_of, total}
use Rattle.market.specs.Put.{after_fills, meets, rests, out_of_queue, out_of_levels, trades, put, after}
use Rattle.market.specs.Split.{Splits}
use Rattle.market.specs.Prices.{Better, queue_at}
use Rattle.market.specs.Shape.{Sorted, Shape}
use Rattle.market.specs.Turns.{InTurn, newcomer, AlwaysInTurn}
use Rattle.market.proofs.Queues.{queue_kept, queue_joins, queue_out}
use Rattle.market.proofs.Meets.{meets_all, left_less, prices_meets}
use Rattle.market.proofs.Sides.{both_levels, one_levels}
use Rattle.market.proofs.Cases.{order_cases, cancel_cases}
use Rattle.market.proofs.Shapes.{always_shaped}
use Rattle.market.proofs.Tallies.{same_itself}
use Rattle.market.proofs.Sharing.{by_policy}

turn_none : (rs : List Resting) → InTurn rs []
turn_none [] = tt
turn_none (r ∷ rs) = tt

turn_skip : (r : Resting) (rs xs : List Resting) → InTurn rs xs → InTurn (r ∷ rs) xs
turn_skip r rs [] t = tt
turn_skip r rs (x ∷ xs) t = inr t

turn_same : (rs : List Resting) → InTurn rs rs
turn_same [] = tt
turn_same (r ∷ rs) = inl (refl, refl, omega arith, turn_same rs)

turn_front : (rs ns xs : List Resting) → InTurn rs xs → InTurn (rs ++ ns) xs
turn_front [] ns [] t = turn_none ns
turn_front [] ns (x ∷ xs) t = absurd t
turn_front (r ∷ rs) ns [] t = tt
turn_front (r ∷ rs) ns (x ∷ xs) (inl t) = inl (t.0, t.1, t.2, turn_front rs ns xs t.3)
turn_front (r ∷ rs) ns (x ∷ xs) (inr t) = inr (turn_front rs ns (x ∷ xs) t)

-- a newcomer joins behind
turn_end : (rs : List Resting) (n x : Resting) → x.member ≡ n.member → x.order ≡ n.order → x.lots ≤ n.lots → InTurn (rs ++ (n ∷ [])) (rs ++ (x ∷ []))
turn_end [] n x a b c = inl (a, b, c, tt)
turn_end (r ∷ rs) n x a b c = inl (refl, refl, omega arith, turn_end rs n x a b c)

turn_after : (fs : List ℕ) (rs : List Resting) → AllZip ◌≤◌ fs (lots_of rs) → InTurn rs (after_fills fs rs)
turn_after [] [] w = tt
turn_after [] (r ∷ rs) w = absurd w
turn_after (f ∷ fs) [] w = absurd w
turn_after (f ∷ fs) (r ∷ rs) w =
    cond_both (ltb f r.lots) _ _ (InTurn (r ∷ rs)) (λ _. inl (refl, refl, omega arith, turn_after fs rs w.1)) (λ _. turn_skip r rs (after_fills fs rs) (turn_after fs rs w.1))

turn_out : (m o : ℕ) (rs : List Resting) → InTurn rs (out_of_queue m o rs)
turn_out m o [] = tt
turn_out m o (r ∷ rs) = cond_both (is_of m o r) _ _ (InTurn (r ∷ rs)) (λ _. turn_skip r rs rs (turn_same rs)) (λ _. inl (refl, refl, omega arith, turn_out m o rs))

turn_cond : (b : Bool) (rs rs' xs xs' : List Resting) → InTurn rs xs → InTurn rs' xs' → InTurn (cond b rs rs') (cond b xs xs')
turn_cond true rs rs' xs xs' t t' = t
turn_cond false rs rs' xs xs' t t' = t'

module _ (split : ℕ → List ℕ → List ℕ) (means : Splits split) where
  turn_meets : (o : NewOrder) (side : Side) (p left : ℕ) (ls : List Level) → Sorted side ls → InTurn (queue_at p ls) (queue_at p (meets split o left ls).levels)
  turn_meets o side p = meets_all split means o (λ left ls met. Sorted side ls → InTurn (queue_at p ls) (queue_at p met.levels))
      (λ left s. tt) (λ ls s. turn_same (queue_at p ls)) (λ left l ls e s. turn_same (queue_at p (l ∷ ls)))
      (λ left l ls fs e f h s.
      rw (queue_kept side p l.price (after_fills fs l.queue) (meets split o (left - total fs) ls).levels (prices_meets split means o (Better side l.price) (left - total fs) ls s.0))
      (turn_cond (eqb l.price p) l.queue (queue_at p ls) (after_fills fs l.queue) (queue_at p (meets split o (left - total fs) ls).levels) (turn_after fs l.queue f.within) (h s.1)))

-- a remainder joins behind
turn_rests : (o : NewOrder) (p left : ℕ) (ls : List Level) → Sorted o.side ls → left ≤ o.lots
    → InTurn (queue_at p ls ++ cond (eqb o.price p) (record { member = o.member; order = o.order; lots = o.lots } ∷ []) []) (queue_at p (rests o left ls))
turn_rests o p zero ls s h = turn_front (queue_at p ls) _ (queue_at p ls) (turn_same (queue_at p ls))
turn_rests o p (suc left) ls s h =
    rw (queue_joins o.side p o.price (record { member = o.member; order = o.order; lots = suc left }) ls s) (go (eqb o.price p))
  where
    go : (b : Bool) → InTurn (queue_at p ls ++ cond b (record { member = o.member; order = o.order; lots = o.lots } ∷ []) [])
        (cond b (queue_at p ls ++ (record { member = o.member; order = o.order; lots = suc left } ∷ [])) (queue_at p ls))
    go true = turn_end (queue_at p ls) _ _ refl refl h
    go false = turn_front (queue_at p ls) [] (queue_at p ls) (turn_same (queue_at p ls))

module _ (split : ℕ → List ℕ → List ℕ) (means : Splits split) where
  turn_trades : (o : NewOrder) (m : Market) → Shape m → (price : ℕ) (side : Side)
      → InTurn (queue_at price (levels side m) ++ newcomer (new o) side price) (queue_at price (levels side (trades split o m).market))
  turn_trades o m g price =
      both_levels (λ s ls. InTurn (queue_at price (levels s m) ++ newcomer (new o) s price) (queue_at price ls)) o.side _ _ m
      (rw (same_itself o.side) (turn_rests o price (meets split o o.lots (levels (other o.side) m)).left (levels o.side m) (g.sorted o.side) (left_less split means o o.lots (levels (other o.side) m))))
      (turn_front (queue_at price (levels (other o.side) m)) (newcomer (new o) (other o.side) price) _
      (turn_meets split means o (other o.side) price o.lots (levels (other o.side) m) (g.sorted (other o.side))))

  in_turn : (c : Command) (m : Market) → Shape m → (side : Side) (price : ℕ)
      → InTurn (queue_at price (levels side m) ++ newcomer c side price) (queue_at price (levels side (put split c m).market))
  in_turn (new o) m g side price =
      let same = turn_front (queue_at price (levels side m)) (newcomer (new o) side price) _ (turn_same (queue_at price (levels side m))) in
      order_cases split o m (λ out. InTurn (queue_at price (levels side m) ++ newcomer (new o) side price) (queue_at price (levels side out.market)))
      (λ _. same) (λ _ _ _. same) (λ _ _. turn_trades o m g price side)
  in_turn (cancel c) m g side price =
      turn_front (queue_at price (levels side m)) [] _
      (cancel_cases c m (λ out. InTurn (queue_at price (levels side m)) (queue_at price (levels side out.market)))
      (λ s r _. one_levels (λ t ls. InTurn (queue_at price (levels t m)) (queue_at price ls)) s (out_of_levels c.member c.order (levels s m)) m
      (rw (queue_out c.member c.order s price (levels s m) (g.sorted s)) (turn_out c.member c.order (queue_at price (levels s m))))
      (turn_same (queue_at price (levels (other s) m))) side)
      (λ _. turn_same (queue_at price (levels side m))))

  pub always_in_turn : AlwaysInTurn split
  always_in_turn cs c =
      let g = always_shaped split means cs in
      record { in_turn = in_turn c (after split cs empty) g; by_policy = by_policy split means c (after split cs empty) g }
