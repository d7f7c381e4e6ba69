-- An order joins the levels of its side.
use Rattle.std.proofs.Common.{◌≡◌, ℕ, zero, suc, ◌+◌, ◌<◌, ◌≤◌, Bool, true, cond, ◌⊎◌, List, [], ◌∷◌, ◌++◌, length, refl, ap, inl, inr, arith}
use Rattle.std.specs.List.{AllByRecursion}
use Rattle.std.proofs.lemmas.Bool.{cond_both}
use Rattle.std.proofs.ByRecursion.{All-push}
use Rattle.fix.specs.declared.command.Side.{Side}
use Rattle.fix.specs.Command.{NewOrder}
use Rattle.market.specs.declared.resting.Resting.{Resting}
use Rattle.market.specs.Market.{Level, better, is_of, resting}
use Rattle.market.specs.Put.{joins, rests}
use Rattle.market.specs.Tally.{by_order, lots_in, lots_at, times_in, times_at}
use Rattle.market.specs.Prices.{Better}
use Rattle.market.specs.Shape.{Sorted, HasLots, Occupied}
use Rattle.market.specs.Fair.{behind}
use Rattle.market.proofs.Fills.{part_none}
use Rattle.market.proofs.Levels.{Prices, better_true, better_same, better_trans, prices_weaker}

lots_end : (who : ℕ → ℕ → Bool) (rs : List Resting) (r : Resting) → lots_in who (rs ++ (r ∷ [])) ≡ cond (who r.member r.order) r.lots 0 + lots_in who rs
lots_end who [] r = refl
lots_end who (x ∷ rs) r = let h = lots_end who rs r in omega arith

times_end : (member order : ℕ) (rs : List Resting) (r : Resting) → times_in member order (rs ++ (r ∷ [])) ≡ cond (is_of member order r) 1 0 + times_in member order rs
times_end member order [] r = refl
times_end member order (x ∷ rs) r = let h = times_end member order rs r in omega arith

length_end : (rs : List Resting) (r : Resting) → length (rs ++ (r ∷ [])) ≡ suc (length rs)
length_end [] r = refl
length_end (x ∷ rs) r = ap suc (length_end rs r)

module _ (side : Side) (price : ℕ) (r : Resting) where
  -- what each case shows, joins has
  pub joins_cases : (P : List Level → Type 0) (l : Level) (ls : List Level)
      → (better side l.price price ≡ true → P (l ∷ joins side price r ls))
      → (better side price l.price ≡ true → P (record { price = price; queue = r ∷ [] } ∷ (l ∷ ls)))
      → (price ≡ l.price → P (record { price = l.price; queue = l.queue ++ (r ∷ []) } ∷ ls))
      → P (joins side price r (l ∷ ls))
  joins_cases P l ls behind before here =
      cond_both (better side l.price price) _ _ P behind
      (λ a. cond_both (better side price l.price) _ _ P before (λ b. here (better_same side l.price price a b)))

  pub prices_joins : (P : ℕ → Type 0) (ls : List Level) → P price → Prices P ls → Prices P (joins side price r ls)
  prices_joins P [] p e = (p, tt)
  prices_joins P (l ∷ ls) p e = joins_cases (Prices P) l ls (λ _. (e.0, prices_joins P ls p e.1)) (λ _. (p, e)) (λ _. e)

  pub sorted_joins : (ls : List Level) → Sorted side ls → Sorted side (joins side price r ls)
  sorted_joins [] s = (tt, tt)
  sorted_joins (l ∷ ls) s =
      joins_cases (Sorted side) l ls
      (λ b. (prices_joins (Better side l.price) ls (better_true side l.price price b) s.0, sorted_joins ls s.1))
      (λ b. let t = better_true side price l.price b in
      ((t, prices_weaker (Better side l.price) (Better side price) (λ q. better_trans side price l.price q t) ls s.0), s))
      (λ _. s)

  pub occupied_joins : 0 < r.lots → (ls : List Level) → AllByRecursion Occupied ls → AllByRecursion Occupied (joins side price r ls)
  occupied_joins h [] w = ((omega arith, (h, tt)), tt)
  occupied_joins h (l ∷ ls) w =
      joins_cases (AllByRecursion Occupied) l ls (λ _. (w.0, occupied_joins h ls w.1)) (λ _. ((omega arith, (h, tt)), w))
      (λ _. ((omega (arith, length_end l.queue r), All-push HasLots l.queue r w.0.1 h), w.1))

  pub lots_joins : (who : ℕ → ℕ → Bool) (ls : List Level) → lots_at who (joins side price r ls) ≡ cond (who r.member r.order) r.lots 0 + lots_at who ls
  lots_joins who [] = omega arith
  lots_joins who (l ∷ ls) =
      let h = lots_joins who ls in
      let e = lots_end who l.queue r in
      joins_cases (λ x. lots_at who x ≡ cond (who r.member r.order) r.lots 0 + lots_at who (l ∷ ls)) l ls (λ _. omega arith) (λ _. omega arith) (λ _. omega arith)

  pub times_joins : (member order : ℕ) (ls : List Level) → times_at member order (joins side price r ls) ≡ cond (is_of member order r) 1 0 + times_at member order ls
  times_joins member order [] = omega arith
  times_joins member order (l ∷ ls) =
      let h = times_joins member order ls in
      let e = times_end member order l.queue r in
      joins_cases (λ x. times_at member order x ≡ cond (is_of member order r) 1 0 + times_at member order (l ∷ ls)) l ls (λ _. omega arith) (λ _. omega arith) (λ _. omega arith)

  pub resting_joins : (ls : List Level) → resting (joins side price r ls) ≡ suc (resting ls)
  resting_joins [] = omega arith
  resting_joins (l ∷ ls) =
      let h = resting_joins ls in
      let e = length_end l.queue r in
      joins_cases (λ x. resting x ≡ suc (resting (l ∷ ls))) l ls (λ _. omega arith) (λ _. omega arith) (λ _. omega arith)

-- what is left of an order rests, or nothing does
module _ (o : NewOrder) where
  abbrev pub remainder : ℕ → Resting
  remainder left = record { member = o.member; order = o.order; lots = left }

  pub sorted_rests : (left : ℕ) (ls : List Level) → Sorted o.side ls → Sorted o.side (rests o left ls)
  sorted_rests zero ls s = s
  sorted_rests (suc left) ls s = sorted_joins o.side o.price (remainder (suc left)) ls s

  pub occupied_rests : (left : ℕ) (ls : List Level) → AllByRecursion Occupied ls → AllByRecursion Occupied (rests o left ls)
  occupied_rests zero ls w = w
  occupied_rests (suc left) ls w = occupied_joins o.side o.price (remainder (suc left)) (omega arith) ls w

  pub prices_rests : (P : ℕ → Type 0) (left : ℕ) (ls : List Level) → (left ≡ 0) ⊎ P o.price → Prices P ls → Prices P (rests o left ls)
  prices_rests P zero ls p e = e
  prices_rests P (suc left) ls (inl z) e = absurd (omega arith)
  prices_rests P (suc left) ls (inr p) e = prices_joins o.side o.price (remainder (suc left)) P ls p e

  pub lots_rests : (who : ℕ → ℕ → Bool) (left : ℕ) (ls : List Level) → lots_at who (rests o left ls) ≡ cond (who o.member o.order) left 0 + lots_at who ls
  lots_rests who zero ls = omega (arith, part_none (who o.member o.order))
  lots_rests who (suc left) ls = lots_joins o.side o.price (remainder (suc left)) who ls

  pub times_rests : (member order left : ℕ) (ls : List Level) → times_at member order (rests o left ls) ≤ cond (by_order member order o.member o.order) 1 0 + times_at member order ls
  times_rests member order zero ls = omega arith
  times_rests member order (suc left) ls = omega (arith, times_joins o.side o.price (remainder (suc left)) member order ls)

  pub resting_rests : (left : ℕ) (ls : List Level) → (resting (rests o left ls) ≡ resting ls) ⊎ ((0 < left) × (resting (rests o left ls) ≡ suc (resting ls)))
  resting_rests zero ls = inl refl
  resting_rests (suc left) ls = inr (omega arith, resting_joins o.side o.price (remainder (suc left)) ls)
