-- Levels by rank and by price. Assumes nothing.
use Rattle.std.proofs.Common.{◌≡◌, ℕ, ◌+◌, ◌-◌, ◌<◌, ◌≤◌, true, cond, eqb, ltb, leb, List, [], ◌∷◌, ◌++◌, length, sym, refl, ap, ◌∙◌, ⊎_elim, arith}
use Rattle.std.specs.List.{slice_get}
use Rattle.std.specs.Option.{option_map}
use Rattle.std.proofs.lemmas.Option.{slice_get-map}
use Rattle.std.proofs.lemmas.Bool.{cases_lt, cases_eq, lt-ltb, le-ltb, le-leb, lt-leb, eq-eqb, ne_eqb}
use Rattle.ordered.specs.declared.node.Node.{Node}
use Rattle.ordered.specs.declared.key.price.Price.{Price}
use Rattle.level.specs.declared.level.Level.{Level as Held}
use Rattle.fix.specs.declared.command.Side.{Side}
use Rattle.fix.specs.declared.command.Side.TheVariants.{Buy, Sell}
use Rattle.market.specs.declared.resting.Resting.{Resting}
use Rattle.market.specs.Market.{Level, better, crosses, other, resting}
use Rattle.market.specs.Put.{kept, joins, out_of_queue}
use Rattle.market.specs.Prices.{queue_at}
use Rattle.side.specs.Queues.{out_at}
use Rattle.side.specs.Rank.{in_range, turned, at_price, priced}
use Rattle.side.specs.Row.{seen_as, seen, standing}
use Rattle.side.proofs.Ladder.{range_low, range_high, range_from, stands_range, standing_head, standing_tail, same_choice}

pub turned_twice : (s : Side) (p : ℕ) → in_range p ≡ true → turned s (turned s p) ≡ p
turned_twice Buy p t = omega (arith, range_high p t)
turned_twice Sell p t = refl

pub turned_range : (s : Side) (p : ℕ) → in_range p ≡ true → in_range (turned s p) ≡ true
turned_range Buy p t = range_from (1000000 - p) (omega (arith, range_high p t)) (omega (arith, range_low p t))
turned_range Sell p t = t

pub better_turned : (s : Side) (a b : ℕ) → in_range a ≡ true → in_range b ≡ true → better s (turned s a) (turned s b) ≡ ltb a b
better_turned Sell a b t u = refl
better_turned Buy a b t u = ⊎_elim
    (λ (l : a < b). lt-ltb (1000000 - b) (1000000 - a) (omega (arith, range_high b u)) ∙ sym (lt-ltb a b l))
    (λ (l : b ≤ a). le-ltb (1000000 - b) (1000000 - a) (omega arith) ∙ sym (le-ltb a b l))
    (cases_lt a b)

-- the rank of a price out of range is no level's
pub same_turned : (s : Side) (a p : ℕ) → in_range a ≡ true → eqb a (turned s p) ≡ eqb (turned s a) p
same_turned Sell a p t = refl
same_turned Buy a p t = ⊎_elim
    (λ (e : 1000000 - a ≡ p). eq-eqb a (1000000 - p) (omega (arith, range_high a t)) ∙ sym (eq-eqb (1000000 - a) p e))
    (λ (n : 1000000 - a ≡ p → ⊥). ne_eqb a (1000000 - p) (λ e. n (omega (arith, range_low a t, range_high a t))) ∙ sym (ne_eqb (1000000 - a) p n))
    (cases_eq (1000000 - a) p)

-- an order meets the levels of the side s, which is not its own
pub crosses_turned : (s : Side) (p limit : ℕ) → in_range p ≡ true → in_range limit ≡ true → crosses (other s) limit (turned s p) ≡ leb p (turned s limit)
crosses_turned Sell p limit t u = refl
crosses_turned Buy p limit t u = ⊎_elim
    (λ (l : 1000000 - limit < p). lt-leb limit (1000000 - p) (omega (arith, range_high p t, range_high limit u)) ∙ sym (lt-leb p (1000000 - limit) l))
    (λ (l : p ≤ 1000000 - limit). le-leb limit (1000000 - p) (omega (arith, range_high p t, range_high limit u)) ∙ sym (le-leb p (1000000 - limit) l))
    (cases_lt (1000000 - limit) p)

pub resting_priced : (s : Side) (ls : List Level) → resting (priced s ls) ≡ resting ls
resting_priced s [] = refl
resting_priced s (l ∷ ls) = ap (λ n. length l.queue + n) (resting_priced s ls)

pub kept_priced : (s : Side) (p : ℕ) (q : List Resting) (ls : List Level) → priced s (kept p q ls) ≡ kept (turned s p) q (priced s ls)
kept_priced s p [] ls = refl
kept_priced s p (r ∷ rs) ls = refl

pub joins_priced : (s : Side) (p : ℕ) (o : Resting) (ls : List Level) → in_range p ≡ true → standing ls ≡ true → priced s (joins Sell p o ls) ≡ joins s (turned s p) o (priced s ls)
joins_priced s p o [] r t = refl
joins_priced s p o (l ∷ ls) r t =
    let here = stands_range l (standing_head l ls t) in
    let grown : Level = record { price = l.price; queue = l.queue ++ o ∷ [] } in
    let new : Level = record { price = p; queue = o ∷ [] } in
    same_choice (priced s) (ltb l.price p) (better s (turned s l.price) (turned s p)) (l ∷ joins Sell p o ls) (cond (ltb p l.price) (new ∷ l ∷ ls) (grown ∷ ls)) _ _
    (sym (better_turned s l.price p here r))
    (λ _. ap (λ ys. at_price s l ∷ ys) (joins_priced s p o ls r (standing_tail l ls t)))
    (λ _. same_choice (priced s) (ltb p l.price) (better s (turned s p) (turned s l.price)) (new ∷ l ∷ ls) (grown ∷ ls) _ _ (sym (better_turned s p l.price r here)) (λ _. refl) (λ _. refl))

pub queue_priced : (s : Side) (p : ℕ) (ls : List Level) → standing ls ≡ true → queue_at (turned s p) ls ≡ queue_at p (priced s ls)
queue_priced s p [] t = refl
queue_priced s p (l ∷ ls) t =
    same_choice (λ q. q) (eqb l.price (turned s p)) (eqb (turned s l.price) p) l.queue (queue_at (turned s p) ls) _ _
    (same_turned s l.price p (stands_range l (standing_head l ls t)))
    (λ _. refl)
    (λ _. queue_priced s p ls (standing_tail l ls t))

pub out_priced : (s : Side) (p member order : ℕ) (ls : List Level) → standing ls ≡ true → priced s (out_at (turned s p) member order ls) ≡ out_at p member order (priced s ls)
out_priced s p member order [] t = refl
out_priced s p member order (l ∷ ls) t =
    let q = out_of_queue member order l.queue in
    same_choice (priced s) (eqb l.price (turned s p)) (eqb (turned s l.price) p) (kept l.price q ls) (l ∷ out_at (turned s p) member order ls) _ _
    (same_turned s l.price p (stands_range l (standing_head l ls t)))
    (λ _. kept_priced s l.price q ls)
    (λ _. ap (λ ys. at_price s l ∷ ys) (out_priced s p member order ls (standing_tail l ls t)))

-- ---- levels by place

pub level_seen : (s : Side) (ns : List (Node Price Held)) (ls : List Level) (i : ℕ) → seen ns ≡ ls → slice_get (priced s ls) i ≡ option_map (at_price s) (option_map seen_as (slice_get ns i))
level_seen s ns ls i e =
    slice_get-map (at_price s) ls i ∙ ap (option_map (at_price s)) (ap (λ ms. slice_get ms i) (sym e) ∙ slice_get-map seen_as ns i)
