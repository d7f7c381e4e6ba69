-- Both sides of a market at once: lemmas over one side give both.
use Rattle.std.proofs.Common.{◌≡◌, ℕ, ◌+◌, List, [], ◌∷◌, refl, arith}
use Rattle.fix.specs.declared.command.Side.{Side}
use Rattle.fix.specs.declared.command.Side.TheVariants.{Buy, Sell}
use Rattle.market.specs.Market.{Level, Market, other, levels, with_levels, best}
use Rattle.market.specs.Prices.{Better}
use Rattle.market.specs.Shape.{Sorted, Apart}
use Rattle.market.proofs.Levels.{Prices, Clear, prices_weaker, clear_all}

-- a market of which both sides are new
abbrev pub both : Side → List Level → List Level → Market → Market
both side own opposite m = with_levels side own (with_levels (other side) opposite m)

pub both_levels : (P : Side → List Level → Type 0) (side : Side) (own opposite : List Level) (m : Market)
    → P side own → P (other side) opposite → (s : Side) → P s (levels s (both side own opposite m))
both_levels P Buy own opposite m a b Buy = a
both_levels P Buy own opposite m a b Sell = b
both_levels P Sell own opposite m a b Buy = b
both_levels P Sell own opposite m a b Sell = a

pub both_sum : (f : List Level → ℕ) (side : Side) (own opposite : List Level) (m : Market)
    → f (both side own opposite m).buys + f (both side own opposite m).sells ≡ f own + f opposite
both_sum f Buy own opposite m = refl
both_sum f Sell own opposite m = omega arith

pub levels_other : (side : Side) (own opposite : List Level) (m : Market) → levels (other side) (both side own opposite m) ≡ opposite
levels_other Buy own opposite m = refl
levels_other Sell own opposite m = refl

-- a market of which one side is new
pub one_levels : (P : Side → List Level → Type 0) (side : Side) (own : List Level) (m : Market)
    → P side own → P (other side) (levels (other side) m) → (s : Side) → P s (levels s (with_levels side own m))
one_levels P Buy own m a b Buy = a
one_levels P Buy own m a b Sell = b
one_levels P Sell own m a b Buy = b
one_levels P Sell own m a b Sell = a

pub one_sum : (f : List Level → ℕ) (side : Side) (own : List Level) (m : Market)
    → f (with_levels side own m).buys + f (with_levels side own m).sells ≡ f own + f (levels (other side) m)
one_sum f Buy own m = refl
one_sum f Sell own m = omega arith

pub sum_of : (f : List Level → ℕ) (side : Side) (m : Market) → f m.buys + f m.sells ≡ f (levels side m) + f (levels (other side) m)
sum_of f Buy m = refl
sum_of f Sell m = omega arith

-- no order of one side trades with one of the other
abbrev pub Facing : Side → List Level → List Level → Type 0
Facing side own opposite = Prices (λ limit. Prices (Clear side limit) opposite) own

facing_none : (side : Side) (ls : List Level) → Facing side ls []
facing_none side [] = tt
facing_none side (l ∷ ls) = (tt, facing_none side ls)

prices_and : (P Q : ℕ → Type 0) (ls : List Level) → Prices P ls → Prices Q ls → Prices (λ p. P p × Q p) ls
prices_and P Q [] a b = tt
prices_and P Q (l ∷ ls) a b = ((a.0, b.0), prices_and P Q ls a.1 b.1)

clear_turn : (side : Side) (p q : ℕ) → Clear side p q → Clear (other side) q p
clear_turn Buy p q c = c
clear_turn Sell p q c = c

-- the same from the other side
facing_turn : (side : Side) (own opposite : List Level) → Facing side own opposite → Facing (other side) opposite own
facing_turn side [] opposite f = facing_none (other side) opposite
facing_turn side (l ∷ ls) opposite f =
    prices_weaker (λ q. Clear side l.price q × Prices (Clear (other side) q) ls) (λ q. Clear (other side) q l.price × Prices (Clear (other side) q) ls)
    (λ q c. (clear_turn side l.price q c.0, c.1)) opposite
    (prices_and (Clear side l.price) (λ q. Prices (Clear (other side) q) ls) opposite f.0 (facing_turn side ls opposite f.1))

pub facing_of : (side : Side) (m : Market) → Facing Buy m.buys m.sells → Facing side (levels side m) (levels (other side) m)
facing_of Buy m f = f
facing_of Sell m f = facing_turn Buy m.buys m.sells f

pub both_facing : (side : Side) (own opposite : List Level) (m : Market) → Facing side own opposite → Facing Buy (both side own opposite m).buys (both side own opposite m).sells
both_facing Buy own opposite m f = f
both_facing Sell own opposite m f = facing_turn Sell own opposite f

pub one_facing : (side : Side) (own : List Level) (m : Market) → Facing side own (levels (other side) m) → Facing Buy (with_levels side own m).buys (with_levels side own m).sells
one_facing Buy own m f = f
one_facing Sell own m f = facing_turn Sell own m.buys f

-- sorted sides face each other where their best prices do
pub facing_from_best : (buys sells : List Level) → Sorted Buy buys → Sorted Sell sells → Apart (best buys) (best sells) → Facing Buy buys sells
facing_from_best [] sells b s a = tt
facing_from_best (l ∷ ls) [] b s a = facing_none Buy (l ∷ ls)
facing_from_best (l ∷ ls) (k ∷ ks) b s a = (
  clear_all Buy l.price k ks s a,
  prices_weaker (Better Buy l.price) (λ p. Prices (Clear Buy p) (k ∷ ks)) (λ p h. clear_all Buy p k ks s (omega arith)) ls b.0,
)

pub best_from_facing : (buys sells : List Level) → Facing Buy buys sells → Apart (best buys) (best sells)
best_from_facing [] sells f = tt
best_from_facing (b ∷ bs) [] f = tt
best_from_facing (b ∷ bs) (s ∷ ss) f = f.0.0
