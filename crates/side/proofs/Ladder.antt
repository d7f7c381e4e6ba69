-- Ranks in range, what stands at a side, and how ranks compare. Assumes nothing.
use Rattle.std.proofs.Common.{◌≡◌, ℕ, ◌<◌, ◌≤◌, Bool, true, false, cond, eqb, ltb, leb, List, [], ◌∷◌, length, refl, sym, ◌∙◌, arith}
use Rattle.std.specs.Ordering.{is_lt, is_eq, nat_cmp}
use Rattle.std.proofs.lemmas.Bool.{and_parts, and_from, cond-true, cond-false, lt-ltb, ltb-true, le-leb, leb-true}
use Rattle.std.proofs.lemmas.Bool.Decides.{nat_tests}
use Rattle.market.specs.Market.{Level, resting}
use Rattle.side.specs.Rank.{in_range}
use Rattle.side.specs.Row.{stands, standing}

-- ---- ranks in range

pub range_low : (p : ℕ) → in_range p ≡ true → 1 ≤ p
range_low p t = leb-true 1 p (and_parts (leb 1 p) (leb p 999999) t).0

pub range_high : (p : ℕ) → in_range p ≡ true → p ≤ 999999
range_high p t = leb-true p 999999 (and_parts (leb 1 p) (leb p 999999) t).1

pub range_from : (p : ℕ) → 1 ≤ p → p ≤ 999999 → in_range p ≡ true
range_from p low high = and_from _ _ (le-leb 1 p low) (le-leb p 999999 high)

-- ---- what stands

pub stands_from : (l : Level) → in_range l.price ≡ true → 0 < length l.queue → stands l ≡ true
stands_from l r q = and_from _ _ r (lt-ltb _ _ q)

pub stands_range : (l : Level) → stands l ≡ true → in_range l.price ≡ true
stands_range l t = (and_parts (in_range l.price) (ltb 0 (length l.queue)) t).0

pub stands_some : (l : Level) → stands l ≡ true → 0 < length l.queue
stands_some l t = ltb-true _ _ (and_parts (in_range l.price) (ltb 0 (length l.queue)) t).1

pub standing_head : (l : Level) (ls : List Level) → standing (l ∷ ls) ≡ true → stands l ≡ true
standing_head l ls t = (and_parts (stands l) (standing ls) t).0

pub standing_tail : (l : Level) (ls : List Level) → standing (l ∷ ls) ≡ true → standing ls ≡ true
standing_tail l ls t = (and_parts (stands l) (standing ls) t).1

-- each level has an order
pub levels_few : (ls : List Level) → standing ls ≡ true → length ls ≤ resting ls
levels_few [] t = omega arith
levels_few (l ∷ ls) t = omega (arith, levels_few ls (standing_tail l ls t), stands_some l (standing_head l ls t))

-- ---- tests of ranks

pub less_is : (a b : ℕ) → is_lt (nat_cmp a b) ≡ ltb a b
less_is a b = grind (arith, nat_tests)

pub same_is : (a b : ℕ) → is_eq (nat_cmp a b) ≡ eqb a b
same_is a b = grind (arith, nat_tests)

-- a choice by one test, seen through f, is the choice by another that is the same
pub same_choice : {X Y : Type 0} (f : X → Y) (b c : Bool) (x x' : X) (y y' : Y) → b ≡ c → (b ≡ true → f x ≡ y) → (b ≡ false → f x' ≡ y') → f (cond b x x') ≡ cond c y y'
same_choice f true c x x' y y' e p q = p refl ∙ sym (cond-true c y y' (sym e))
same_choice f false c x x' y y' e p q = q refl ∙ sym (cond-false c y y' (sym e))
