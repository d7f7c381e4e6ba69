-- Prices, and a level that is kept where something rests at it.
use Rattle.std.proofs.Common.{◌≡◌, ℕ, ◌+◌, ◌<◌, Bool, true, false, List, [], ◌∷◌, length, refl, arith}
use Rattle.std.specs.List.{AllByRecursion}
use Rattle.std.proofs.lemmas.Bool.Decides.{nat_tests}
use Rattle.std.proofs.lemmas.Bool.{ltb-true, leb-true, leb-false, lt-ltb, le-ltb, lt-leb}
use Rattle.std.proofs.ByRecursion.{All-weaker}
use Rattle.fix.specs.declared.command.Side.{Side}
use Rattle.fix.specs.declared.command.Side.TheVariants.{Buy, Sell}
use Rattle.market.specs.declared.resting.Resting.{Resting}
use Rattle.market.specs.Market.{Level, other, better, crosses, resting}
use Rattle.market.specs.Put.{kept}
use Rattle.market.specs.Tally.{lots_in, lots_at, times_in, times_at}
use Rattle.market.specs.Prices.{Better, Allows}
use Rattle.market.specs.Shape.{Sorted}

-- what holds of every level's price
abbrev pub Prices : (ℕ → Type 0) → List Level → Type 0
Prices P ls = AllByRecursion (λ l. P l.price) ls

-- an order of this side and limit does not trade at a price
abbrev pub Clear : Side → ℕ → ℕ → Type 0
Clear Buy limit price = limit < price
Clear Sell limit price = price < limit

pub better_true : (side : Side) (p q : ℕ) → better side p q ≡ true → Better side p q
better_true Buy p q e = ltb-true q p e
better_true Sell p q e = ltb-true p q e

pub better_from : (side : Side) (p q : ℕ) → Better side p q → better side p q ≡ true
better_from Buy p q b = lt-ltb q p b
better_from Sell p q b = lt-ltb p q b

pub better_not : (side : Side) (p q : ℕ) → Better side p q → better side q p ≡ false
better_not Buy p q b = le-ltb p q (omega arith)
better_not Sell p q b = le-ltb q p (omega arith)

pub better_itself : (side : Side) (p : ℕ) → better side p p ≡ false
better_itself Buy p = le-ltb p p (omega arith)
better_itself Sell p = le-ltb p p (omega arith)

-- of two prices neither of which is better
pub better_same : (side : Side) (p q : ℕ) → better side p q ≡ false → better side q p ≡ false → q ≡ p
better_same Buy p q a b = grind (arith, nat_tests)
better_same Sell p q a b = grind (arith, nat_tests)

pub better_differs : (side : Side) (p q : ℕ) → Better side p q → p ≡ q → ⊥
better_differs Buy p q b e = omega arith
better_differs Sell p q b e = omega arith

pub better_trans : (side : Side) (p q r : ℕ) → Better side p q → Better side q r → Better side p r
better_trans Buy p q r a b = omega arith
better_trans Sell p q r a b = omega arith

pub clear_false : (side : Side) (p q : ℕ) → crosses side p q ≡ false → Clear side p q
clear_false Buy p q e = leb-false q p e
clear_false Sell p q e = leb-false p q e

pub clear_crosses : (side : Side) (limit p : ℕ) → Clear side limit p → crosses side limit p ≡ false
clear_crosses Buy limit p c = lt-leb p limit c
clear_crosses Sell limit p c = lt-leb limit p c

pub allowed : (side : Side) (limit price : ℕ) → crosses side limit price ≡ true → Allows side limit price
allowed Buy limit price e = leb-true price limit e
allowed Sell limit price e = leb-true limit price e

-- what does not trade at a price does not trade at a worse one
pub clear_worse : (side : Side) (limit p q : ℕ) → Clear side limit p → Better (other side) p q → Clear side limit q
clear_worse Buy limit p q a b = omega arith
clear_worse Sell limit p q a b = omega arith

pub prices_weaker : (P Q : ℕ → Type 0) → ((p : ℕ) → P p → Q p) → (ls : List Level) → Prices P ls → Prices Q ls
prices_weaker P Q f ls = All-weaker (λ l. P l.price) (λ l. Q l.price) (λ l. f l.price) ls

-- all levels stand clear where the best one does
pub clear_all : (side : Side) (limit : ℕ) (l : Level) (ls : List Level) → Sorted (other side) (l ∷ ls) → Clear side limit l.price → Prices (Clear side limit) (l ∷ ls)
clear_all side limit l ls s c = (c, prices_weaker (Better (other side) l.price) (Clear side limit) (λ q. clear_worse side limit l.price q c) ls s.0)

-- a level that is kept if something rests at it
pub all_kept : (P : Level → Type 0) (price : ℕ) (rs : List Resting) (ls : List Level)
    → (0 < length rs → P (record { price = price; queue = rs })) → AllByRecursion P ls → AllByRecursion P (kept price rs ls)
all_kept P price [] ls p e = e
all_kept P price (r ∷ rs) ls p e = (p (omega arith), e)

pub sorted_kept : (side : Side) (price : ℕ) (rs : List Resting) (ls : List Level) → Prices (Better side price) ls → Sorted side ls → Sorted side (kept price rs ls)
sorted_kept side price [] ls e s = s
sorted_kept side price (r ∷ rs) ls e s = (e, s)

pub lots_kept : (who : ℕ → ℕ → Bool) (price : ℕ) (rs : List Resting) (ls : List Level) → lots_at who (kept price rs ls) ≡ lots_in who rs + lots_at who ls
lots_kept who price [] ls = omega arith
lots_kept who price (r ∷ rs) ls = refl

pub times_kept : (member order price : ℕ) (rs : List Resting) (ls : List Level) → times_at member order (kept price rs ls) ≡ times_in member order rs + times_at member order ls
times_kept member order price [] ls = omega arith
times_kept member order price (r ∷ rs) ls = refl

pub resting_kept : (price : ℕ) (rs : List Resting) (ls : List Level) → resting (kept price rs ls) ≡ length rs + resting ls
resting_kept price [] ls = omega arith
resting_kept price (r ∷ rs) ls = refl
