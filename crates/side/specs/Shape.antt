-- The shape of every side's levels.
use Rattle.std.specs.Prelude.{◌≡◌, ℕ, ◌≤◌, true, List, [], ◌∷◌}
use Rattle.std.specs.Coded.{×_prop, Unit-prop, le_prop}
use Rattle.std.specs.List.{AllByRecursion, AllByRecursion-prop}
use Rattle.allocation.specs.Range.{all_tradable}
use Rattle.fix.specs.declared.command.Side.{Side}
use Rattle.fix.specs.declared.command.Side.TheVariants.{Buy, Sell}
use Rattle.market.specs.Market.{Level, lots_of, resting}
use Rattle.market.specs.Prices.{Better}
use Rattle.market.specs.Shape.{Sorted}
use Rattle.side.specs.Row.{standing}

abbrev pub InLots : Level → Type 0
InLots l = all_tradable (lots_of l.queue) ≡ true

pub record Shaped (side : Side) (ls : List Level) : Type 0 where
  -- best first, no price twice
  pub sorted : Sorted side ls
  -- each price is in range, and something rests there
  pub stand : standing ls ≡ true
  -- the lots of each order are in range
  pub lots : AllByRecursion InLots ls
  -- as many orders rest as a book holds, or fewer
  pub few : resting ls ≤ 1024

-- levels are sorted in one way, so that a type can hold that they are
better_prop : (side : Side) (p q : ℕ) → IsProp (Better side p q)
better_prop Buy p q = le_prop
better_prop Sell p q = le_prop

pub sorted_prop : (side : Side) (ls : List Level) → IsProp (Sorted side ls)
sorted_prop side [] = Unit-prop
sorted_prop side (l ∷ ls) = ×_prop (AllByRecursion-prop _ (λ worse. better_prop side l.price worse.price) ls) (sorted_prop side ls)
