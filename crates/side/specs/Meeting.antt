-- An incoming order on its way through the levels of the other side, which are held by rank.
use Rattle.std.specs.Prelude.{◌≡◌, ℕ, ◌+◌, ◌*◌, ◌<◌, ◌≤◌, Bool, false, List, [], ◌∷◌, ◌++◌, length, take, drop, nat_le}
use Rattle.level.specs.declared.trade.Progress.{Progress}
use Rattle.fix.specs.Command.{NewOrder}
use Rattle.fix.specs.declared.command.Side.{Side}
use Rattle.market.specs.declared.entry.Entry.{Entry}
use Rattle.market.specs.declared.resting.Resting.{Resting}
use Rattle.market.specs.Market.{Level, resting, lots_of}
use Rattle.market.specs.Put.{meets, kept, after_fills}
use Rattle.side.specs.Rank.{priced}

-- the best level's queue and rank
abbrev pub first_queue : List Level → List Resting
first_queue [] = []
first_queue (l ∷ ls) = l.queue

abbrev pub first_rank : List Level → ℕ
first_rank [] = 0
first_rank (l ∷ ls) = l.price

-- whether there is a level up to a rank
abbrev pub first_within : ℕ → List Level → Bool
first_within limit [] = false
first_within limit (l ∷ ls) = nat_le l.price limit

-- the levels after the best one was filled
abbrev pub best_filled : (List ℕ → List ℕ) → List Level → List Level
best_filled split [] = []
best_filled split (l ∷ ls) = kept l.price (after_fills (split (lots_of l.queue)) l.queue) ls

-- an incoming order meets a side's levels: what it leaves of them, of itself and of the list
pub record Meets (split : ℕ → List ℕ → List ℕ) (o : NewOrder) (ls ls' : List Level) (list list' : List Entry) (start : ℕ) (after : Progress) : Type 0 where
  pub levels : ls' ≡ (meets split o o.lots ls).levels
  pub left : after.left ≡ (meets split o o.lots ls).left
  pub front : take after.written list' ≡ take start list ++ (meets split o o.lots ls).entries
  pub back : drop after.written list' ≡ drop after.written list
  pub from : start ≤ after.written
  pub upto : after.written ≤ length list'

-- where it stands on its way: what it comes to from here is what it came to from the start
pub record Meeting (split : ℕ → List ℕ → List ℕ) (o : NewOrder) (side : Side) (start : ℕ) (ls ls' : List Level) (list list' : List Entry) (left written : ℕ) : Type 0 where
  pub same_left : (meets split o o.lots (priced side ls)).left ≡ (meets split o left (priced side ls')).left
  pub same_levels : (meets split o o.lots (priced side ls)).levels ≡ (meets split o left (priced side ls')).levels
  pub front : take written list' ++ (meets split o left (priced side ls')).entries ≡ take start list ++ (meets split o o.lots (priced side ls)).entries
  pub back : drop written list' ≡ drop written list
  pub from : start ≤ written
  pub upto : written ≤ length list'
  pub room : 0 < left → written + 2 * resting ls' ≤ length list'
  pub most : left ≤ o.lots
