-- The shape of every market that commands make.
use Rattle.std.specs.Prelude.{ℕ, ◌<◌, ◌≤◌, List, [], ◌∷◌, length, Some, None, Option}
use Rattle.std.specs.List.{AllByRecursion}
use Rattle.fix.specs.declared.command.Side.{Side}
use Rattle.fix.specs.Command.{Command, new, cancel}
use Rattle.market.specs.declared.resting.Resting.{Resting}
use Rattle.market.specs.Market.{Level, Market, empty, levels, best, all_resting}
use Rattle.market.specs.Put.{put, after}
use Rattle.market.specs.Tally.{times}
use Rattle.market.specs.Prices.{Better}

-- best first, no price twice
abbrev pub Sorted : Side → List Level → Type 0
Sorted side [] = Unit {0}
Sorted side (l ∷ ls) = AllByRecursion (λ worse. Better side l.price worse.price) ls × Sorted side ls

abbrev pub HasLots : Resting → Type 0
HasLots r = 0 < r.lots

-- something rests at it, and each order of it has lots
abbrev pub Occupied : Level → Type 0
Occupied l = (0 < length l.queue) × AllByRecursion HasLots l.queue

-- the best buy is below the best sell, where both exist
abbrev pub Apart : Option ℕ → Option ℕ → Type 0
Apart (Some buy) (Some sell) = buy < sell
Apart (Some buy) None = Unit {0}
Apart None sell = Unit {0}

pub record Shape (m : Market) : Type 0 where
  pub sorted : (side : Side) → Sorted side (levels side m)
  pub occupied : (side : Side) → AllByRecursion Occupied (levels side m)
  pub uncrossed : Apart (best m.buys) (best m.sells)
  pub few : all_resting m ≤ 1024
  -- a member's order number rests at most once, over both sides
  pub once : (member order : ℕ) → times member order m ≤ 1

-- every command keeps the shape
abbrev pub KeepsShape : (ℕ → List ℕ → List ℕ) → Type 0
KeepsShape split = (c : Command) (m : Market) → Shape m → Shape (put split c m).market

-- after every row of commands
abbrev pub AlwaysShaped : (ℕ → List ℕ → List ℕ) → Type 0
AlwaysShaped split = (cs : List Command) → Shape (after split cs empty)

-- no order of levels has more than so many lots
abbrev pub AtMost : ℕ → List Level → Type 0
AtMost most ls = AllByRecursion (λ l. AllByRecursion (λ r. r.lots ≤ most) l.queue) ls

abbrev pub lots_asked : Command → ℕ
lots_asked (new o) = o.lots
lots_asked (cancel c) = 0

-- a command that asks for no more keeps that
abbrev pub KeepsLots : (ℕ → List ℕ → List ℕ) → Type 0
KeepsLots split = (most : ℕ) (c : Command) (m : Market) → lots_asked c ≤ most
    → ((side : Side) → AtMost most (levels side m)) → (side : Side) → AtMost most (levels side (put split c m).market)
