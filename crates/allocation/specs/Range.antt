-- What a policy takes: a quantity, the lots of the orders at a level, and room for as many fills.
use Rattle.std.specs.Prelude.{◌≡◌, ℕ, ◌≤◌, Bool, true, cond, ◌&&◌, List, [], ◌∷◌, length, ◌==◌, ◌≢◌, nat_le}
use Rattle.std.specs.List.{AllByRecursion}
use Rattle.answers.specs.Answer.{Answer, answered, refused}

-- the most lots of one order: a quantity has at most six digits
abbrev pub most_lots : ℕ
most_lots = 999999

-- the most orders at one price
abbrev pub most_orders : ℕ
most_orders = 1024

abbrev pub tradable : ℕ → Bool
tradable lots = nat_le 1 lots && nat_le lots most_lots

abbrev pub all_tradable : List ℕ → Bool
all_tradable [] = true
all_tradable (lots ∷ younger) = tradable lots && all_tradable younger

-- an incoming order of `quantity` lots, and the orders at a level
abbrev pub in_range : ℕ → List ℕ → Bool
in_range quantity lots = nat_le (length lots) most_orders && (tradable quantity && all_tradable lots)

-- `room` is how many fills there is room for
unfoldable pub tested : ℕ → List ℕ → ℕ → Answer (Unit {0})
tested quantity lots room = cond (length lots == room) (cond (in_range quantity lots) (answered tt) (refused 52 [])) (refused 51 [])

-- the same by facts
abbrev pub Tradable : ℕ → Type 0
Tradable lots = (1 ≤ lots) × (lots ≤ most_lots)

pub record InRange (quantity : ℕ) (lots : List ℕ) : Type 0 where
  pub few : length lots ≤ most_orders
  pub incoming : Tradable quantity
  pub resting : AllByRecursion Tradable lots

pub record Tests (quantity : ℕ) (lots : List ℕ) (room : ℕ) : Type 0 where
  pub lengths_differ : (length lots ≢ room) → tested quantity lots room ≡ refused 51 []
  pub out_of_range : length lots ≡ room → (InRange quantity lots → ⊥) → tested quantity lots room ≡ refused 52 []
  pub fits : length lots ≡ room → InRange quantity lots → tested quantity lots room ≡ answered tt

-- each is answered, or refused by its number, as the facts have it
abbrev pub TestsAsTold : Type 0
TestsAsTold = (quantity : ℕ) (lots : List ℕ) (room : ℕ) → Tests quantity lots room
