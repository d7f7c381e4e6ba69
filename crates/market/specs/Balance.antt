-- No lot is lost and none is made.
use Rattle.std.specs.Prelude.{◌≡◌, ℕ, ◌+◌, Bool, List}
use Rattle.fix.specs.declared.command.Side.{Side}
use Rattle.fix.specs.declared.command.Side.TheVariants.{Buy, Sell}
use Rattle.fix.specs.Command.{Command}
use Rattle.market.specs.declared.entry.Entry.{Entry}
use Rattle.market.specs.Market.{Market, empty, levels}
use Rattle.market.specs.Put.{after, entries_of}
use Rattle.market.specs.Tally.{lots_entered, lots_traded, lots_cancelled, all_orders, by_member, by_order, tally, lots_at}

-- the lots that the chosen orders entered on a side were traded, were cancelled, or rest
abbrev pub Accounted : (ℕ → ℕ → Bool) → Side → List Entry → Market → Type 0
Accounted chosen side es m =
    tally chosen (lots_entered side) es
    ≡ tally chosen (lots_traded side) es + (tally chosen (lots_cancelled side) es + lots_at chosen (levels side m))

pub record Balanced (es : List Entry) (m : Market) : Type 0 where
  pub each_member : (member : ℕ) (side : Side) → Accounted (by_member member) side es m
  pub each_order : (member order : ℕ) (side : Side) → Accounted (by_order member order) side es m
  pub bought_is_sold : tally all_orders (lots_traded Buy) es ≡ tally all_orders (lots_traded Sell) es

-- after every row of commands
abbrev pub AlwaysBalanced : (ℕ → List ℕ → List ℕ) → Type 0
AlwaysBalanced split = (cs : List Command) → Balanced (entries_of split cs empty) (after split cs empty)
