-- Ranks: how good a price is on its side. The best that there can be has rank 1, so that levels in the order of their ranks stand best first.
use Rattle.std.specs.Prelude.{ℕ, ◌-◌, Bool, ◌&&◌, List, map, nat_le}
use Rattle.fix.specs.declared.command.Side.{Side}
use Rattle.fix.specs.declared.command.Side.TheVariants.{Buy, Sell}
use Rattle.market.specs.Market.{Level}

-- prices, and so ranks, are 1 to 999,999
abbrev pub in_range : ℕ → Bool
in_range price = nat_le 1 price && nat_le price 999999

-- the rank of a price, and the price of a rank
abbrev pub turned : Side → ℕ → ℕ
turned Buy p = 1000000 - p
turned Sell p = p

abbrev pub at_price : Side → Level → Level
at_price side l = record { price = turned side l.price; queue = l.queue }

-- levels by rank as levels by price, and back
abbrev pub priced : Side → List Level → List Level
priced side ls = map (at_price side) ls
