-- An order taken out at a price, or at a rank.
use Rattle.std.specs.Prelude.{ℕ, cond, List, [], ◌∷◌, ◌==◌}
use Rattle.market.specs.Market.{Level}
use Rattle.market.specs.Put.{kept, out_of_queue}

-- levels without the order of that member and number at a price
abbrev pub out_at : ℕ → ℕ → ℕ → List Level → List Level
out_at price member order [] = []
out_at price member order (l ∷ ls) = cond (l.price == price) (kept l.price (out_of_queue member order l.queue) ls) (l ∷ out_at price member order ls)
