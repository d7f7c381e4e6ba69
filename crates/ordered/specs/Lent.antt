-- What a map ends as, where a `&mut` to a value of it is returned.
use Rattle.std.specs.Prelude.{ℕ, Bool, Option}
use Rattle.std.specs.Borrow.{Lends, LendsIf, Fml, RattleType, MutBor}
use Rattle.std.specs.declared.cmp.Ordering.{Ordering}
use Rattle.ordered.specs.Kept.{Kept, with_nodes}
use Rattle.ordered.specs.Row.{with_value, value_set}
use Rattle.ordered.specs.contracts.ordered_map.OrderedMap.{the_row}

-- what a clause has as K.Ord
abbrev pub OrdMembers : Type 0 → Type 0
OrdMembers K = record { partial_cmp : K → K → Option Ordering; eq : K → K → Bool; cmp : K → K → Ordering }

module _ (K V : RattleType) (order : OrdMembers K.Denot) (m : MutBor (Kept K.Denot V.Denot)) where
  abbrev pub map_row : RattleType
  map_row = the_row K V (record { cmp = order.cmp }) (record { eq = order.eq }) (record { partial_cmp = order.partial_cmp })

  -- the map has, at the place, the last value written through r
  abbrev pub lends_at : ℕ → MutBor V.Denot → Fml
  lends_at place r = Lends map_row V m r (λ w. with_nodes m.now (value_set m.now.nodes place w))

  -- under the key, and is as it was at `None`
  abbrev pub lends_under : K.Denot → Option (MutBor V.Denot) → Fml
  lends_under key r = LendsIf map_row V m r (λ w. with_nodes m.now (with_value order.cmp m.now.nodes key w)) m.now

  -- at the first place, and is as it was at `None`
  abbrev pub lends_first : Option (MutBor V.Denot) → Fml
  lends_first r = LendsIf map_row V m r (λ w. with_nodes m.now (value_set m.now.nodes 0 w)) m.now
