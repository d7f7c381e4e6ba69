-- Total orders, and those of the two kinds of keys.
use Rattle.std.specs.Prelude.{◌≡◌}
use Rattle.std.specs.declared.cmp.Ordering.TheVariants.{Less, Equal}
use Rattle.std.specs.declared.cmp.Ordering.{Ordering}
use Rattle.std.specs.Ordering.{ordering_reverse, nat_cmp, on, then_cmp}
use Rattle.ordered.specs.declared.key.price.Price.{Price}
use Rattle.ordered.specs.declared.key.order_id.OrderId.{OrderId}

-- Of two keys exactly one of less, equal and greater holds, since `order` answers one.
pub record Total {K : Type 0} (order : K → K → Ordering) : Type 0 where
  pub itself : (a : K) → order a a ≡ Equal
  pub same : (a b : K) → order a b ≡ Equal → a ≡ b
  pub turned : (a b : K) → order b a ≡ ordering_reverse (order a b)
  pub transitive : (a b c : K) → order a b ≡ Less → order b c ≡ Less → order a c ≡ Less

abbrev pub by_price : Price → Price → Ordering
by_price = on (λ p. p.0) nat_cmp

-- by member, and among the orders of one member by order number
abbrev pub by_order_id : OrderId → OrderId → Ordering
by_order_id = then_cmp (on (λ id. id.member) nat_cmp) (on (λ id. id.order) nat_cmp)
