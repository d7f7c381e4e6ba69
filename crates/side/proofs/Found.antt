-- What a look-up in the map of levels tells of it. Assumes nothing.
use Rattle.std.proofs.Common.{◌≡◌, true, false, List, [], ◌∷◌, is_some, Some, None, Option, Less, sym, refl, ap, ◌∙◌}
use Rattle.std.specs.Option.{option_map}
use Rattle.std.specs.Ordering.{is_eq}
use Rattle.std.proofs.lemmas.Option.{none-some}
use Rattle.ordered.specs.declared.node.Node.{Node}
use Rattle.ordered.specs.declared.key.price.Price.{Price}
use Rattle.ordered.specs.Order.{by_price}
use Rattle.ordered.specs.Row.{node_with, lookup, ascending}
use Rattle.ordered.proofs.Ascends.{ascending_parts}
use Rattle.ordered.proofs.Ends.{above_node}
use Rattle.ordered.proofs.Lookups.{node_none, node_here, node_later}
use Rattle.ordered.proofs.Orders.{price_total}
use Rattle.level.specs.declared.level.Level.{Level as Held}

none_of : {X Y : Type 0} (f : X → Y) (o : Option X) → None ≡ option_map f o → o ≡ None
none_of f (Some x) e = absurd (none-some (f x) e)
none_of f None e = refl

some_of : {X Y : Type 0} (f : X → Y) (o : Option X) (y : Y) → Some y ≡ option_map f o → is_some o ≡ true
some_of f (Some x) y e = refl
some_of f None y e = absurd (none-some y (sym e))

pub is_none : (ns : List (Node Price Held)) (key : Price) → None ≡ lookup by_price ns key → node_with by_price ns key ≡ None
is_none ns key e = none_of (λ n. n.value) (node_with by_price ns key) e

pub is_there : (ns : List (Node Price Held)) (key : Price) (v : Held) → Some v ≡ lookup by_price ns key → is_some (node_with by_price ns key) ≡ true
is_there ns key v e = some_of (λ n. n.value) (node_with by_price ns key) v e

pub none_there : (key : Price) (v : Held) → Some v ≡ lookup {V = Held} by_price [] key → ⊥
none_there key v e = none-some v (sym (e ∙ ap (option_map (λ n. n.value)) (node_none by_price key)))

pub value_here : (x : Node Price Held) (ns : List (Node Price Held)) (key : Price) (v : Held) → is_eq (by_price x.key key) ≡ true → Some v ≡ lookup by_price (x ∷ ns) key → v ≡ x.value
value_here x ns key v t e = let one : Some v ≡ Some x.value = e ∙ ap (option_map (λ n. n.value)) (node_here by_price x ns key t) in cc

pub value_later : (x : Node Price Held) (ns : List (Node Price Held)) (key : Price) (v : Held) → is_eq (by_price x.key key) ≡ false → Some v ≡ lookup by_price (x ∷ ns) key → Some v ≡ lookup by_price ns key
value_later x ns key v f e = e ∙ ap (option_map (λ n. n.value)) (node_later by_price x ns key f)

-- the first key is less than one that stands behind it
pub head_less : (x : Node Price Held) (ns : List (Node Price Held)) (key : Price) (v : Held) → ascending by_price (x ∷ ns) ≡ true → Some v ≡ lookup by_price ns key → by_price x.key key ≡ Less
head_less x ns key v up e = above_node by_price price_total x.key ns key (ascending_parts by_price x ns up).0 (is_there ns key v e)
