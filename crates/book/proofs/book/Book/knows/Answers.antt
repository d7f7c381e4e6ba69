use Rattle.std.proofs.Common.{◌≡◌, is_some, Some, None, Option, sym, refl, ap, ◌∙◌}
use Rattle.std.specs.Option.{option_map}
use Rattle.ordered.specs.declared.key.order_id.OrderId.{OrderId}
use Rattle.side.specs.Levels.{levels_of}
use Rattle.book.specs.Place.{place_of}
use Rattle.book.proofs.Known.{known_is}
use Rattle.book.proofs.book.Book.knows.Goals as goal

some_mapped : {A B : Type 0} (f : A → B) (o : Option A) → is_some o ≡ is_some (option_map f o)
some_mapped f None = refl
some_mapped f (Some x) = refl

pub returns : goal.returns
returns c =
    let b = c.args.self.now in
    let k : OrderId = record { order = c.args.order; member = c.args.member } in
    record {
      value =
          c.is_some.ensures
          ∙ some_mapped (λ x. x.now) c.get.result
          ∙ ap is_some c.get.ensures.value
          ∙ sym (known_is k (place_of b.places.nodes k) (levels_of b.buys) (levels_of b.sells) (b.bought k) (b.sold k));
    }
