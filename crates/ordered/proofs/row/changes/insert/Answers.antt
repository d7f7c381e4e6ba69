use Rattle.std.proofs.Common.{◌≡◌, true, [], length, is_some, vec_items, vec_len, sym, refl, ap, ◌∙◌, subst, rules}
use Rattle.answers.specs.Answer.{refused, if_answered}
use Rattle.std.specs.List.{insert}
use Rattle.ordered.specs.Order.{Total}
use Rattle.ordered.proofs.Orders.{total_from}
use Rattle.ordered.specs.Place.{At, Gap}
use Rattle.ordered.specs.Refusal.{room, insertion}
use Rattle.ordered.specs.Row.{ascending, put}
use Rattle.ordered.proofs.Ascends.{ascending_put}
use Rattle.ordered.proofs.Found.{node_at, node_gap, put_gap}
use Rattle.ordered.proofs.Insertions.{insertion_there, insertion_new, either_way, inserted_new}
use Rattle.ordered.proofs.row.changes.insert.Given as given
use Rattle.ordered.proofs.row.changes.insert.Goals as goal

total : (g : given.Over) → Total g.K.Ord.cmp
total g = total_from g.met.K.Ord.total g.met.K.Key.same

pub returns-in-Ok : goal.returns-in-Ok
returns-in-Ok g c =
    let order = g.K.Ord.cmp in
    let ns = vec_items c.args.nodes.now in
    let node = c.args.node in
    let place = c.in-Ok.field-0 in
    let at : At order ns node.key place = subst (λ ms. At order ms node.key place) c.as_slice.ensures.value c.in-Ok.ensures.places in
    let here = ap is_some (node_at order (total g) ns c.requires.ascending node.key place node at) in
    let there : insertion order c.args.capacity ns node.key ≡ refused 94 [] = insertion_there order _ ns node.key here in
    record {
      answers = sym there;
      hands_back = refl;
      nodes = sym (ap (λ a. if_answered a (put order node ns) ns) there);
      inside = c.requires.inside;
      memory = search rules;
      ascending = c.requires.ascending;
      told = record { same = refl; there = here; nodes = refl };
    }

pub returns-in-Err : goal.returns-in-Err
returns-in-Err g c =
    let order = g.K.Ord.cmp in
    let capacity = c.args.capacity in
    let ns = vec_items c.args.nodes.now in
    let node = c.args.node in
    let place = c.in-Err.place in
    let gap : Gap order ns node.key place = subst (λ ms. Gap order ms node.key place) c.as_slice.ensures.value c.in-Err.ensures.places in
    let none = node_gap order (total g) ns node.key place gap in
    let long : vec_len c.args.nodes.now ≡ length ns = c.args.nodes.now.ok.0 in
    let new : room (capacity) (vec_len c.args.nodes.now) ≡ insertion order (capacity) ns node.key = ap (room (capacity)) long ∙ sym (insertion_new order (capacity) ns node.key none) in
    let after = c.insert_at.ensures.nodes ∙ ap (λ a. if_answered a (insert ns place node) ns) new ∙ ap (λ ms. if_answered (insertion order (capacity) ns node.key) ms ns) (put_gap order (total g) ns node place gap) in
    record {
      answers = c.insert_at.ensures.answers ∙ new;
      hands_back = c.insert_at.ensures.hands_back;
      nodes = after;
      inside = c.insert_at.ensures.inside;
      memory = c.insert_at.ensures.memory;
      ascending = subst (λ ms. ascending order ms ≡ true) (sym after) (either_way (insertion order (capacity) ns node.key) (put order node ns) ns (λ ms. ascending order ms ≡ true) (ascending_put order (total g) node ns none c.requires.ascending) c.requires.ascending);
      told = inserted_new order (capacity) node ns _ none c.insert_at.result (c.insert_at.ensures.answers ∙ ap (room (capacity)) long) c.insert_at.ensures.hands_back (after ∙ ap (λ a. if_answered a (put order node ns) ns) (insertion_new order (capacity) ns node.key none));
    }
