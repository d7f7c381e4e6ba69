use Rattle.std.proofs.Common.{◌≡◌, ℕ, ◌<◌, List, None, Some, sym, refl, ap, ◌∙◌, length, get_or}
use Rattle.std.specs.Option.{option_map}
use Rattle.std.specs.List.{slice_get}
use Rattle.std.proofs.lemmas.Bool.{ltb-true, ltb-false}
use Rattle.std.proofs.lemmas.Option.{slice_get_read, slice_get_past, slice_get-get_or}
use Rattle.ordered.specs.declared.node.Node.{Node}
use Rattle.ordered.specs.declared.key.price.Price.{Price}
use Rattle.level.specs.declared.level.Level.{Level as Held}
use Rattle.market.specs.Market.{Level, total, lots_of}
use Rattle.side.specs.declared.book_side.LevelAt.{LevelAt}
use Rattle.side.specs.Levels.{levels_of}
use Rattle.side.specs.Rank.{at_price, turned}
use Rattle.side.specs.Row.{seen_as}
use Rattle.side.proofs.Prices.{level_seen}
use Rattle.side.proofs.book_side.BookSide.level_at.Goals as goal

-- what is read at a place is the node that stands there
node_read : (ns : List (Node Price Held)) (i : ℕ) (n d : Node Price Held) → i < length ns → slice_get ns i ≡ Some n → get_or ns i d ≡ n
node_read ns i n d h is = let read : Some (get_or ns i d) ≡ Some n = sym (slice_get-get_or ns i d h) ∙ is in cc

pub returns : goal.returns
returns c =
    let b = c.args.self.now in
    let ns = c.nodes-nodes.result.now in
    let i = c.args.place in
    let n = c.in_ok-node.node.now in
    let here : slice_get ns i ≡ Some n = slice_get_read ns (length ns) i n refl (ltb-true _ _ (sym c.in_ok-node.ensures.lookup.0)) c.in_ok-node.ensures.lookup.1 in
    let is : slice_get (levels_of b) i ≡ Some (at_price b.side (seen_as n)) = level_seen b.side ns b.levels i c.nodes-nodes.ensures.value ∙ ap (λ o. option_map (at_price b.side) (option_map seen_as o)) here in
    record {
      price = ap Some (c.turn.ensures.value ∙ ap (λ (m : Node Price Held). turned b.side m.key.0) (node_read ns i n _ (ltb-true _ _ (sym c.in_ok-node.ensures.lookup.0)) here)) ∙ sym (ap (option_map (λ (l : Level). l.price)) is);
      queue = ap Some c.queue.ensures.value ∙ sym (ap (option_map (λ (l : Level). l.queue)) is);
      lots = ap Some c.lots.ensures.value ∙ sym (ap (option_map (λ (l : Level). total (lots_of l.queue))) is);
    }

pub returns-in_err-node : goal.returns-in_err-node
returns-in_err-node c =
    let b = c.args.self.now in
    let ns = c.nodes-nodes.result.now in
    let i = c.args.place in
    let past : slice_get ns i ≡ None = slice_get_past ns i (ltb-false _ _ (sym c.in_err-node.ensures.lookup.0)) in
    let is : slice_get (levels_of b) i ≡ None = level_seen b.side ns b.levels i c.nodes-nodes.ensures.value ∙ ap (λ o. option_map (at_price b.side) (option_map seen_as o)) past in
    let none = c.from_residual.ensures in
    record {
      price = ap (option_map (λ (l : LevelAt). l.price)) none ∙ sym (ap (option_map (λ (l : Level). l.price)) is);
      queue = ap (option_map (λ (l : LevelAt). l.queue.now)) none ∙ sym (ap (option_map (λ (l : Level). l.queue)) is);
      lots = ap (option_map (λ (l : LevelAt). l.lots)) none ∙ sym (ap (option_map (λ (l : Level). total (lots_of l.queue))) is);
    }
