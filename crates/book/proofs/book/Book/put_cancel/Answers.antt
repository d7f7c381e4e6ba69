use Rattle.std.proofs.Common.{◌≡◌, ℕ, ◌+◌, List, [], ◌∷◌, length, is_some, Some, None, sym, ap, ◌∙◌, arith}
use Rattle.std.specs.Option.{option_map}
use Rattle.fix.specs.Command.{cancel_figures}
use Rattle.fix.specs.declared.command.Cancel.{Cancel}
use Rattle.fix.specs.declared.command.Side.{Side}
use Rattle.fix.specs.declared.command.Side.TheVariants.{Buy, Sell}
use Rattle.ordered.specs.Order.{by_order_id}
use Rattle.ordered.specs.Row.{node_with}
use Rattle.ordered.specs.declared.key.order_id.OrderId.{OrderId}
use Rattle.ordered.specs.declared.node.Node.{Node}
use Rattle.ordered.proofs.Lookups.{without_none}
use Rattle.market.specs.declared.entry.Entry.{Entry}
use Rattle.market.specs.declared.entry.Event.{Event}
use Rattle.market.specs.declared.entry.Event.TheVariants.{Cancelled}
use Rattle.market.specs.Market.{Level, Market, resting}
use Rattle.market.specs.Put.{Outcome, entry, out_of_levels}
use Rattle.side.specs.Levels.{levels_of}
use Rattle.market.specs.Tally.{same_side}
use Rattle.book.specs.declared.place.Place.{Place}
use Rattle.book.specs.Market.{market_of}
use Rattle.book.specs.Place.{held, place_of, told}
use Rattle.book.proofs.Places.{length_less}
use Rattle.book.proofs.Known.{absent, told_itself, told_off, told_other}
use Rattle.book.proofs.Cancels.{told_cut, told_stays, resting_one, cancel_none, cancel_buy, cancel_sell}
use Rattle.book.proofs.book.Book.put_cancel.Goals as goal
use Rattle.book.proofs.book.Book.put_cancel.Goals.{in-None, in-Some+in-Buy, in-Some+in-Sell}

abbrev key_of : Cancel → OrderId
key_of c = record { order = c.order; member = c.member }

valued : {n : Node OrderId Place} (ns : List (Node OrderId Place)) (k : OrderId) → Some n ≡ node_with by_order_id ns k → place_of ns k ≡ Some n.value
valued ns k e = sym (ap (option_map (λ (m : Node OrderId Place). m.value)) e)

unplaced : (ns : List (Node OrderId Place)) (k : OrderId) → None ≡ node_with by_order_id ns k → place_of ns k ≡ None
unplaced ns k e = sym (ap (option_map (λ (m : Node OrderId Place). m.value)) e)

-- an order that has a place on a side rests there once, at its price
module _ (k : OrderId) (place : Place) (s : Side) (ls : List Level) (ns : List (Node OrderId Place)) (is : place_of ns k ≡ Some place) (old : (j : OrderId) (p : ℕ) → held j p ls ≡ told (place_of ns j) s p) where
  once : place.side ≡ s → resting (out_of_levels k.member k.order ls) + 1 ≡ resting ls
  once e = resting_one k place.price ls
      (old k place.price ∙ ap (λ o. told o s place.price) is ∙ told_itself place s e)
      (λ p ne. old k p ∙ ap (λ o. told o s p) is ∙ told_off place s p ne)

pub invariant_of-self : goal.invariant_of-self
invariant_of-self c =
    let b = c.args.self.now in
    let k = key_of c.args.cancel.now in
    let ns = b.places.nodes in
    let e = c.remove.ensures in
    let same : c.remove.new.self.nodes ≡ ns = e.nodes ∙ without_none by_order_id ns k (sym c.in-None.ensures.value) in
    record {
      buys_side = b.buys_side;
      sells_side = b.sells_side;
      bought = (λ j p. b.bought j p ∙ ap (λ ms. told (place_of ms j) Buy p) (sym same));
      sold = (λ j p. b.sold j p ∙ ap (λ ms. told (place_of ms j) Sell p) (sym same));
      counted = b.counted ∙ ap length (sym same);
      sound = e.sound;
      room = e.capacity ∙ b.room;
    }

pub invariant_of-self-in-Buy : goal.invariant_of-self-in-Buy
invariant_of-self-in-Buy c =
    let b = c.args.self.now in
    let k = key_of c.args.cancel.now in
    let place = c.in-Some.node.value in
    let ns = b.places.nodes in
    let ls = levels_of b.buys in
    let e = c.remove.ensures in
    let t = c.take_out-taken.ensures in
    let is : place_of ns k ≡ Some place = valued ns k c.in-Some.ensures.value in
    let up = b.sound.ascends in
    let shrunk : length c.remove.new.self.nodes + 1 ≡ length ns = ap (λ ms. length ms + 1) e.nodes ∙ length_less ns k (ap is_some is) in
    let fewer : resting (levels_of c.take_out-taken.new.mine) + 1 ≡ resting ls = ap (λ ys. resting ys + 1) t.levels ∙ once k place Buy ls ns is b.bought c.in-Buy.is in
    record {
      buys_side = ap (λ s. same_side s Buy) t.side ∙ b.buys_side;
      sells_side = b.sells_side;
      bought = (λ j p. ap (held j p) t.levels ∙ told_cut k ns up Buy ls b.bought j p ∙ ap (λ ms. told (place_of ms j) Buy p) (sym e.nodes));
      sold = (λ j p. told_stays k ns up place is Sell (levels_of b.sells) (ap (λ s. same_side s Sell) c.in-Buy.is) b.sold j p ∙ ap (λ ms. told (place_of ms j) Sell p) (sym e.nodes));
      counted = omega (arith, b.counted, shrunk, fewer);
      sound = e.sound;
      room = e.capacity ∙ b.room;
    }

pub invariant_of-self-in-Sell : goal.invariant_of-self-in-Sell
invariant_of-self-in-Sell c =
    let b = c.args.self.now in
    let k = key_of c.args.cancel.now in
    let place = c.in-Some.node.value in
    let ns = b.places.nodes in
    let ls = levels_of b.sells in
    let e = c.remove.ensures in
    let t = c.take_out-taken-in-Sell.ensures in
    let is : place_of ns k ≡ Some place = valued ns k c.in-Some.ensures.value in
    let up = b.sound.ascends in
    let shrunk : length c.remove.new.self.nodes + 1 ≡ length ns = ap (λ ms. length ms + 1) e.nodes ∙ length_less ns k (ap is_some is) in
    let fewer : resting (levels_of c.take_out-taken-in-Sell.new.mine) + 1 ≡ resting ls = ap (λ ys. resting ys + 1) t.levels ∙ once k place Sell ls ns is b.sold c.in-Sell.is in
    record {
      buys_side = b.buys_side;
      sells_side = ap (λ s. same_side s Sell) t.side ∙ b.sells_side;
      bought = (λ j p. told_stays k ns up place is Buy (levels_of b.buys) (ap (λ s. same_side s Buy) c.in-Sell.is) b.bought j p ∙ ap (λ ms. told (place_of ms j) Buy p) (sym e.nodes));
      sold = (λ j p. ap (held j p) t.levels ∙ told_cut k ns up Sell ls b.sold j p ∙ ap (λ ms. told (place_of ms j) Sell p) (sym e.nodes));
      counted = omega (arith, b.counted, shrunk, fewer);
      sound = e.sound;
      room = e.capacity ∙ b.room;
    }

pub returns : goal.returns
returns c =
    let b = c.args.self.now in
    let d = cancel_figures c.args.cancel.now in
    let k = key_of c.args.cancel.now in
    let m = market_of b in
    let ns = b.places.nodes in
    let told-by : Event → List Entry = λ v. entry d.number d.member d.order v ∷ [] in
    elim c.match-remove.branch [
      | in-None w ↦
          let is : place_of ns k ≡ None = unplaced ns k w.in-None.ensures.value in
          let made = cancel_none d m
          (absent k (place_of ns k) Buy (levels_of b.buys) (b.bought k) (λ p. ap (λ o. told o Buy p) is))
          (absent k (place_of ns k) Sell (levels_of b.sells) (b.sold k) (λ p. ap (λ o. told o Sell p) is)) in
          record {
            market = ap market_of w.self-is ∙ sym (ap (λ (o : Outcome). o.market) made);
            entries = ap told-by w.event-is ∙ sym (ap (λ (o : Outcome). o.entries) made);
          }
      | in-Some+in-Buy w ↦
          let t = w.take_out-taken.ensures in
          let made = cancel_buy d m w.take_out-taken.result t.value in
          let new : List Level → Market = λ ls. record { buys = ls; sells = levels_of b.sells } in
          record {
            market = ap market_of w.self-is ∙ ap new t.levels ∙ sym (ap (λ (o : Outcome). o.market) made);
            entries = ap told-by w.event-is ∙ ap (λ s. told-by (Cancelled s w.take_out-taken.result.lots)) w.in-Buy.is ∙ sym (ap (λ (o : Outcome). o.entries) made);
          }
      | in-Some+in-Sell w ↦
          let t = w.take_out-taken-in-Sell.ensures in
          let place = w.in-Some.node.value in
          let is : place_of ns k ≡ Some place = valued ns k w.in-Some.ensures.value in
          let off : (p : ℕ) → told (place_of ns k) Buy p ≡ 0 = λ p. ap (λ o. told o Buy p) is ∙ told_other place Buy p (ap (λ s. same_side s Buy) w.in-Sell.is) in
          let made = cancel_sell d m w.take_out-taken-in-Sell.result (absent k (place_of ns k) Buy (levels_of b.buys) (b.bought k) off) t.value in
          let new : List Level → Market = λ ls. record { buys = levels_of b.buys; sells = ls } in
          record {
            market = ap market_of w.self-is ∙ ap new t.levels ∙ sym (ap (λ (o : Outcome). o.market) made);
            entries = ap told-by w.event-is ∙ ap (λ s. told-by (Cancelled s w.take_out-taken-in-Sell.result.lots)) w.in-Sell.is ∙ sym (ap (λ (o : Outcome). o.entries) made);
          }
    ]
