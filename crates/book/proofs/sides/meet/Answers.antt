use Rattle.std.proofs.Common.{◌≡◌, ℕ, zero, suc, ◌-◌, ◌≤◌, List, [], ◌∷◌, ◌++◌, length, take, drop, ap, ◌∙◌, subst, arith}
use Rattle.fix.specs.Command.{order_figures}
use Rattle.market.specs.Market.{Level, other, resting}
use Rattle.market.proofs.Splits.{splits}
use Rattle.market.specs.Put.{Met, meets}
use Rattle.side.specs.Levels.{levels_of}
use Rattle.side.specs.Shape.{Shaped}
use Rattle.book.specs.Place.{held, place_of, told, forgotten}
use Rattle.book.proofs.Passed.{passed}
use Rattle.book.proofs.sides.meet.Goals as goal

-- the entries behind the first are those that were written
behind : {X : Type 0} (list list' es : List X) (w : ℕ) → take w list' ≡ take 1 list ++ es → 1 ≤ length list → 1 ≤ w → take (w - 1) (drop 1 list') ≡ es
behind [] list' es w e h k = absurd (omega arith)
behind (x ∷ list) list' es zero e h k = absurd (omega arith)
behind (x ∷ list) [] es (suc w) e h k = absurd (let long : ◌≡◌ {A = ℕ} 0 (suc (length es)) = ap length e in omega arith)
behind (x ∷ list) (y ∷ list') es (suc w) e h k =
    let less : suc w - 1 ≡ w = omega arith in
    ap (λ n. take n list') less ∙ ap (drop 1) e

pub returns : goal.returns
returns g c =
    let o = c.args.order.now in
    let split = g.P.Policy.split c.args.policy.now in
    let b = c.args.theirs.now in
    let ns = c.args.places.now.nodes in
    let met = c.in-Ok.ensures.told in
    let m : Met = meets split (order_figures o) o.lots (levels_of b) in
    let slice : take (c.in-Ok.after.written - 1) (drop 1 c.meet.new.list) ≡ m.entries = behind c.args.list.now c.meet.new.list m.entries c.in-Ok.after.written met.front (omega (arith, c.requires.long)) met.from in
    let nodes : c.forget.new.places.nodes ≡ forgotten (other o.side) m.entries ns = c.forget.ensures.places ∙ ap (λ s. forgotten s (take (c.in-Ok.after.written - 1) (drop 1 c.meet.new.list)) ns) c.other.ensures.value ∙ ap (λ es. forgotten (other o.side) es ns) slice in
    let p = passed (order_figures o) split (splits g.P.Policy.split g.met.P.Policy.as_many g.met.P.Policy.within g.met.P.Policy.full c.args.policy.now).within (λ k price. 0) o.lots (levels_of b) ns c.in-Ok.ensures.shaped.lots c.requires.sound.ascends (λ k price. omega (arith, c.requires.placed k price)) in
    let levels : levels_of c.meet.new.self ≡ m.levels = met.levels in
    record {
      meets = met;
      shaped = subst (λ s. Shaped s (levels_of b)) c.requires.side c.in-Ok.ensures.shaped;
      together = record {
        placed = λ k price. omega (arith, p.placed k price, ap (λ (xs : List Level). held k price xs) levels, ap (λ ms. told (place_of ms k) (other o.side) price) nodes);
        others = λ k price. ap (λ ms. told (place_of ms k) (other (other o.side)) price) nodes ∙ p.others k price;
        count = omega (arith, p.count, ap length nodes, ap resting levels);
      };
      side = c.in-Ok.ensures.side;
      room = c.forget.ensures.room;
      sound = c.forget.ensures.sound;
    }
