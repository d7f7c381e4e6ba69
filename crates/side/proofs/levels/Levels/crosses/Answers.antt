use Rattle.std.proofs.Common.{◌≡◌, ℕ, ◌<◌, ◌&&◌, ltb, leb, List, [], ◌∷◌, Some, sym, ap, ◌∙◌, subst}
use Rattle.std.proofs.lemmas.Bool.{lt-ltb}
use Rattle.std.proofs.lemmas.Option.{none-some}
use Rattle.ordered.specs.Row.{first}
use Rattle.ordered.specs.declared.node.Node.{Node}
use Rattle.ordered.specs.declared.key.price.Price.{Price}
use Rattle.level.specs.declared.level.Level.{Level}
use Rattle.fix.specs.declared.command.Side.TheVariants.{Sell}
use Rattle.side.specs.Shape.{Shaped}
use Rattle.side.proofs.Shapes.{shaped_from}
use Rattle.side.specs.Meeting.{first_within}
use Rattle.side.specs.Row.{seen}
use Rattle.side.proofs.levels.Levels.crosses.Goals as goal

some_within : (left limit : ℕ) (ns : List (Node Price Level)) (n : Node Price Level) → Some n ≡ first ns → 0 < left → leb n.key.0 limit ≡ (ltb 0 left && first_within limit (seen ns))
some_within left limit [] n e more = absurd (none-some n (sym e))
some_within left limit (x ∷ ns) n e more =
    let same : n ≡ x = cc in
    ap (λ (m : Node Price Level). leb m.key.0 limit) same ∙ ap (λ b. b && leb x.key.0 limit) (sym (lt-ltb 0 left more))

pub returns-then-left-gt0-clause-value : goal.returns-then-left-gt0-clause-value
returns-then-left-gt0-clause-value c = some_within c.args.left c.args.limit c.self.inside.held.nodes c.in-Some.best.now c.in-Some.ensures.value c.if-left-gt0.true ∙ ap (λ ls. ltb 0 c.args.left && first_within c.args.limit ls) c.self.view_is

pub returns-in-None-clause-shaped : goal.returns-in-None-clause-shaped
returns-in-None-clause-shaped c = subst (Shaped Sell) c.self.view_is (shaped_from _ _ _ _ c.self.invariant)

pub returns-then-left-gt0-clause-shaped : goal.returns-then-left-gt0-clause-shaped
returns-then-left-gt0-clause-shaped c = subst (Shaped Sell) c.self.view_is (shaped_from _ _ _ _ c.self.invariant)

pub returns-else-left-gt0-clause-shaped : goal.returns-else-left-gt0-clause-shaped
returns-else-left-gt0-clause-shaped c = subst (Shaped Sell) c.self.view_is (shaped_from _ _ _ _ c.self.invariant)
