use Rattle.std.proofs.Common.{subst}
use Rattle.fix.specs.declared.command.Side.TheVariants.{Sell}
use Rattle.side.specs.Shape.{Shaped}
use Rattle.side.proofs.Shapes.{shaped_from}
use Rattle.side.proofs.levels.Levels.orders.Goals as goal

pub returns-clause-shaped : goal.returns-clause-shaped
returns-clause-shaped c = subst (Shaped Sell) c.self.view_is (shaped_from _ _ _ _ c.self.invariant)
