use Rattle.side.proofs.Shapes.{shaped_priced}
use Rattle.side.proofs.book_side.BookSide.meet.Goals as goal

pub returns-clause-shaped : goal.returns-clause-shaped
returns-clause-shaped g c = shaped_priced c.args.self.now.side c.args.self.now.levels c.meet.ensures.shaped

pub invariant_of-self : goal.invariant_of-self
invariant_of-self g c = record { shaped = shaped_priced c.args.self.now.side c.meet.new.self c.meet.ensures.still }
