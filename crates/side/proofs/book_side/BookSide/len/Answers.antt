use Rattle.std.proofs.Common.{sym, ◌∙◌}
use Rattle.side.proofs.Shapes.{shaped_priced}
use Rattle.side.proofs.Prices.{resting_priced}
use Rattle.side.proofs.book_side.BookSide.len.Goals as goal

pub returns-clause-value : goal.returns-clause-value
returns-clause-value c = c.orders.ensures.value ∙ sym (resting_priced c.args.self.now.side c.args.self.now.levels)

pub returns-clause-shaped : goal.returns-clause-shaped
returns-clause-shaped c = shaped_priced c.args.self.now.side c.args.self.now.levels c.orders.ensures.shaped
