-- What a side of a book holds.
use Rattle.std.specs.Prelude.{List}
use Rattle.fix.specs.declared.command.Side.{Side}
use Rattle.market.specs.Market.{Level}
use Rattle.side.specs.declared.book_side.BookSide.{BookSide}
use Rattle.side.specs.Rank.{priced}

-- whether it is the side of the buys or of the sells
abbrev pub side_of : BookSide → Side
side_of b = b.side

-- its levels, best first
abbrev pub levels_of : BookSide → List Level
levels_of b = priced b.side b.levels
