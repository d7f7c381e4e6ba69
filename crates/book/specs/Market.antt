-- A book as a market.
use Rattle.side.specs.Levels.{levels_of}
use Rattle.market.specs.Market.{Market}
use Rattle.book.specs.declared.book.Book.{Book}

abbrev pub market_of : Book → Market
market_of b = record { buys = levels_of b.buys; sells = levels_of b.sells }
