-- What a level answers, in the terms that all contracts share. No refusal has figures.
use Rattle.std.specs.Prelude.{ℕ, ◌+◌, ◌*◌, cond, List, [], length, Ok, Err, Result, nat_le, nat_lt}
use Rattle.answers.specs.Answer.{Answer, answered, refused}
use Rattle.allocation.specs.Range.{tradable, tested}
use Rattle.allocation.specs.Refusal as allocation
use Rattle.market.specs.declared.resting.Resting.{Resting}
use Rattle.market.specs.Market.{lots_of, capacity}
use Rattle.level.specs.declared.refusal.AddRefusal.{AddRefusal}
use Rattle.level.specs.declared.refusal.AddRefusal.TheVariants.{LotsOutOfRange, Full}
use Rattle.level.specs.declared.refusal.TradeRefusal.{TradeRefusal}
use Rattle.level.specs.declared.refusal.TradeRefusal.TheVariants.{ListTooShort, Policy}

abbrev pub add_answer : {A : Type 0} → Result A AddRefusal → Answer A
add_answer (Ok a) = answered a
add_answer (Err LotsOutOfRange) = refused 96 []
add_answer (Err Full) = refused 97 []

abbrev pub trade_number : TradeRefusal → ℕ
trade_number ListTooShort = 98
trade_number (Policy why) = allocation.number_of why

abbrev pub trade_answer : {A : Type 0} → Result A TradeRefusal → Answer (Unit {0})
trade_answer (Ok a) = answered tt
trade_answer (Err why) = refused (trade_number why) []

-- an order of `lots` joins a queue of `count`
abbrev pub addition : ℕ → ℕ → Answer (Unit {0})
addition lots count = cond (tradable lots) (cond (nat_lt count capacity) (answered tt) (refused 97 [])) (refused 96 [])

-- `left` lots trade with a queue, and the entries go to a list of `long` from `from` on
abbrev pub trading : ℕ → ℕ → ℕ → List Resting → Answer (Unit {0})
trading left from long queue = cond (nat_le (from + 2 * length queue) long) (tested left (lots_of queue) (length queue)) (refused 98 [])
