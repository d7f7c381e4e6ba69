-- Commands by their figures.
use Rattle.std.specs.Prelude.{ℕ}
use Rattle.fix.specs.declared.command.Side.{Side}
use Rattle.fix.specs.declared.command.Command as code
use Rattle.fix.specs.declared.command.Command.TheVariants as cases
use Rattle.fix.specs.declared.command.NewOrder as code_order
use Rattle.fix.specs.declared.command.Cancel as code_cancel
use Rattle.fix.specs.Range.{Within, largest_member, largest_number, largest_lots, largest_price}

pub record NewOrder : Type 0 where
  pub member : ℕ
  pub number : ℕ
  pub order : ℕ
  pub side : Side
  pub lots : ℕ
  pub price : ℕ

pub record Cancel : Type 0 where
  pub member : ℕ
  pub number : ℕ
  pub order : ℕ

pub data Command : Type 0 where
  new : NewOrder → Command
  cancel : Cancel → Command

abbrev pub Valid : Command → Type 0
Valid (new o) =
    Within largest_member o.member × Within largest_number o.number × Within largest_number o.order × Within largest_lots o.lots × Within largest_price o.price
Valid (cancel o) = Within largest_member o.member × Within largest_number o.number × Within largest_number o.order

-- the figures of the code's commands
abbrev pub order_figures : code_order.NewOrder → NewOrder
order_figures o = record { member = o.member; number = o.number; order = o.order; side = o.side; lots = o.lots; price = o.price }

abbrev pub cancel_figures : code_cancel.Cancel → Cancel
cancel_figures o = record { member = o.member; number = o.number; order = o.order }

abbrev pub figures : code.Command → Command
figures (cases.New o) = new (order_figures o)
figures (cases.Cancel o) = cancel (cancel_figures o)
