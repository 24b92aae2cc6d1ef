-- Orders of the code as those of the plain meter.
use Rattle.std.specs.Prelude.{◌<◌, List, [], ◌∷◌, Ok, Err, Result}
use Rattle.calendar.specs.Calendar.{seconds_in_all}
use Rattle.numbers.specs.declared.procedure.ProcedureResult.{ProcedureResult}
use Rattle.pending.specs.declared.table.PendingTable.{PendingTable}
use Rattle.pending.specs.Tables.{all_tables}
use Rattle.model.specs.Calls.{log_names}
use Rattle.model.specs.Procedures as plain
use Rattle.procedures.specs.declared.order.Order.{Order}
use Rattle.procedures.specs.declared.order.Order.TheVariants.{ClearAll, Clear, Acknowledge, SetClock, ActivateAll, Activate, WithdrawAll, Withdraw, ReadSelf}

abbrev pub meant : Order → plain.Order
meant ClearAll = plain.clear log_names
meant (Clear name) = plain.clear (name ∷ [])
meant (Acknowledge name count) = plain.acknowledge name count
meant (SetClock second) = plain.set_clock second
meant ActivateAll = plain.activate all_tables
meant (Activate table) = plain.activate (table ∷ [])
meant WithdrawAll = plain.withdraw all_tables
meant (Withdraw table) = plain.withdraw (table ∷ [])
meant ReadSelf = plain.read_self

abbrev pub ordered_as : Result Order ProcedureResult → Result plain.Order ProcedureResult
ordered_as (Ok order) = Ok (meant order)
ordered_as (Err e) = Err e

-- An order for the one row that parameters name.
abbrev pub row_ordered : (List PendingTable → plain.Order) → Result PendingTable ProcedureResult → Result plain.Order ProcedureResult
row_ordered order (Ok table) = Ok (order (table ∷ []))
row_ordered order (Err e) = Err e

-- The calendar has the second that an order sets.
abbrev pub Timely : Order → Type 0
Timely ClearAll = Unit {0}
Timely (Clear name) = Unit {0}
Timely (Acknowledge name count) = Unit {0}
Timely (SetClock second) = second < seconds_in_all
Timely ActivateAll = Unit {0}
Timely (Activate table) = Unit {0}
Timely WithdrawAll = Unit {0}
Timely (Withdraw table) = Unit {0}
Timely ReadSelf = Unit {0}
