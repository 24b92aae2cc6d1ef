-- The procedures: what their parameters order, and what is then done.
use Rattle.std.specs.Prelude.{ℕ, true, cond, List, [], ◌∷◌, length, drop, Some, None, Ok, Err, Option, Result, ◌==◌, nat_lt, slice_index}
use Rattle.calendar.specs.Calendar.{second_if_real, of_bytes}
use Rattle.fields.specs.Words.{word}
use Rattle.numbers.specs.declared.log.LogName.{LogName}
use Rattle.numbers.specs.declared.procedure.Procedure.{Procedure}
use Rattle.numbers.specs.declared.procedure.Procedure.TheVariants.{ResetList, UpdateLastRead, SetDateTime, ActivateAll, ActivateOne, WithdrawAll, WithdrawOne, TakeSelfRead}
use Rattle.numbers.specs.declared.procedure.ProcedureResult.{ProcedureResult}
use Rattle.numbers.specs.declared.procedure.ProcedureResult.TheVariants.{Completed, InvalidParameter, Conflict, Unrecognized}
use Rattle.numbers.specs.Names.{log_numbered, procedure_numbered}
use Rattle.records.specs.declared.event.Event.TheVariants.{TimeChanged, ProcedureInvoked}
use Rattle.logs.specs.Heads.{acknowledged, cleared}
use Rattle.pending.specs.declared.row.Row.TheVariants.{Empty}
use Rattle.pending.specs.declared.table.PendingTable.{PendingTable}
use Rattle.pending.specs.Rows.{is_waiting}
use Rattle.pending.specs.Tables.{table_of, all_tables}
use Rattle.head.specs.declared.head.Head.{Head}
use Rattle.head.specs.Heads.{with_status}
use Rattle.model.specs.States.{Going, Response, row_of, log_of, set_row, set_log, on_head}
use Rattle.model.specs.Steps.{noted, self_read_taken, each_activated, time_changed}
use Rattle.model.specs.Calls.{log_names}

-- What a procedure orders once its parameters are right.
pub data Order : Type 0 where
  clear : List LogName → Order
  acknowledge : LogName → ℕ → Order
  set_clock : ℕ → Order
  activate : List PendingTable → Order
  withdraw : List PendingTable → Order
  read_self : Order

-- A number of parameter bytes, else the parameters are wrong.
abbrev pub sized : ℕ → List ℕ → Result Order ProcedureResult → Result Order ProcedureResult
sized n parameters order = cond (length parameters == n) order (Err InvalidParameter)

-- Clearing: the byte of a log, or 255 for all.
abbrev pub clear_one : Option LogName → Result Order ProcedureResult
clear_one None = Err InvalidParameter
clear_one (Some name) = Ok (clear (name ∷ []))

abbrev pub clear_order : ℕ → Result Order ProcedureResult
clear_order b = cond (b == 255) (Ok (clear log_names)) (clear_one (log_numbered b))

-- Acknowledging: the byte of a log and a count, which is not above what is unread.
abbrev pub acknowledge_order : Option LogName → ℕ → Head → Result Order ProcedureResult
acknowledge_order None count h = Err InvalidParameter
acknowledge_order (Some name) count h = cond (nat_lt (log_of name h).unread count) (Err InvalidParameter) (Ok (acknowledge name count))

abbrev pub clock_order : Option ℕ → Result Order ProcedureResult
clock_order None = Err InvalidParameter
clock_order (Some s) = Ok (set_clock s)

-- One row: the table's number; in conflict if it does not wait.
abbrev pub row_order : (List PendingTable → Order) → Option PendingTable → Head → Result Order ProcedureResult
row_order order None h = Err InvalidParameter
row_order order (Some t) h = cond (is_waiting (row_of t h)) (Ok (order (t ∷ []))) (Err Conflict)

abbrev pub order_of : Procedure → List ℕ → Head → Result Order ProcedureResult
order_of ResetList p h = sized 1 p (clear_order (slice_index p 0))
order_of UpdateLastRead p h = sized 3 p (acknowledge_order (log_numbered (slice_index p 0)) (word 2 1 p) h)
order_of SetDateTime p h = sized 6 p (clock_order (second_if_real (of_bytes p)))
order_of ActivateAll p h = sized 0 p (Ok (activate all_tables))
order_of ActivateOne p h = sized 2 p (row_order activate (table_of (word 2 0 p)) h)
order_of WithdrawAll p h = sized 0 p (Ok (withdraw all_tables))
order_of WithdrawOne p h = sized 2 p (row_order withdraw (table_of (word 2 0 p)) h)
order_of TakeSelfRead p h = sized 0 p (Ok read_self)

-- The bytes of table 7: the procedure's number, a sequence byte, the parameters.
abbrev pub called_number : List ℕ → ℕ
called_number bytes = word 2 0 bytes

abbrev pub called_sequence : List ℕ → ℕ
called_sequence bytes = slice_index bytes 2

abbrev pub called_parameters : List ℕ → List ℕ
called_parameters bytes = drop 3 bytes

abbrev pub ordered : Option Procedure → List ℕ → Head → Result Order ProcedureResult
ordered None p h = Err Unrecognized
ordered (Some procedure) p h = order_of procedure p h

abbrev pub called : List ℕ → Head → Result Order ProcedureResult
called bytes h = ordered (procedure_numbered (called_number bytes)) (called_parameters bytes) h

-- The clock after an order.
abbrev pub clock_after : ℕ → Order → ℕ
clock_after clock (clear names) = clock
clock_after clock (acknowledge name count) = clock
clock_after clock (set_clock s) = s
clock_after clock (activate tables) = clock
clock_after clock (withdraw tables) = clock
clock_after clock read_self = clock

abbrev pub logs_cleared : List LogName → Head → Head
logs_cleared [] h = h
logs_cleared (name ∷ names) h = logs_cleared names (set_log name (cleared (log_of name h)) h)

abbrev pub rows_withdrawn : List PendingTable → Head → Head
rows_withdrawn [] h = h
rows_withdrawn (t ∷ ts) h = rows_withdrawn ts (set_row t Empty h)

abbrev pub mark_set : Head → Head
mark_set h = with_status (record { started = h.status.started; clock_set = true }) h

-- What an order does, at the clock after it.
unfoldable pub obeyed : ℕ → Order → Going → Going
obeyed clock (clear names) g = on_head (logs_cleared names) g
obeyed clock (acknowledge name count) g = on_head (λ h. set_log name (acknowledged count (log_of name h)) h) g
obeyed clock (set_clock s) g = time_changed clock (noted clock TimeChanged (on_head mark_set g))
obeyed clock (activate tables) g = each_activated is_waiting clock tables g
obeyed clock (withdraw tables) g = on_head (rows_withdrawn tables) g
obeyed clock read_self g = self_read_taken clock g

-- A procedure that was carried out is noted last, with its number.
unfoldable pub carried_out : ℕ → ℕ → Order → Going → Going
carried_out clock number order g = noted clock (ProcedureInvoked number) (obeyed clock order g)

abbrev pub result_of : Result Order ProcedureResult → ProcedureResult
result_of (Ok order) = Completed
result_of (Err r) = r

abbrev pub response_to : List ℕ → ProcedureResult → Response
response_to bytes r = record { procedure = called_number bytes; sequence = called_sequence bytes; result = r }
