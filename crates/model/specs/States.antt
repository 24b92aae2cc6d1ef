-- The plain meter: what it is between calls, and as a call works on it.
use Rattle.std.specs.Prelude.{ℕ, ◌-◌, List, [], Option, slice_index_or}
use Rattle.access.specs.Ready.{content_of, stored}
use Rattle.memory.specs.Blocks.{Block}
use Rattle.numbers.specs.declared.log.LogName.{LogName}
use Rattle.numbers.specs.declared.procedure.ProcedureResult.{ProcedureResult}
use Rattle.numbers.specs.Names.{log_number}
use Rattle.records.specs.declared.history.EventRecord.{EventRecord}
use Rattle.records.specs.declared.self_read.SelfRead.{SelfRead}
use Rattle.records.specs.declared.interval.Interval.{Interval}
use Rattle.logs.specs.declared.head.LogHead.{LogHead}
use Rattle.logs.specs.Heads.{empty_head}
use Rattle.pending.specs.declared.row.Row.{Row}
use Rattle.pending.specs.declared.row.Row.TheVariants.{Empty}
use Rattle.pending.specs.declared.table.PendingTable.{PendingTable}
use Rattle.pending.specs.Tables.{table_index}
use Rattle.head.specs.declared.head.Head.{Head}
use Rattle.head.specs.Heads.{decode_head, encode_head, with_row, with_log}

-- What a procedure left: its number and sequence byte as they were sent, and the result.
pub record Response : Type 0 where
  pub procedure : ℕ
  pub sequence : ℕ
  pub result : ProcedureResult

-- A started meter: the blocks, the clock, and the last response since it was started.
pub record Meter : Type 0 where
  pub blocks : List Block
  pub clock : ℕ
  pub response : Option Response

-- An entry that a call records, of one of the three logs.
pub data Recorded : Type 0 where
  event : EventRecord → Recorded
  self_read : SelfRead → Recorded
  interval : Interval → Recorded

-- A call at work: what block 0 says, the blocks, and the entries recorded so far, in turn.
pub record Going : Type 0 where
  pub head : Head
  pub blocks : List Block
  pub entries : List Recorded

-- Block 0 is read as the call begins, and written as it ends if it changed the memory.
abbrev pub begun : List Block → Going
begun bs = record { head = decode_head (content_of bs 0); blocks = bs; entries = [] }

unfoldable pub ended : Going → List Block
ended g = stored g.blocks 0 (encode_head g.head)

-- The rows by table and the log heads by name.
abbrev pub row_of : PendingTable → Head → Row
row_of t h = slice_index_or h.rows (table_index t) Empty

abbrev pub log_of : LogName → Head → LogHead
log_of name h = slice_index_or h.logs (log_number name - 1) empty_head

-- A head with one row or one log head replaced.
abbrev pub set_row : PendingTable → Row → Head → Head
set_row t row h = with_row (table_index t) row h

abbrev pub set_log : LogName → LogHead → Head → Head
set_log name log h = with_log (log_number name - 1) log h

-- The call goes on with another head, or with other blocks.
abbrev pub on_head : (Head → Head) → Going → Going
on_head f g = record { head = f g.head; blocks = g.blocks; entries = g.entries }

abbrev pub on_blocks : (List Block → List Block) → Going → Going
on_blocks f g = record { head = g.head; blocks = f g.blocks; entries = g.entries }
