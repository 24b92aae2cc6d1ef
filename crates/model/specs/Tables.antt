-- The bytes of every table, as a read shows them.
use Rattle.std.specs.Prelude.{ℕ, ◌+◌, cond, List, [], ◌∷◌, ◌++◌, replicate, Some, None, Option}
use Rattle.access.specs.Ready.{content_of}
use Rattle.calendar.specs.Calendar.{date_of, bytes_of}
use Rattle.fields.specs.Words.{part, le_bytes}
use Rattle.memory.specs.Blocks.{Block}
use Rattle.numbers.specs.Names.{result_number}
use Rattle.records.specs.Layouts.{register_bytes}
use Rattle.logs.specs.Tables.{log_table}
use Rattle.pending.specs.declared.row.Row.{Row}
use Rattle.pending.specs.declared.row.Row.TheVariants.{Empty, Waiting}
use Rattle.pending.specs.declared.table.PendingTable.{PendingTable}
use Rattle.pending.specs.Rows.{is_waiting, row_plan_bytes}
use Rattle.pending.specs.Tables.{table_number, all_tables}
use Rattle.directory.specs.declared.entry.View.{View}
use Rattle.directory.specs.declared.entry.View.TheVariants.{PendingStatus, Response, Registers, Clock}
use Rattle.directory.specs.declared.entry.Source.{Source}
use Rattle.directory.specs.declared.entry.Source.TheVariants as source
use Rattle.directory.specs.Geometry.{log_place, staged_length, current_block, pending_block}
use Rattle.head.specs.declared.head.Head.{Head}
use Rattle.head.specs.declared.head.Activation.{Activation}
use Rattle.model.specs.States as state

-- A table of a block is at its start.
abbrev pub utility_table : List Block → List ℕ
utility_table bs = part 40 0 (content_of bs 1)

abbrev pub current_table : PendingTable → List Block → List ℕ
current_table t bs = part (staged_length t) 0 (content_of bs (current_block t))

abbrev pub staged_table : PendingTable → List Block → List ℕ
staged_table t bs = part (staged_length t) 0 (content_of bs (pending_block t))

-- Table 4: the date-time of the last activation, zeros before any; how many rows wait; for each its trigger bytes and its table's number, or zeros.
abbrev pub activation_date : Activation → List ℕ
activation_date a = cond a.happened (bytes_of (date_of a.second)) (replicate 6 0)

abbrev pub waiting_in : List Row → ℕ
waiting_in [] = 0
waiting_in (row ∷ rows) = cond (is_waiting row) 1 0 + waiting_in rows

abbrev pub row_shown : PendingTable → Row → List ℕ
row_shown t Empty = replicate 8 0
row_shown t (Waiting plan due) = row_plan_bytes (Waiting plan due) ++ le_bytes 2 (table_number t)

abbrev pub rows_shown : List PendingTable → Head → List ℕ
rows_shown [] h = []
rows_shown (t ∷ ts) h = row_shown t (state.row_of t h) ++ rows_shown ts h

abbrev pub pending_status_table : Head → List ℕ
pending_status_table h = activation_date h.activation ++ (waiting_in h.rows ∷ rows_shown all_tables h)

-- Table 8: the procedure's number, its sequence byte, its result. Before any it is not ready, and these bytes are not shown.
abbrev pub response_table : Option state.Response → List ℕ
response_table None = replicate 4 0
response_table (Some r) = le_bytes 2 r.procedure ++ (r.sequence ∷ (result_number r.result ∷ []))

abbrev pub view_table : View → ℕ → Option state.Response → Head → List ℕ
view_table PendingStatus clock response h = pending_status_table h
view_table Response clock response h = response_table response
view_table Registers clock response h = register_bytes h.registers
view_table Clock clock response h = bytes_of (date_of clock)

-- The bytes of a table by where they come from. A pending table is its trigger bytes as sent and then the staged bytes.
unfoldable pub table_bytes : Source → ℕ → Option state.Response → Head → List Block → List ℕ
table_bytes (source.Computed view) clock response h bs = view_table view clock response h
table_bytes source.Initiate clock response h bs = []
table_bytes source.Utility clock response h bs = utility_table bs
table_bytes (source.Staged t) clock response h bs = current_table t bs
table_bytes (source.Pending t) clock response h bs = row_plan_bytes (state.row_of t h) ++ staged_table t bs
table_bytes (source.Log name) clock response h bs = log_table (log_place name) (state.log_of name h) bs
