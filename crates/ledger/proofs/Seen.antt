-- Rows and tables as the head says them, and that memory shows the same.
use Rattle.std.proofs.Common.{List}
use Rattle.memory.specs.Blocks.{Block}
use Rattle.pending.specs.declared.row.Row.{Row}
use Rattle.pending.specs.declared.row.Row.TheVariants.{Empty, Waiting}
use Rattle.pending.specs.declared.table.PendingTable.{PendingTable}
use Rattle.pending.specs.Triggers.{plan_bytes}
use Rattle.head.specs.declared.head.Head.{Head}
use Rattle.fates.specs.Stagings.{Seen, empty, waiting, Memory}
use Rattle.model.specs.States.{row_of}
use Rattle.model.specs.Tables.{current_table, staged_table}
use Rattle.ledger.specs.Statement.{head_in}

abbrev pub seen_row : PendingTable → Row → List Block → Seen
seen_row t Empty bs = empty
seen_row t (Waiting plan due) bs = waiting (record { trigger = plan_bytes plan; due = due; bytes = staged_table t bs })

abbrev pub seen_in : Head → List Block → Memory
seen_in h bs = record { rows = λ t. seen_row t (row_of t h) bs; tables = λ t. current_table t bs }

abbrev pub said_of : List Block → Memory
said_of bs = seen_in (head_in bs) bs
