use Rattle.std.proofs.Common.{◌≡◌}
use Rattle.tables.proofs.Rows.{rows_put}
use Rattle.tables.proofs.views.pending_status.Given as goal

abbrev pub invariant-loop-table : goal.invariant-loop-table
invariant-loop-table l = l.bytes ≡ rows_put l.table-index l.head l.initial.bytes
