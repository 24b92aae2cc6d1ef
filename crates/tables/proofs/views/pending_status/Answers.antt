use Rattle.std.proofs.Common.{◌≡◌, get_or, refl, arith}
use Rattle.pending.specs.declared.row.Row.TheVariants.{Empty}
use Rattle.pending.specs.declared.table.PendingTable.TheVariants.{Calendar, Outputs, Override}
use Rattle.pending.specs.Tables.{all_tables}
use Rattle.model.specs.States.{row_of}
use Rattle.tables.proofs.Rows.{length_activation_date, length_row_shown, one_row_put, status_written}
use Rattle.tables.proofs.views.pending_status.Goals as goal

pub returns : goal.returns
returns c =
    let all : c.loop-table.table-index ≡ 3 = omega arith in
    let rows = rw all at c.loop-table.invariant in
    status_written _ _ _ _ _ _ _ _ _ _ _ _ _ _ _ _ (length_activation_date c.args.head.now.activation) (length_row_shown Calendar _) (length_row_shown Outputs _) (length_row_shown Override _) refl
    c.activation_date.ensures c.count_waiting.ensures refl refl refl
    c.put_bytes.ensures.patched c.put8.ensures refl refl rows
