use Rattle.std.proofs.Common.{◌≡◌, ℕ, List, replicate, sym, refl, ◌∙◌}
use Rattle.fields.specs.Words.{le_bytes}
use Rattle.fields.specs.Patches.{patch}
use Rattle.records.proofs.Fills.{patch_two}
use Rattle.pending.specs.Rows.{row_plan_bytes}
use Rattle.pending.specs.Tables.{table_number}
use Rattle.tables.proofs.Rows.{length_row_plan, waiting_shown}
use Rattle.tables.proofs.views.row_shown.Goals as goal

pub returns-then-is_waiting : goal.returns-then-is_waiting
returns-then-is_waiting c =
    let row = c.args.row in
    let number : List ℕ = le_bytes 2 (table_number c.args.table) in
    let written : c.put16.new.bytes ≡ patch 6 number (patch 0 (row_plan_bytes row) (replicate 8 0)) = cc in
    written ∙ patch_two 6 (row_plan_bytes row) number (replicate 8 0) (length_row_plan row) refl ∙ waiting_shown c.args.table row (sym c.if-is_waiting.ensures)
