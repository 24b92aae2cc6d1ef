use Rattle.std.proofs.Common.{◌*◌, Bool, take}
use Rattle.pending.specs.declared.row.Row.{Row}
use Rattle.pending.specs.Tables.{all_tables}
use Rattle.model.specs.Steps.{each_activated}
use Rattle.steps.specs.Work.{Grows, Did, Computes}
use Rattle.steps.proofs.work.Work.activate_each.Given as goal

abbrev pub invariant-loop-table : goal.invariant-loop-table
invariant-loop-table g l =
    ((test : Row → Bool) → Computes (goal.F-post g l.chooses) test → Did (each_activated test l.fn.self.clock (take l.table-index all_tables)) l.fn.self l.any l.self)
    × Grows (3 * l.table-index) l.fn.self.head l.self.head
