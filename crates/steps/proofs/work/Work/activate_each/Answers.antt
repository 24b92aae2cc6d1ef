use Rattle.std.proofs.Common.{◌≡◌, get_or, sym, ap, ◌∙◌, arith, rules}
use Rattle.pending.specs.declared.row.Row.TheVariants.{Empty}
use Rattle.pending.specs.declared.table.PendingTable.TheVariants.{Calendar}
use Rattle.pending.specs.Rows.{is_due, is_waiting}
use Rattle.pending.specs.Tables.{all_tables}
use Rattle.model.specs.States.{row_of}
use Rattle.model.specs.Steps.{time_changed}
use Rattle.steps.proofs.Steady.{did_more, did_chosen, did_passed, did_quiet}
use Rattle.steps.proofs.work.Work.activate_each.Goals.{then-chooses, else-chooses}
use Rattle.steps.proofs.work.Work.activate_each.Goals as goal

pub loop-table-preserved : goal.loop-table-preserved
loop-table-preserved g c =
    let s = c.args.self.now in
    let a = c.loop-table.self in
    let i = c.loop-table.table-index in
    let table = get_or all_tables i Calendar in
    let row : get_or c.self.inside.head.rows c.index.result Empty ≡ row_of table a.head = rw (c.index.ensures.value, ← c.self.view_is) in (
      λ test computes.
          let tested : c.chooses.result ≡ test (row_of table a.head) = computes _ _ c.chooses.ensures ∙ ap test row in
          let before = c.loop-table.invariant.0 test computes in
          elim c.if-chooses.branch [
            | then-chooses w ↦ rw (w.self-is, w.any-is) (did_more test i Calendar s (omega arith) before (did_chosen test table a (sym tested ∙ w.if-chooses.true) w.activate-any.ensures.did))
            | else-chooses w ↦ rw (w.self-is, w.any-is) (did_quiet _ s c.loop-table.any (did_more test i Calendar s (omega arith) before (did_passed test table a (sym tested ∙ w.if-chooses.false))))
          ],
      elim c.if-chooses.branch [ then-chooses w ↦ search rules | else-chooses w ↦ search rules ],
    )

-- the loop has come to the end of the three tables
pub returns : goal.returns
unfolding time_changed
returns g c =
    let all : c.loop-table.table-index ≡ 3 = omega arith in
    record {
      waiting = λ computes. rw all at (c.loop-table.invariant.0 is_waiting computes);
      due = λ computes. rw all at (c.loop-table.invariant.0 (λ row. is_due row c.args.self.now.clock) computes);
      counts = search rules;
    }
