use Rattle.std.proofs.Common.{◌≡◌, rules}
use Rattle.model.specs.Steps.{read_first}
use Rattle.steps.specs.Work.{after}
use Rattle.steps.proofs.Steady.{forced_on}
use Rattle.steps.proofs.work.Work.take_force.Goals.{then-plan, else-plan}
use Rattle.steps.proofs.work.Work.take_force.Goals as goal

pub returns-clause-after : goal.returns-clause-after
returns-clause-after g c =
    let s = c.args.self.now in
    let read : c.if-plan.self ≡ after (read_first c.args.plan.self_read s.clock) s = elim c.if-plan.branch [ then-plan w ↦ search rules | else-plan w ↦ search rules ] in
    forced_on c.args.table c.args.plan.self_read s read c.bring_in.ensures c.spend_row.ensures.after (search rules)
