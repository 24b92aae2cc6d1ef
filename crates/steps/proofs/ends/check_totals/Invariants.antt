use Rattle.std.proofs.Common.{◌≡◌, ◌<◌, ◌≤◌, drop}
use Rattle.numbers.specs.declared.log.LogName.TheVariants.{History, SelfReads, LoadProfile}
use Rattle.model.specs.States.{log_of}
use Rattle.model.specs.Calls.{limit_verdict, log_names}
use Rattle.steps.proofs.ends.check_totals.Given as goal

abbrev pub invariant-loop-name : goal.invariant-loop-name
invariant-loop-name l =
    (limit_verdict (drop l.name-index log_names) l.head ≡ limit_verdict log_names l.head)
    × (0 < l.name-index → (log_of History l.head).total ≤ 4000000000)
    × (1 < l.name-index → (log_of SelfReads l.head).total ≤ 4000000000)
    × (2 < l.name-index → (log_of LoadProfile l.head).total ≤ 4000000000)
