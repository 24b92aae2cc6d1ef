use Rattle.std.proofs.Common.{sym, ap, ◌∙◌}
use Rattle.model.specs.States.{Going}
use Rattle.steps.specs.Work.{State, going}
use Rattle.steps.proofs.Speaking.{silent_tick}
use Rattle.steps.proofs.Steady.{ticked_on}
use Rattle.steps.proofs.Growth.{grown_on}
use Rattle.steps.proofs.work.Work.pass_second.Goals as goal

pub returns : goal.returns
returns g c =
    let s = c.args.self.now in
    let one = c.change_time-activated.ensures in
    let two = c.read_if_scheduled-scheduled.ensures in
    let three = c.read_interval-interval.ensures in
    let all = ticked_on s one.did two.did three.did in
    record {
      did = all;
      counts = grown_on (grown_on one.counts two.counts) three.counts;
      still = λ none.
          let same = silent_tick s.clock (going s) (sym all.any ∙ none) in
          (ap (λ (x : State). x.head) all.state ∙ ap (λ (x : Going). x.head) same, ap (λ (x : State). x.blocks) all.state ∙ ap (λ (x : Going). x.blocks) same);
    }
