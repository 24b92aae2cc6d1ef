-- An order and the setting of the clock, step after step.
use Rattle.std.proofs.Common.{◌≡◌, ℕ}
use Rattle.records.specs.declared.event.Event.TheVariants.{TimeChanged, ProcedureInvoked}
use Rattle.model.specs.States.{on_head}
use Rattle.model.specs.Steps.{noted, time_changed}
use Rattle.model.specs.Procedures.{Order, mark_set, obeyed, carried_out}
use Rattle.steps.specs.Work.{State, after}
use Rattle.steps.proofs.Steady.{after_both, noted_steady, time_steady}

pub clock_set_on : (s : State) {a b c : State} → a ≡ after (on_head mark_set) s → b ≡ after (noted a.clock TimeChanged) a → c ≡ after (time_changed b.clock) b → c ≡ after (λ g. time_changed s.clock (noted s.clock TimeChanged (on_head mark_set g))) s
clock_set_on s one two three = rw (three, two, one) (after_both (λ g. noted s.clock TimeChanged (on_head mark_set g)) (time_changed s.clock) (time_steady s.clock) s)

pub carried_on : (s : State) (number : ℕ) (order : Order) {a b : State} → a ≡ after (obeyed s.clock order) s → b ≡ after (noted a.clock (ProcedureInvoked number)) a → b ≡ after (carried_out s.clock number order) s
unfolding carried_out
carried_on s number order one two = rw (two, one) (after_both (obeyed s.clock order) (noted s.clock (ProcedureInvoked number)) (noted_steady s.clock (ProcedureInvoked number)) s)
