-- The row in which a staged table waits.
use Rattle.std.specs.Prelude.{ℕ, ◌+◌, ◌≤◌, Bool, true, false, ◌&&◌, List, [], ◌∷◌, nat_le}
use Rattle.calendar.specs.Calendar.{second_of, dated}
use Rattle.pending.specs.declared.trigger.Trigger.{Trigger}
use Rattle.pending.specs.declared.trigger.Trigger.TheVariants.{Absolute, Relative, OnCommand}
use Rattle.pending.specs.declared.trigger.Due.{Due}
use Rattle.pending.specs.declared.trigger.Due.TheVariants.{At, ByCommand}
use Rattle.pending.specs.declared.row.Row.{Row}
use Rattle.pending.specs.declared.row.Row.TheVariants.{Empty, Waiting}
use Rattle.pending.specs.Triggers.{is_well_formed, second_agrees, span_of, plan_bytes}

abbrev pub is_waiting : Row → Bool
is_waiting Empty = false
is_waiting (Waiting plan due) = true

-- A row is due from its second on, and one that waits for a procedure never is.
abbrev pub is_reached : Due → ℕ → Bool
is_reached (At second) clock = nat_le second clock
is_reached ByCommand clock = false

abbrev pub is_due : Row → ℕ → Bool
is_due Empty clock = false
is_due (Waiting plan due) clock = is_reached due clock

-- The same in words: something waits, for a second that the clock has reached.
abbrev pub HasComeDue : Row → ℕ → Type 0
HasComeDue Empty clock = ⊥
HasComeDue (Waiting plan (At second)) clock = second ≤ clock
HasComeDue (Waiting plan ByCommand) clock = ⊥

-- The six trigger bytes of a row.
abbrev pub row_plan_bytes : Row → List ℕ
row_plan_bytes Empty = 0 ∷ 0 ∷ 0 ∷ 0 ∷ 0 ∷ 0 ∷ []
row_plan_bytes (Waiting plan due) = plan_bytes plan

-- A clock reaches what a trigger names, if it was staged at another clock.
abbrev pub Reaches : Trigger → ℕ → ℕ → Type 0
Reaches (Absolute year month day hour minute) staged clock = second_of (dated year month day hour minute 0) ≤ clock
Reaches (Relative weeks days hours minutes seconds) staged clock = staged + span_of weeks days hours minutes seconds ≤ clock
Reaches OnCommand staged clock = ⊥

-- A waiting row is well formed if its trigger is, and its second agrees with it.
abbrev pub due_agrees : Trigger → Due → Bool
due_agrees (Absolute year month day hour minute) (At second) = second_agrees (Absolute year month day hour minute) second
due_agrees (Absolute year month day hour minute) ByCommand = false
due_agrees (Relative weeks days hours minutes seconds) (At second) = second_agrees (Relative weeks days hours minutes seconds) second
due_agrees (Relative weeks days hours minutes seconds) ByCommand = false
due_agrees OnCommand (At second) = false
due_agrees OnCommand ByCommand = true

abbrev pub is_row_formed : Row → Bool
is_row_formed Empty = true
is_row_formed (Waiting plan due) = is_well_formed plan.trigger && due_agrees plan.trigger due
