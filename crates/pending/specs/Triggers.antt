-- What a staged table waits for, and its six bytes.
use Rattle.std.specs.Prelude.{ℕ, ◌+◌, ◌*◌, ◌/◌, ◌%◌, Bool, true, false, cond, ◌&&◌, List, [], ◌∷◌, Some, None, Option, ◌==◌, nat_lt, slice_index}
use Rattle.calendar.specs.declared.DateTime.{DateTime}
use Rattle.calendar.specs.Calendar.{seconds_in_all, is_real, second_if_real, dated}
use Rattle.pending.specs.declared.trigger.Trigger.{Trigger}
use Rattle.pending.specs.declared.trigger.Trigger.TheVariants.{Absolute, Relative, OnCommand}
use Rattle.pending.specs.declared.trigger.Due.{Due}
use Rattle.pending.specs.declared.trigger.Due.TheVariants.{At, ByCommand}
use Rattle.pending.specs.declared.plan.Plan.{Plan}

-- The numbers of the three kinds.
abbrev pub absolute_kind : ℕ
absolute_kind = 0

abbrev pub relative_kind : ℕ
relative_kind = 1

abbrev pub on_command_kind : ℕ
on_command_kind = 2

abbrev pub kind_of : Trigger → ℕ
kind_of (Absolute year month day hour minute) = absolute_kind
kind_of (Relative weeks days hours minutes seconds) = relative_kind
kind_of OnCommand = on_command_kind

-- An absolute trigger names a real date-time, at second 0.
abbrev pub is_well_formed : Trigger → Bool
is_well_formed (Absolute year month day hour minute) = is_real (dated year month day hour minute 0)
is_well_formed (Relative weeks days hours minutes seconds) = true
is_well_formed OnCommand = true

-- What an absolute trigger names: a date-time, and its second if the calendar has it.
abbrev pub date_named : Trigger → Option DateTime
date_named (Absolute year month day hour minute) = Some (dated year month day hour minute 0)
date_named (Relative weeks days hours minutes seconds) = None
date_named OnCommand = None

abbrev pub second_named : Trigger → Option ℕ
second_named (Absolute year month day hour minute) = second_if_real (dated year month day hour minute 0)
second_named (Relative weeks days hours minutes seconds) = None
second_named OnCommand = None

-- The seconds of a relative trigger.
abbrev pub span_of : ℕ → ℕ → ℕ → ℕ → ℕ → ℕ
span_of weeks days hours minutes seconds = (((weeks * 7 + days) * 24 + hours) * 60 + minutes) * 60 + seconds

-- When a table that is staged at a clock takes force: at the second that is named, or a span later than the clock if the calendar has that second.
abbrev pub at_second : Option ℕ → Option Due
at_second None = None
at_second (Some second) = Some (At second)

abbrev pub second_if_in_range : ℕ → Option ℕ
second_if_in_range second = cond (nat_lt second seconds_in_all) (Some second) None

abbrev pub due_when : Trigger → ℕ → Option Due
due_when (Absolute year month day hour minute) clock = at_second (second_if_real (dated year month day hour minute 0))
due_when (Relative weeks days hours minutes seconds) clock = at_second (second_if_in_range (clock + span_of weeks days hours minutes seconds))
due_when OnCommand clock = Some ByCommand

-- The second that a row may have beside its trigger: the one that is named, any of the calendar, and 0 for a procedure.
abbrev pub is_second : Option ℕ → ℕ → Bool
is_second None second = false
is_second (Some named) second = named == second

abbrev pub second_agrees : Trigger → ℕ → Bool
second_agrees (Absolute year month day hour minute) second = is_second (second_if_real (dated year month day hour minute 0)) second
second_agrees (Relative weeks days hours minutes seconds) second = nat_lt second seconds_in_all
second_agrees OnCommand second = second == 0

-- When such a row is due.
abbrev pub due_of : Trigger → ℕ → Due
due_of (Absolute year month day hour minute) second = At second
due_of (Relative weeks days hours minutes seconds) second = At second
due_of OnCommand second = ByCommand

-- The second in which it takes force, and 0 where a procedure says so.
abbrev pub second_of_due : Due → ℕ
second_of_due (At second) = second
second_of_due ByCommand = 0

-- The five bytes behind the first.
abbrev pub parts_of : Trigger → List ℕ
parts_of (Absolute year month day hour minute) = year ∷ month ∷ day ∷ hour ∷ minute ∷ []
parts_of (Relative weeks days hours minutes seconds) = weeks ∷ days ∷ hours ∷ minutes ∷ seconds ∷ []
parts_of OnCommand = 0 ∷ 0 ∷ 0 ∷ 0 ∷ 0 ∷ []

-- Six bytes: the kind in bits 0 to 3 and "self-read first" in bit 4, then the five.
abbrev pub plan_bytes : Plan → List ℕ
plan_bytes p = (kind_of p.trigger + cond p.self_read 16 0) ∷ parts_of p.trigger

-- The trigger of a kind and five bytes, and none if they are not well formed.
abbrev pub if_well_formed : Trigger → Option Trigger
if_well_formed t = cond (is_well_formed t) (Some t) None

abbrev pub on_command_if_zeros : ℕ → ℕ → ℕ → ℕ → ℕ → Option Trigger
on_command_if_zeros a b c d e = cond (a == 0 && (b == 0 && (c == 0 && (d == 0 && e == 0)))) (Some OnCommand) None

abbrev pub trigger_of : ℕ → ℕ → ℕ → ℕ → ℕ → ℕ → Option Trigger
trigger_of kind a b c d e =
    cond (kind == absolute_kind) (if_well_formed (Absolute a b c d e))
    (cond (kind == relative_kind) (Some (Relative a b c d e))
    (cond (kind == on_command_kind) (on_command_if_zeros a b c d e) None))

-- The plan of six bytes, and none if they are not well formed.
abbrev pub with_self_read : Bool → Option Trigger → Option Plan
with_self_read self_read None = None
with_self_read self_read (Some t) = Some (record { trigger = t; self_read = self_read })

abbrev pub plan_of : List ℕ → Option Plan
plan_of b =
    cond (nat_lt (slice_index b 0) 32)
    (with_self_read (slice_index b 0 / 16 == 1) (trigger_of (slice_index b 0 % 16) (slice_index b 1) (slice_index b 2) (slice_index b 3) (slice_index b 4) (slice_index b 5)))
    None
