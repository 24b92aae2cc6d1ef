-- The entries that a call brings, in turn, from the call and the ledger alone.
use Rattle.std.specs.Prelude.{◌≡◌, ℕ, ◌+◌, ◌/◌, ◌%◌, Bool, cond, ◌&&◌, ◌||◌, List, [], ◌∷◌, ◌++◌, map, ◌==◌, slice_index}
use Rattle.calendar.specs.declared.DateTime.{DateTime}
use Rattle.calendar.specs.Calendar.{second_of, date_of, of_bytes, weekday_of}
use Rattle.fields.specs.Words.{word}
use Rattle.records.specs.declared.event.Event.{Event}
use Rattle.records.specs.declared.event.Event.TheVariants.{PowerUp, TimeChanged, TableWritten, ProcedureInvoked, PendingActivated, SelfReadTaken}
use Rattle.pending.specs.declared.table.PendingTable.{PendingTable}
use Rattle.pending.specs.declared.table.PendingTable.TheVariants.{Calendar, Outputs, Override}
use Rattle.pending.specs.declared.trigger.Due.{Due}
use Rattle.pending.specs.Tables.{table_number}
use Rattle.fates.specs.Stagings.{Pending, Account, any_due, due_by, time_changed, waiting_in}
use Rattle.fates.specs.Stagings as fate
use Rattle.model.specs.States.{Recorded}
use Rattle.model.specs.States as state
use Rattle.ledger.specs.Meanings.{has_effect, Meaning, nothing, started, ticked, wrote, staged_for, called, meant, clock_after, named}
use Rattle.ledger.specs.Ledger.{Fed, Ledger, noted}

-- An entry without its registers and status: an event with its argument, a self-read or an interval record, each with its date-time.
pub data Outline : Type 0 where
  event : DateTime → Event → Outline
  self_read : DateTime → Outline
  interval : DateTime → Outline

abbrev pub outline_of : Recorded → Outline
outline_of (state.event r) = event r.at r.event
outline_of (state.self_read r) = self_read r.at
outline_of (state.interval r) = interval r.at

-- A self-read, and then its event.
abbrev pub reading : ℕ → List Outline
reading clock = self_read (date_of clock) ∷ (event (date_of clock) SelfReadTaken ∷ [])

-- One that takes force: the self-read first, if bit 4 of its first trigger byte asks for it, and then the event with the table's number.
abbrev pub is_flagged : Pending → Bool
is_flagged p = slice_index p.trigger 0 / 16 % 2 == 1

abbrev pub activation : ℕ → PendingTable → Pending → List Outline
activation clock t p = cond (is_flagged p) (reading clock) [] ++ event (date_of clock) (PendingActivated (table_number t)) ∷ []

abbrev pub activations_of : (Due → Bool) → ℕ → PendingTable → List Pending → List Outline
activations_of test clock t [] = []
activations_of test clock t (p ∷ ps) = cond (test p.due) (activation clock t p) [] ++ activations_of test clock t ps

-- Those of a table that wait, and those of all tables, in directory order.
abbrev pub activations_in : (Due → Bool) → ℕ → Account → PendingTable → List Outline
activations_in test clock a t = activations_of test clock t (waiting_in t a.stagings)

abbrev pub all_activations : (Due → Bool) → ℕ → Account → List Outline
all_activations test clock a = activations_in test clock a Calendar ++ (activations_in test clock a Outputs ++ activations_in test clock a Override)

-- The calendar asks for a self-read: at second 0 of its hour and minute, every day, or weekly on its weekday.
abbrev pub asks_reading : List ℕ → ℕ → Bool
asks_reading calendar s =
    ((date_of s).second == 0 && ((date_of s).minute == slice_index calendar 3 && (date_of s).hour == slice_index calendar 2))
    && (slice_index calendar 0 % 2 == 1 || (slice_index calendar 0 / 2 % 2 == 1 && weekday_of (s / 86400) == slice_index calendar 1))

-- What a procedure brings before its own event.
abbrev pub joined : List (List Outline) → List Outline
joined [] = []
joined (x ∷ xs) = x ++ joined xs

abbrev pub procedure_brings : Ledger → ℕ → List ℕ → List Outline
procedure_brings l number parameters =
    cond (number == 10) (event (date_of (second_of (of_bytes parameters))) TimeChanged ∷ all_activations (due_by (second_of (of_bytes parameters))) (second_of (of_bytes parameters)) l.account)
    (cond (number == 12) (all_activations any_due l.clock l.account)
    (cond (number == 13) (joined (named (word 2 0 parameters) (activations_in any_due l.clock l.account)))
    (cond (number == 20) (reading l.clock) [])))

-- A start: its event, then what is due. A tick: what is due, the self-read that the calendar then in force asks for, and an interval record at each quarter of an hour.
-- An accepted write: its event with the number written. A procedure: what it brings, and its own event last.
abbrev pub brings : Ledger → Meaning → List Outline
brings l nothing = []
brings l (started s) = event (date_of s) PowerUp ∷ all_activations (due_by s) s l.account
brings l (ticked s) =
    all_activations (due_by s) s l.account
    ++ (cond (asks_reading ((fate.noted l.account (time_changed s)).tables Calendar) s) (reading s) [] ++ cond (s % 900 == 0) (interval (date_of s) ∷ []) [])
brings l (wrote table offset bytes) = event (date_of l.clock) (TableWritten table) ∷ []
brings l (staged_for n bytes) = event (date_of l.clock) (TableWritten (4096 + n)) ∷ []
brings l (called number parameters) = procedure_brings l number parameters ++ event (date_of (clock_after l.clock (called number parameters))) (ProcedureInvoked number) ∷ []

-- A call recorded what it had to, in turn, and a call without effect nothing.
abbrev pub Brings : Ledger → Fed → Type 0
Brings l f = map outline_of f.entries ≡ cond (has_effect f.answer) (brings l (meant l.clock f.call)) []

abbrev pub AllBring : Ledger → List Fed → Type 0
AllBring l [] = Unit {0}
AllBring l (f ∷ fs) = Brings l f × AllBring (noted l f) fs
