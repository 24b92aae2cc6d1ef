-- What a call meant, from its own arguments: no memory is read.
use Rattle.std.specs.Prelude.{ℕ, ◌+◌, ◌-◌, ◌*◌, ◌%◌, Bool, true, false, cond, List, [], ◌∷◌, length, take, drop, Some, None, Ok, Err, Option, Result, ◌==◌, nat_le, slice_index}
use Rattle.fields.specs.Words.{part, word, big_word}
use Rattle.calendar.specs.Calendar.{second_of, dated, of_bytes}
use Rattle.numbers.specs.declared.procedure.ProcedureResult.{ProcedureResult}
use Rattle.numbers.specs.declared.procedure.ProcedureResult.TheVariants.{Completed, InvalidParameter, Conflict, Unrecognized}
use Rattle.refusals.specs.declared.fault.MeterFault.{MeterFault}
use Rattle.refusals.specs.declared.fault.ServiceFault.{ServiceFault}
use Rattle.logs.specs.Deeds.{Deed, acknowledging, clearing}
use Rattle.pending.specs.declared.table.PendingTable.{PendingTable}
use Rattle.pending.specs.declared.table.PendingTable.TheVariants.{Calendar, Outputs, Override}
use Rattle.pending.specs.declared.trigger.Due.{Due}
use Rattle.pending.specs.declared.trigger.Due.TheVariants.{At, ByCommand}
use Rattle.fates.specs.Stagings.{Pending, Happening, staged, written, withdrew_all, withdrew, activated_all, activated, time_changed}

-- The calls of a life after its format. A service has a key, a request, an answer buffer and a scratch.
pub data Call : Type 0 where
  start : ℕ → Call
  tick : Call
  energy : ℕ → Call
  serve : ℕ → List ℕ → List ℕ → List ℕ → Call
  stop : Call

-- What was answered; to a service the bytes of the answer, and the procedure's result if one was called.
pub data Answer : Type 0 where
  plain : Result (Unit {0}) MeterFault → Answer
  served : Result (List ℕ) ServiceFault → Option ProcedureResult → Answer

-- A refused call has no effect, and neither has a procedure with a result that is not 0.
abbrev pub is_done : Option ProcedureResult → Bool
is_done None = true
is_done (Some Completed) = true
is_done (Some InvalidParameter) = false
is_done (Some Conflict) = false
is_done (Some Unrecognized) = false

abbrev pub has_effect : Answer → Bool
has_effect (plain (Ok x)) = true
has_effect (plain (Err e)) = false
has_effect (served (Ok bytes) result) = is_done result
has_effect (served (Err e) result) = false

-- What a request writes: bytes to a table, from an offset on. 40: table, count, bytes, check. 4F: table, offset, count, bytes, check.
pub data Written : Type 0 where
  reads_only : Written
  bytes_to : ℕ → ℕ → List ℕ → Written

abbrev pub written_by : List ℕ → Written
written_by request =
    cond (slice_index request 0 == 0x40) (bytes_to (big_word 2 1 request) 0 (part (length request - 6) 5 request))
    (cond (slice_index request 0 == 0x4F) (bytes_to (big_word 2 1 request) (big_word 3 3 request) (part (length request - 9) 8 request)) reads_only)

-- A start or a tick to a second; bytes for a table, from an offset on; trigger bytes and a new table for the table n; a procedure with its parameters.
pub data Meaning : Type 0 where
  nothing : Meaning
  started : ℕ → Meaning
  ticked : ℕ → Meaning
  wrote : ℕ → ℕ → List ℕ → Meaning
  staged_for : ℕ → List ℕ → Meaning
  called : ℕ → List ℕ → Meaning

-- Table 7 calls a procedure: its number, a sequence byte, the parameters. The number 4096 + n stages the table n.
abbrev pub write_means : Written → Meaning
write_means reads_only = nothing
write_means (bytes_to table offset bytes) =
    cond (table == 7) (called (word 2 0 bytes) (drop 3 bytes)) (cond (nat_le 4096 table) (staged_for (table - 4096) bytes) (wrote table offset bytes))

abbrev pub meant : ℕ → Call → Meaning
meant clock (start second) = started second
meant clock tick = ticked (clock + 1)
meant clock (energy wh) = nothing
meant clock (serve key request answer scratch) = write_means (written_by request)
meant clock stop = nothing

-- The clock goes by starts, ticks and clock settings.
abbrev pub clock_after : ℕ → Meaning → ℕ
clock_after clock nothing = clock
clock_after clock (started second) = second
clock_after clock (ticked second) = second
clock_after clock (wrote table offset bytes) = clock
clock_after clock (staged_for n bytes) = clock
clock_after clock (called number parameters) = cond (number == 10) (second_of (of_bytes parameters)) clock

-- Something about the table with a number, if that table can be staged.
abbrev pub named : {X : Type 0} → ℕ → (PendingTable → X) → List X
named n f = cond (n == 54) (f Calendar ∷ []) (cond (n == 2053) (f Outputs ∷ []) (cond (n == 2095) (f Override ∷ []) []))

-- When a staging takes force. Kind 0 names a date-time, at second 0; kind 1 weeks, days, hours, minutes and seconds from the clock on; any other waits for a procedure.
abbrev pub due_named : ℕ → List ℕ → Due
due_named clock t =
    cond (slice_index t 0 % 16 == 0) (At (second_of (dated (slice_index t 1) (slice_index t 2) (slice_index t 3) (slice_index t 4) (slice_index t 5) 0)))
    (cond (slice_index t 0 % 16 == 1) (At (clock + slice_index t 1 * 604800 + slice_index t 2 * 86400 + slice_index t 3 * 3600 + slice_index t 4 * 60 + slice_index t 5)) ByCommand)

abbrev pub pending_from : ℕ → List ℕ → Pending
pending_from clock bytes = record { trigger = take 6 bytes; due = due_named clock (take 6 bytes); bytes = drop 6 bytes }

-- What a meaning is to stagings and staged tables. Procedures: 10 sets the clock, 12 and 13 activate, 14 and 15 withdraw.
abbrev pub by_procedure : ℕ → List ℕ → List Happening
by_procedure number parameters =
    cond (number == 10) (time_changed (second_of (of_bytes parameters)) ∷ [])
    (cond (number == 12) (activated_all ∷ [])
    (cond (number == 13) (named (word 2 0 parameters) activated)
    (cond (number == 14) (withdrew_all ∷ [])
    (cond (number == 15) (named (word 2 0 parameters) withdrew) []))))

abbrev pub happened : ℕ → Meaning → List Happening
happened clock nothing = []
happened clock (started second) = time_changed second ∷ []
happened clock (ticked second) = time_changed second ∷ []
happened clock (wrote table offset bytes) = named table (λ t. written t offset bytes)
happened clock (staged_for n bytes) = named n (λ t. staged t (pending_from clock bytes))
happened clock (called number parameters) = by_procedure number parameters

-- What it is to the log with a number (1 history, 2 self-reads, 3 load profile), before its entries. Procedure 4 clears one log or, with 255, all; procedure 5 acknowledges.
abbrev pub asked_of : {R : Type 0} → ℕ → Meaning → List (Deed R)
asked_of log nothing = []
asked_of log (started second) = []
asked_of log (ticked second) = []
asked_of log (wrote table offset bytes) = []
asked_of log (staged_for n bytes) = []
asked_of log (called number parameters) =
    cond (number == 4) (cond (slice_index parameters 0 == log) (clearing ∷ []) (cond (slice_index parameters 0 == 255) (clearing ∷ []) []))
    (cond (number == 5) (cond (slice_index parameters 0 == log) (acknowledging (word 2 1 parameters) ∷ []) []) [])
