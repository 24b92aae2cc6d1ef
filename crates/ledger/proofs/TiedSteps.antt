-- The steps of a call keep the three logs as what was done to them says.
use Rattle.std.proofs.Common.{◌≡◌, ℕ, ◌+◌, ◌%◌, ◌<◌, ◌≤◌, Bool, true, false, eqb, List, [], ◌∷◌, length, Some, None, Option, refl, ap, ◌∙◌, arith}
use Rattle.std.proofs.lemmas.List.{length-set, length-take, length-drop}
use Rattle.std.proofs.lemmas.Bool.{cond_both}
use Rattle.access.specs.Ready.{Ready, content_of, stored}
use Rattle.access.proofs.Readiness.{content_long}
use Rattle.fields.specs.Words.{part}
use Rattle.fields.specs.Patches.{patch}
use Rattle.fields.proofs.Places.{length_patch}
use Rattle.memory.specs.Blocks.{Block, Whole}
use Rattle.numbers.specs.declared.log.LogName.TheVariants.{History, SelfReads, LoadProfile}
use Rattle.records.specs.declared.event.Event.{Event}
use Rattle.records.specs.declared.event.Event.TheVariants.{PowerUp, PendingActivated, SelfReadTaken}
use Rattle.records.specs.declared.history.EventRecord.{EventRecord}
use Rattle.records.specs.declared.self_read.SelfRead.{SelfRead}
use Rattle.records.specs.declared.interval.Interval.{Interval}
use Rattle.records.specs.Events.{event_argument}
use Rattle.records.specs.Layouts.{event_record_bytes, self_read_bytes, interval_bytes, EventRecordFits, SelfReadFits, IntervalFits, RegistersFit}
use Rattle.pending.specs.declared.row.Row.{Row}
use Rattle.pending.specs.declared.row.Row.TheVariants.{Empty, Waiting}
use Rattle.pending.specs.declared.table.PendingTable.{PendingTable}
use Rattle.pending.specs.declared.table.PendingTable.TheVariants.{Calendar, Outputs, Override}
use Rattle.pending.specs.Rows.{is_due}
use Rattle.pending.specs.Tables.{table_number, all_tables}
use Rattle.directory.specs.Geometry.{staged_length, current_block, pending_block}
use Rattle.head.specs.declared.head.Head.{Head}
use Rattle.head.specs.Heads.{with_status, with_registers}
use Rattle.head.specs.Order.{WellFormed}
use Rattle.head.proofs.HeadLaws.{logs_three}
use Rattle.model.specs.States.{Going, event, self_read, interval, row_of, on_head, on_blocks}
use Rattle.model.specs.Steps.{entered, noted, event_at, self_read_taken, self_read_at, interval_taken, interval_at, no_status, brought_in, row_spent, read_first, took_force, activated, activated_if, each_activated, time_changed}
use Rattle.model.specs.Calls.{scheduled_read, interval_read, ticked, mark_started, power_up, tier_at, feeding}
use Rattle.model.specs.Tables.{current_table}
use Rattle.model.specs.Tariffs.{is_scheduled, fed}
use Rattle.model.specs.Serving.{put_in}
use Rattle.ledger.proofs.Tied.{Pasts, Tied, tied_event, tied_self_read, tied_interval, tied_head, all_below}

-- a call at work: three log heads, registers that fit their bytes, and the logs as the pasts and the entries so far say
pub record Along (base : Pasts) (g : Going) : Type 0 where
  pub three : length g.head.logs ≡ 3
  pub registers : RegistersFit g.head.registers
  pub tied : Tied base g

pub along : (base : Pasts) (g : Going) → WellFormed g.head → Tied base g → Along base g
along base g formed tied = record { three = logs_three g.head.logs formed.logs; registers = formed.registers; tied = tied }

-- entries
event_along : (base : Pasts) (r : EventRecord) (g : Going) → EventRecordFits r → Along base g → Along base (entered History (event_record_bytes r) (event r) g)
unfolding entered
event_along base r g fits a = record { three = length-set g.head.logs 0 _ ∙ a.three; registers = a.registers; tied = tied_event base r g fits a.three a.tied }

pub noted_along : (base : Pasts) (clock : ℕ) (e : Event) (g : Going) → event_argument e < 65536 → Along base g → Along base (noted clock e g)
unfolding noted
noted_along base clock e g fits a = event_along base (event_at clock e) g fits a

read_along : (base : Pasts) (r : SelfRead) (g : Going) → SelfReadFits r → Along base g → Along base (entered SelfReads (self_read_bytes r) (self_read r) g)
unfolding entered
read_along base r g fits a = record { three = length-set g.head.logs 1 _ ∙ a.three; registers = a.registers; tied = tied_self_read base r g fits a.three a.tied }

pub self_read_along : (base : Pasts) (clock : ℕ) (g : Going) → Along base g → Along base (self_read_taken clock g)
unfolding self_read_taken
self_read_along base clock g a = noted_along base clock SelfReadTaken _ (omega arith) (read_along base (self_read_at clock g.head) g a.registers a)

-- a head with the same logs, and registers that fit
pub head_along : (base : Pasts) (f : Head → Head) (g : Going) → (f g.head).logs ≡ g.head.logs → RegistersFit (f g.head).registers → Along base g → Along base (on_head f g)
head_along base f g same fits a = record { three = ap length same ∙ a.three; registers = fits; tied = tied_head base f g same a.tied }

record_along : (base : Pasts) (r : Interval) (g : Going) → IntervalFits r → Along base g → Along base (entered LoadProfile (interval_bytes r) (interval r) g)
unfolding entered
record_along base r g fits a = record { three = length-set g.head.logs 2 _ ∙ a.three; registers = a.registers; tied = tied_interval base r g fits a.three a.tied }

pub interval_along : (base : Pasts) (clock : ℕ) (g : Going) → Along base g → Along base (interval_taken clock g)
unfolding interval_taken
interval_along base clock g a =
    let taken = record_along base (interval_at clock g.head) g a.registers.total a in
    head_along base (with_status no_status) (entered LoadProfile (interval_bytes (interval_at clock g.head)) (interval (interval_at clock g.head)) g) refl taken.registers taken

-- a block of the tables is written
pub stored_along : (base : Pasts) (k : ℕ) (content : List ℕ) (g : Going) → k < 8 → length content ≡ 510 → Along base g → Along base (on_blocks (λ bs. stored bs k content) g)
stored_along base k content g low long a = record { three = a.three; registers = a.registers; tied = all_below _ g.head g.blocks k content low long a.tied }

patched_long : (bs : List Block) (k from : ℕ) (bytes : List ℕ) → Ready bs → Whole bs → k < 27 → from + length bytes ≤ 510 → length (patch from bytes (content_of bs k)) ≡ 510
patched_long bs k from bytes ready whole inside fits =
    let long : length (content_of bs k) ≡ 510 = content_long bs whole ready k inside in
    length_patch from bytes (content_of bs k) (omega arith) ∙ long

-- bytes at a place of a table's block
abbrev pub Low : Option ℕ → ℕ → Type 0
Low None n = Unit {0}
Low (Some k) n = (k < 8) × (n ≤ 510)

pub put_along : (base : Pasts) (b : Option ℕ) (from : ℕ) (bytes : List ℕ) (g : Going) → Low b (from + length bytes) → Along base g → Along base (on_blocks (put_in b from bytes) g)
put_along base None from bytes g low a = record { three = a.three; registers = a.registers; tied = a.tied }
put_along base (Some k) from bytes g low a =
    stored_along base k (patch from bytes (content_of g.blocks k)) g low.0
    (patched_long g.blocks k from bytes a.tied.history.matches.ready a.tied.history.matches.whole (omega (arith, low.0)) low.1) a

current_low : (t : PendingTable) → current_block t < 8
current_low Calendar = omega arith
current_low Outputs = omega arith
current_low Override = omega arith

short : (t : PendingTable) → staged_length t ≤ 510
short Calendar = omega arith
short Outputs = omega arith
short Override = omega arith

number_small : (t : PendingTable) → table_number t < 65536
number_small Calendar = omega arith
number_small Outputs = omega arith
number_small Override = omega arith

pub brought_along : (base : Pasts) (t : PendingTable) (g : Going) → Along base g → Along base (on_blocks (brought_in t) g)
brought_along base t g a =
    let new = part (staged_length t) 0 (content_of g.blocks (pending_block t)) in
    put_along base (Some (current_block t)) 0 new g (current_low t, rw (length-take, length-drop) (omega (arith, short t))) a

-- activations, in turn
first_along : (base : Pasts) (clock : ℕ) (flag : Bool) (g : Going) → Along base g → Along base (read_first flag clock g)
first_along base clock true g a = self_read_along base clock g a
first_along base clock false g a = a

pub force_along : (base : Pasts) (clock : ℕ) (t : PendingTable) (row : Row) (g : Going) → Along base g → Along base (took_force t clock row g)
force_along base clock t Empty g a = a
force_along base clock t (Waiting plan due) g a =
    let read = first_along base clock plan.self_read g a in
    let brought = brought_along base t _ read in
    noted_along base clock (PendingActivated (table_number t)) _ (number_small t) (head_along base (row_spent t clock) _ refl brought.registers brought)

pub activated_along : (base : Pasts) (clock : ℕ) (t : PendingTable) (g : Going) → Along base g → Along base (activated clock t g)
unfolding activated
activated_along base clock t g a = force_along base clock t (row_of t g.head) g a

pub if_along : (base : Pasts) (test : Row → Bool) (clock : ℕ) (t : PendingTable) (g : Going) → Along base g → Along base (activated_if test clock t g)
if_along base test clock t g a =
    cond_both (test (row_of t g.head)) (activated clock t g) g (λ (x : Going). Along base x) (λ _. activated_along base clock t g a) (λ _. a)

pub each_along : (base : Pasts) (test : Row → Bool) (clock : ℕ) (ts : List PendingTable) (g : Going) → Along base g → Along base (each_activated test clock ts g)
each_along base test clock [] g a = a
each_along base test clock (t ∷ ts) g a = each_along base test clock ts (activated_if test clock t g) (if_along base test clock t g a)

pub time_along : (base : Pasts) (clock : ℕ) (g : Going) → Along base g → Along base (time_changed clock g)
unfolding time_changed
time_along base clock g a = each_along base (λ row. is_due row clock) clock all_tables g a

-- a tick and a start
scheduled_along : (base : Pasts) (s : ℕ) (g : Going) → Along base g → Along base (scheduled_read s g)
scheduled_along base s g a =
    cond_both (is_scheduled (current_table Calendar g.blocks) s) (self_read_taken s g) g (λ (x : Going). Along base x) (λ _. self_read_along base s g a) (λ _. a)

interval_read_along : (base : Pasts) (s : ℕ) (g : Going) → Along base g → Along base (interval_read s g)
interval_read_along base s g a = cond_both (eqb (s % 900) 0) (interval_taken s g) g (λ (x : Going). Along base x) (λ _. interval_along base s g a) (λ _. a)

pub ticked_along : (base : Pasts) (s : ℕ) (g : Going) → Along base g → Along base (ticked s g)
unfolding ticked
ticked_along base s g a = interval_read_along base s _ (scheduled_along base s _ (time_along base s g a))

pub power_along : (base : Pasts) (s : ℕ) (g : Going) → Along base g → Along base (power_up s g)
unfolding power_up
power_along base s g a = time_along base s _ (noted_along base s PowerUp _ (omega arith) (head_along base mark_started g refl a.registers a))

-- energy touches no log
pub feeding_tied : (base : Pasts) (s wh : ℕ) (g : Going) → Tied base g → Tied base (feeding s wh g)
unfolding feeding
feeding_tied base s wh g t = tied_head base (λ h. with_registers (fed (tier_at s g.blocks) wh h.registers) h) g refl t
