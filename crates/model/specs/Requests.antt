-- What a request is decided to do, or refused for, before anything is done.
use Rattle.std.specs.Prelude.{ℕ, Bool, cond, List, length, take, drop, is_some, Some, None, Ok, Err, Option, Result, nat_lt}
use Rattle.memory.specs.Blocks.{Block}
use Rattle.fields.specs.Patches.{patch}
use Rattle.numbers.specs.declared.service.Key.{Key}
use Rattle.numbers.specs.declared.service.Key.TheVariants.{Reader, Master}
use Rattle.numbers.specs.Names.{key_numbered}
use Rattle.refusals.specs.declared.fault.ServiceFault.{ServiceFault}
use Rattle.refusals.specs.declared.fault.ServiceFault.TheVariants.{Clearance, BadPart, BadContent, NotReady}
use Rattle.request.specs.declared.part.Part.{Part}
use Rattle.request.specs.Asks.{Ask, full_read, partial_read, full_write, partial_write, ask_in, table_of, service_of}
use Rattle.request.specs.Parts.{whole_part, part_verdict}
use Rattle.directory.specs.declared.entry.View.{View}
use Rattle.directory.specs.declared.entry.View.TheVariants.{PendingStatus, Response, Registers, Clock}
use Rattle.directory.specs.declared.entry.Source.{Source}
use Rattle.directory.specs.declared.entry.Source.TheVariants as source
use Rattle.directory.specs.declared.entry.TableEntry.{TableEntry}
use Rattle.directory.specs.Uses.{table_for, count_verdict}
use Rattle.pending.specs.declared.trigger.Due.{Due}
use Rattle.pending.specs.declared.plan.Plan.{Plan}
use Rattle.pending.specs.declared.table.PendingTable.{PendingTable}
use Rattle.pending.specs.Rows.{is_waiting}
use Rattle.pending.specs.Triggers.{plan_of, due_when}
use Rattle.head.specs.declared.head.Head.{Head}
use Rattle.model.specs.States as state
use Rattle.model.specs.Tables.{current_table}
use Rattle.model.specs.Tariffs.{is_right}

abbrev pub and_then : {X Y : Type 0} → Result X ServiceFault → (X → Result Y ServiceFault) → Result Y ServiceFault
and_then (Ok x) f = f x
and_then (Err e) f = Err e

-- A read needs one of the two keys, a write the master's.
abbrev pub keyed_read : Option Key → Result (Unit {0}) ServiceFault
keyed_read None = Err Clearance
keyed_read (Some key) = Ok tt

abbrev pub keyed_write : Option Key → Result (Unit {0}) ServiceFault
keyed_write None = Err Clearance
keyed_write (Some Reader) = Err Clearance
keyed_write (Some Master) = Ok tt

abbrev pub key_verdict : ℕ → Ask → Result (Unit {0}) ServiceFault
key_verdict key (full_read table) = keyed_read (key_numbered key)
key_verdict key (partial_read table offset count) = keyed_read (key_numbered key)
key_verdict key (full_write table bytes) = keyed_write (key_numbered key)
key_verdict key (partial_write table offset bytes) = keyed_write (key_numbered key)

-- What is to be done: a part of a table is read; bytes are written from a place of a table; a table is staged; a procedure is called.
pub data Deed : Type 0 where
  reading : TableEntry → Part → Deed
  writing : TableEntry → ℕ → List ℕ → Deed
  staging : TableEntry → PendingTable → List ℕ → Deed
  calling : List ℕ → Deed

-- An answer has room for 1,024 bytes.
abbrev pub answerable : TableEntry → Part → Result Deed ServiceFault
answerable t p = cond (nat_lt 1024 p.count) (Err BadPart) (Ok (reading t p))

-- A full write, by where the table's bytes go.
abbrev pub write_all : Source → TableEntry → List ℕ → Deed
write_all (source.Computed view) t bytes = writing t 0 bytes
write_all source.Initiate t bytes = calling bytes
write_all source.Utility t bytes = writing t 0 bytes
write_all (source.Staged table) t bytes = writing t 0 bytes
write_all (source.Pending table) t bytes = staging t table bytes
write_all (source.Log name) t bytes = writing t 0 bytes

-- The parts and counts that fit the table.
abbrev pub fitted : TableEntry → Ask → Result Deed ServiceFault
fitted t (full_read table) = answerable t (whole_part t.length)
fitted t (partial_read table offset count) = and_then (part_verdict offset count t.length) (answerable t)
fitted t (full_write table bytes) = and_then (count_verdict t (length bytes)) (λ _. Ok (write_all t.source t bytes))
fitted t (partial_write table offset bytes) = and_then (part_verdict offset (length bytes) t.length) (λ p. Ok (writing t p.from bytes))

-- Right trigger bytes: a plan, and when it takes force.
abbrev pub due_with : Plan → Option Due → Option (Plan × Due)
due_with plan None = None
due_with plan (Some due) = Some (plan, due)

abbrev pub staged_due : Option Plan → ℕ → Option (Plan × Due)
staged_due None clock = None
staged_due (Some plan) clock = due_with plan (due_when plan.trigger clock)

-- Contents against their rules: a calendar or an override as the write would leave or stage it, and trigger bytes.
abbrev pub ruled : Bool → Result (Unit {0}) ServiceFault
ruled right = cond right (Ok tt) (Err BadContent)

abbrev pub write_verdict : Source → ℕ → List ℕ → List Block → Result (Unit {0}) ServiceFault
write_verdict (source.Computed view) from bytes bs = Ok tt
write_verdict source.Initiate from bytes bs = Ok tt
write_verdict source.Utility from bytes bs = Ok tt
write_verdict (source.Staged t) from bytes bs = ruled (is_right t (patch from bytes (current_table t bs)))
write_verdict (source.Pending t) from bytes bs = Ok tt
write_verdict (source.Log name) from bytes bs = Ok tt

abbrev pub content_verdict : Deed → ℕ → List Block → Result (Unit {0}) ServiceFault
content_verdict (reading t p) clock bs = Ok tt
content_verdict (writing t from bytes) clock bs = write_verdict t.source from bytes bs
content_verdict (staging t table bytes) clock bs = cond (is_some (staged_due (plan_of (take 6 bytes)) clock)) (ruled (is_right table (drop 6 bytes))) (Err BadContent)
content_verdict (calling bytes) clock bs = Ok tt

-- What there is nothing of yet: a staging that waits, a response since start.
abbrev pub view_verdict : View → Option state.Response → Result (Unit {0}) ServiceFault
view_verdict PendingStatus response = Ok tt
view_verdict Response None = Err NotReady
view_verdict Response (Some r) = Ok tt
view_verdict Registers response = Ok tt
view_verdict Clock response = Ok tt

abbrev pub source_verdict : Source → Option state.Response → Head → Result (Unit {0}) ServiceFault
source_verdict (source.Computed view) response h = view_verdict view response
source_verdict source.Initiate response h = Ok tt
source_verdict source.Utility response h = Ok tt
source_verdict (source.Staged t) response h = Ok tt
source_verdict (source.Pending t) response h = cond (is_waiting (state.row_of t h)) (Ok tt) (Err NotReady)
source_verdict (source.Log name) response h = Ok tt

abbrev pub present_verdict : Deed → Option state.Response → Head → Result (Unit {0}) ServiceFault
present_verdict (reading t p) response h = source_verdict t.source response h
present_verdict (writing t from bytes) response h = Ok tt
present_verdict (staging t table bytes) response h = Ok tt
present_verdict (calling bytes) response h = Ok tt

-- The order of refusals from the request's form up to its part.
abbrev pub decided : ℕ → List ℕ → Result Deed ServiceFault
decided key request =
    and_then (ask_in request) (λ ask. and_then (key_verdict key ask) (λ _. and_then (table_for (table_of ask) (service_of ask)) (λ t. fitted t ask)))
