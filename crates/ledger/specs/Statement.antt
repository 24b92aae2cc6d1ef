-- What stands at every point of every life.
use Rattle.std.specs.Prelude.{◌≡◌, ℕ, ◌+◌, ◌-◌, ◌*◌, ◌%◌, ◌<◌, ◌≤◌, true, cond, List, [], ◌∷◌, ◌++◌, map, length, Some, Ok, Err, Option, ◌==◌, slice_index}
use Rattle.std.specs.List.{range_with_len}
use Rattle.access.specs.Ready.{content_of}
use Rattle.calendar.specs.Calendar.{seconds_in_all}
use Rattle.fields.specs.Words.{part, word, be_bytes}
use Rattle.fields.specs.Patches.{overlay}
use Rattle.memory.specs.Blocks.{Block, Whole}
use Rattle.numbers.specs.declared.log.LogName.{LogName}
use Rattle.numbers.specs.declared.log.LogName.TheVariants.{History, SelfReads, LoadProfile}
use Rattle.records.specs.declared.kind.Entry.{Entry}
use Rattle.records.specs.Layouts.{event_record_of, self_read_of, interval_of}
use Rattle.logs.specs.Deeds.{Deed, book_of, recorded_in, acknowledged_in, since_clearing, newest}
use Rattle.logs.specs.Laws.{numbered}
use Rattle.logs.specs.Tables.{log_table}
use Rattle.pending.specs.declared.table.PendingTable.{PendingTable}
use Rattle.pending.specs.declared.table.PendingTable.TheVariants.{Calendar, Outputs, Override}
use Rattle.pending.specs.declared.trigger.Due.TheVariants.{At, ByCommand}
use Rattle.refusals.specs.declared.fault.ServiceFault.{ServiceFault}
use Rattle.refusals.specs.declared.fault.ServiceFault.TheVariants.{NotReady}
use Rattle.request.specs.Answers.{answer_bytes}
use Rattle.directory.specs.Geometry.{log_place}
use Rattle.head.specs.declared.head.Head.{Head}
use Rattle.head.specs.Heads.{decode_head}
use Rattle.head.specs.Order.{in_order}
use Rattle.fates.specs.Stagings.{Pending, Happening, staged, time_changed, Seen, empty, waiting, Memory, waiting_in, listed, took_force}
use Rattle.fates.specs.Fates.{Ends, Quiet, Every, Tells, Continues, ExactlyOneFate, NeverLate}
use Rattle.model.specs.States.{Meter, log_of}
use Rattle.model.specs.Calls.{format}
use Rattle.model.specs.Serving.{served}
use Rattle.ledger.specs.Meanings.{Call}
use Rattle.ledger.specs.Ledger.{Fed, Ledger, opened, kept, happenings}
use Rattle.ledger.specs.Entries.{AllBring}
use Rattle.ledger.specs.Results.{AllResults}
use Rattle.ledger.specs.Lives.{State, cold, running, blocks_in, live, told}

-- What memory shows of the tables that can be staged, by the places of the bytes. The tables are in blocks 2, 3 and 4, and what is staged in blocks 5, 6 and 7.
abbrev pub table_in : PendingTable → List Block → List ℕ
table_in Calendar bs = part 120 0 (content_of bs 2)
table_in Outputs bs = part 60 0 (content_of bs 3)
table_in Override bs = part 16 0 (content_of bs 4)

abbrev pub staged_in : PendingTable → List Block → List ℕ
staged_in Calendar bs = part 120 0 (content_of bs 5)
staged_in Outputs bs = part 60 0 (content_of bs 6)
staged_in Override bs = part 16 0 (content_of bs 7)

-- Block 0 has a row of twelve bytes for each: 1 if it waits, the six trigger bytes, the second that it waits for unless it is of kind 2, a zero.
abbrev pub row_in : PendingTable → List ℕ → List ℕ
row_in Calendar content = part 12 2 content
row_in Outputs content = part 12 14 content
row_in Override content = part 12 26 content

abbrev pub row_shown : List ℕ → List ℕ → Seen
row_shown row bytes =
    cond (slice_index row 0 == 1) (waiting (record { trigger = part 6 1 row; due = cond (slice_index row 1 % 16 == 2) ByCommand (At (word 4 7 row)); bytes = bytes })) empty

abbrev pub memory_of : List Block → Memory
memory_of bs = record { rows = λ t. row_shown (row_in t (content_of bs 0)) (staged_in t bs); tables = λ t. table_in t bs }

-- The counts of a log in block 0: total, held, unread.
abbrev pub counts_in : LogName → List ℕ → List ℕ
counts_in History content = part 8 38 content
counts_in SelfReads content = part 8 46 content
counts_in LoadProfile content = part 8 54 content

abbrev pub head_in : List Block → Head
head_in bs = decode_head (content_of bs 0)

-- The bytes of a log's table.
abbrev pub table_of : LogName → List Block → List ℕ
table_of name bs = log_table (log_place name) (log_of name (head_in bs)) bs

-- What the table of a log shows: held, total and unread, and the held entries, oldest first, entry s in slot s mod size.
abbrev pub held_shown : List ℕ → ℕ
held_shown table = word 2 0 table

abbrev pub total_shown : List ℕ → ℕ
total_shown table = word 4 4 table

abbrev pub unread_shown : List ℕ → ℕ
unread_shown table = word 2 8 table

abbrev pub entry_shown : {R : Type 0} → ℕ → ℕ → (List ℕ → Option R) → List ℕ → ℕ → Option (Entry R)
entry_shown size width parsed table s = numbered s (parsed (part width (10 + s % size * width) table))

abbrev pub entries_shown : {R : Type 0} → ℕ → ℕ → (List ℕ → Option R) → List ℕ → List (Option (Entry R))
entries_shown size width parsed table = map (entry_shown size width parsed table) (range_with_len (total_shown table - held_shown table) (held_shown table))

-- A log of so many slots of a width, of which `past` was done, shows a table.
pub record LogStands {R : Type 0} (size width : ℕ) (parsed : List ℕ → Option R) (table : List ℕ) (past : List (Deed R)) : Type 0 where
  -- every entry was counted, and the ledger counts the same
  pub recorded : total_shown table ≡ recorded_in past
  pub counted : (book_of size past).recorded ≡ recorded_in past
  pub acknowledged : (book_of size past).acknowledged ≡ acknowledged_in past
  -- as many are unread as the ledger holds unread
  pub unread : unread_shown table ≡ length (book_of size past).fresh
  -- the entries shown are the newest since the last clearing, as many as fit, in order and unaltered: those that the ledger holds
  pub held : entries_shown size width parsed table ≡ map Some (newest size (since_clearing past))
  pub split : newest size (since_clearing past) ≡ (book_of size past).seen ++ (book_of size past).fresh
  -- recorded = acknowledged + unread + cleared unread + overwritten unread
  pub balance : total_shown table ≡ acknowledged_in past + unread_shown table + (book_of size past).cleared + (book_of size past).overwritten

-- A new meter on a memory, the meter after some calls, what a ledger was fed of them, and the ledger then.
abbrev pub born : List Block → State
born bs = cold (format bs).blocks

abbrev pub meter_after : List Block → List Call → State
meter_after bs cs = live (born bs) cs

abbrev pub memory_after : List Block → List Call → List Block
memory_after bs cs = blocks_in (meter_after bs cs)

abbrev pub feed_of : List Block → List Call → List Fed
feed_of bs cs = told (born bs) cs

abbrev pub ledger_after : List Block → List Call → Ledger
ledger_after bs cs = kept opened (feed_of bs cs)

abbrev pub happened_in : List Block → List Call → List Happening
happened_in bs cs = happenings opened (feed_of bs cs)

-- What a started meter answers to a reader's request, in buffers with room: the bytes of a table, or a refusal.
pub record AnswersWith (m : Meter) (request bytes : List ℕ) : Type 0 where
  pub answer : (answer scratch : List ℕ) → 1028 ≤ length answer → 510 ≤ length scratch → (served 1 request m answer scratch).answer ≡ overlay (answer_bytes bytes) answer
  pub result : (answer scratch : List ℕ) → 1028 ≤ length answer → 510 ≤ length scratch → (served 1 request m answer scratch).result ≡ Ok (length (answer_bytes bytes))

abbrev pub Refuses : Meter → List ℕ → ServiceFault → Type 0
Refuses m request e = (answer scratch : List ℕ) → 1028 ≤ length answer → 510 ≤ length scratch → (served 1 request m answer scratch).result ≡ Err e

-- The requests to read the tables 54, 2053 and 2095, and what waits for them.
abbrev pub read_table : PendingTable → List ℕ
read_table Calendar = 0x30 ∷ 0x00 ∷ 0x36 ∷ []
read_table Outputs = 0x30 ∷ 0x08 ∷ 0x05 ∷ []
read_table Override = 0x30 ∷ 0x08 ∷ 0x2F ∷ []

abbrev pub read_pending : PendingTable → List ℕ
read_pending Calendar = 0x30 ∷ 0x10 ∷ 0x36 ∷ []
read_pending Outputs = 0x30 ∷ 0x18 ∷ 0x05 ∷ []
read_pending Override = 0x30 ∷ 0x18 ∷ 0x2F ∷ []

-- The request to read a part of a log's table, and the length of that table: the history is table 74, the self-reads 26, the load profile 64.
abbrev pub log_number_byte : LogName → ℕ
log_number_byte History = 0x4A
log_number_byte SelfReads = 0x1A
log_number_byte LoadProfile = 0x40

abbrev pub log_length : LogName → ℕ
log_length History = 1030
log_length SelfReads = 634
log_length LoadProfile = 7402

abbrev pub read_log : LogName → ℕ → ℕ → List ℕ
read_log name offset count = 0x3F ∷ (0x00 ∷ (log_number_byte name ∷ (be_bytes 3 offset ++ be_bytes 2 count)))

-- A started meter answers with the ledger's tables, with what waits in the ledger, and with any part of each log's table.
pub record Answers (m : Meter) (l : Ledger) : Type 0 where
  pub tables : (t : PendingTable) → AnswersWith m (read_table t) (l.account.tables t)
  pub waits : (t : PendingTable) (p : Pending) → waiting_in t l.account.stagings ≡ p ∷ [] → AnswersWith m (read_pending t) (p.trigger ++ p.bytes)
  pub none : (t : PendingTable) → waiting_in t l.account.stagings ≡ [] → Refuses m (read_pending t) NotReady
  pub logs : (name : LogName) (offset count : ℕ) → 0 < count → count ≤ 1024 → offset + count ≤ log_length name → AnswersWith m (read_log name offset count) (part count offset (table_of name m.blocks))

abbrev pub AnswersIn : State → Ledger → Type 0
AnswersIn (cold bs) l = Unit {0}
AnswersIn (running m) l = Answers m l

-- A started meter has the ledger's clock.
abbrev pub ClockIs : State → ℕ → Type 0
ClockIs (cold bs) clock = Unit {0}
ClockIs (running m) clock = (m.clock ≡ clock) × (clock < seconds_in_all)

-- What stands after some calls.
pub record Stands (bs : List Block) (cs : List Call) : Type 0 where
  -- every call recorded the entries that it had to, in turn
  pub brought : AllBring opened (feed_of bs cs)
  -- every procedure had the result that the rules give it
  pub results : AllResults opened (feed_of bs cs)
  pub clock : ClockIs (meter_after bs cs) (ledger_after bs cs).clock
  -- the waiting rows are exactly those of the stagings that wait, with their trigger and staged bytes; the tables are the ledger's
  pub rows : (t : PendingTable) → waiting_in t (ledger_after bs cs).account.stagings ≡ listed ((memory_of (memory_after bs cs)).rows t)
  pub tables : (t : PendingTable) → (memory_of (memory_after bs cs)).tables t ≡ (ledger_after bs cs).account.tables t
  -- a started meter answers so
  pub answers : AnswersIn (meter_after bs cs) (ledger_after bs cs)
  -- the ledger has every accepted staging, in order, each with the fate that what came later tells
  pub fates : Tells (happened_in bs cs) (ledger_after bs cs).account.stagings
  -- what took force by the last thing that happened is now the table, whole, and its row is empty
  pub whole : (before quiet : List Happening) (t : PendingTable) (p : Pending) (h : Happening) → happened_in bs cs ≡ before ++ staged t p ∷ quiet ++ h ∷ [] →
      Every (Quiet t p.due) quiet → Ends t p.due h took_force → ((memory_of (memory_after bs cs)).tables t ≡ p.bytes) × ((memory_of (memory_after bs cs)).rows t ≡ empty)
  -- after a change of time no row waits for a second that the clock has reached
  pub in_time : (before : List Happening) (clock : ℕ) (t : PendingTable) (p : Pending) (second : ℕ) → happened_in bs cs ≡ before ++ time_changed clock ∷ [] →
      (memory_of (memory_after bs cs)).rows t ≡ waiting p → p.due ≡ At second → clock < second
  -- each log's account balances, by the bytes of its table
  pub history : LogStands 102 10 event_record_of (table_of History (memory_after bs cs)) (ledger_after bs cs).history
  pub self_reads : LogStands 24 26 self_read_of (table_of SelfReads (memory_after bs cs)) (ledger_after bs cs).self_reads
  pub profile : LogStands 672 11 interval_of (table_of LoadProfile (memory_after bs cs)) (ledger_after bs cs).profile
  -- block 0 has the counts that the tables show
  pub totals : (name : LogName) → word 4 0 (counts_in name (content_of (memory_after bs cs) 0)) ≡ total_shown (table_of name (memory_after bs cs))
  pub helds : (name : LogName) → word 2 4 (counts_in name (content_of (memory_after bs cs) 0)) ≡ held_shown (table_of name (memory_after bs cs))
  pub unreads : (name : LogName) → word 2 6 (counts_in name (content_of (memory_after bs cs) 0)) ≡ unread_shown (table_of name (memory_after bs cs))
  -- block 0 is in order, and no total comes near 32 bits
  pub order : in_order (content_of (memory_after bs cs) 0) ≡ true
  pub small : (name : LogName) → total_shown (table_of name (memory_after bs cs)) ≤ 4000000012

-- For any memory with room, a meter formatted new on it, and any calls: so at every point of them.
pub record EveryLife : Type 0 where
  pub formats : (bs : List Block) → 27 ≤ length bs → (format bs).answer ≡ Ok tt
  pub stands : (bs : List Block) → Whole bs → 27 ≤ length bs → (cs : List Call) → Stands bs cs
  -- a staging has exactly one fate, none waits past a change of time that has reached it, and what the ledger once said of it lasts
  pub one_fate : ExactlyOneFate
  pub never_late : NeverLate
  pub lasting : (bs : List Block) (cs rest : List Call) → Continues (ledger_after bs cs).account.stagings (ledger_after bs (cs ++ rest)).account.stagings
