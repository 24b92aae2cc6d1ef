-- The ledger. It is fed each call's arguments, its answer with the procedure's result, and the entries recorded, in turn. It reads no memory.
use Rattle.std.specs.Prelude.{ℕ, cond, List, [], ◌∷◌, ◌++◌, replicate, Some, None, Option}
use Rattle.records.specs.declared.history.EventRecord.{EventRecord}
use Rattle.records.specs.declared.self_read.SelfRead.{SelfRead}
use Rattle.records.specs.declared.interval.Interval.{Interval}
use Rattle.logs.specs.Deeds.{Deed, appending, Book, book_of}
use Rattle.pending.specs.declared.table.PendingTable.{PendingTable}
use Rattle.pending.specs.declared.table.PendingTable.TheVariants.{Calendar, Outputs, Override}
use Rattle.fates.specs.Stagings.{Happening, Account}
use Rattle.fates.specs.Stagings as fate
use Rattle.model.specs.States.{Recorded, event, self_read, interval}
use Rattle.ledger.specs.Meanings.{Call, Answer, has_effect, Meaning, meant, clock_after, happened, asked_of}

pub record Fed : Type 0 where
  pub call : Call
  pub answer : Answer
  pub entries : List Recorded

-- The clock; every accepted staging with its fate, and the tables that can be staged; and for each log what was done to it, the latest first.
pub record Ledger : Type 0 where
  pub clock : ℕ
  pub account : Account
  pub history : List (Deed EventRecord)
  pub self_reads : List (Deed SelfRead)
  pub profile : List (Deed Interval)

-- What was done to a log makes its book: the entries held, read and unread; how many were recorded, acknowledged, cleared unread and overwritten unread.
abbrev pub history_book : Ledger → Book EventRecord
history_book l = book_of 102 l.history

abbrev pub self_read_book : Ledger → Book SelfRead
self_read_book l = book_of 24 l.self_reads

abbrev pub profile_book : Ledger → Book Interval
profile_book l = book_of 672 l.profile

-- A new meter: tier 1 in every hour of the calendar, zeros else; nothing was staged and nothing recorded.
abbrev pub first_tables : PendingTable → List ℕ
first_tables Calendar = 0 ∷ 0 ∷ 0 ∷ 0 ∷ (replicate 24 1 ++ replicate 92 0)
first_tables Outputs = replicate 60 0
first_tables Override = replicate 16 0

abbrev pub opened : Ledger
opened = record { clock = 0; account = record { stagings = []; tables = first_tables }; history = []; self_reads = []; profile = [] }

-- The records of one log among the entries.
abbrev pub event_in : Recorded → Option EventRecord
event_in (event r) = Some r
event_in (self_read r) = None
event_in (interval r) = None

abbrev pub self_read_in : Recorded → Option SelfRead
self_read_in (event r) = None
self_read_in (self_read r) = Some r
self_read_in (interval r) = None

abbrev pub interval_in : Recorded → Option Interval
interval_in (event r) = None
interval_in (self_read r) = None
interval_in (interval r) = Some r

abbrev pub appended_if : {R : Type 0} → Option R → List (Deed R) → List (Deed R)
appended_if None past = past
appended_if (Some r) past = appending r ∷ past

abbrev pub entered : {R : Type 0} → (Recorded → Option R) → List Recorded → List (Deed R) → List (Deed R)
entered mine [] past = past
entered mine (x ∷ xs) past = entered mine xs (appended_if (mine x) past)

-- What a call asked of a log comes before the entries that it recorded.
abbrev pub past_after : {R : Type 0} → ℕ → (Recorded → Option R) → Meaning → List Recorded → List (Deed R) → List (Deed R)
past_after log mine m entries past = entered mine entries (asked_of log m ++ past)

abbrev pub marked : Meaning → List Recorded → Ledger → Ledger
marked m entries l = record {
  clock = clock_after l.clock m;
  account = fate.kept l.account (happened l.clock m);
  history = past_after 1 event_in m entries l.history;
  self_reads = past_after 2 self_read_in m entries l.self_reads;
  profile = past_after 3 interval_in m entries l.profile;
}

abbrev pub noted : Ledger → Fed → Ledger
noted l f = cond (has_effect f.answer) (marked (meant l.clock f.call) f.entries l) l

abbrev pub kept : Ledger → List Fed → Ledger
kept l [] = l
kept l (f ∷ fs) = kept (noted l f) fs

-- Everything that happened to stagings and staged tables.
abbrev pub happened_by : Ledger → Fed → List Happening
happened_by l f = cond (has_effect f.answer) (happened l.clock (meant l.clock f.call)) []

abbrev pub happenings : Ledger → List Fed → List Happening
happenings l [] = []
happenings l (f ∷ fs) = happened_by l f ++ happenings (noted l f) fs
