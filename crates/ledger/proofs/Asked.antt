-- What a request that is admitted says is what the ledger reads in its bytes.
use Rattle.std.proofs.Common.{◌≡◌, ℕ, ◌+◌, ◌-◌, ◌/◌, ◌%◌, ◌<◌, Bool, true, false, cond, eqb, List, [], ◌∷◌, length, get_or, take, drop, is_some as option_is_some, Some, None, Ok, Err, Option, sym, refl, ap, ◌∙◌, arith}
use Rattle.std.proofs.lemmas.List.{length-take}
use Rattle.std.proofs.lemmas.Bool.{and_parts, eqb-true, both_ways}
use Rattle.fields.specs.Words.{word, big_word}
use Rattle.memory.specs.Blocks.{Block}
use Rattle.calendar.specs.Calendar.{date_of}
use Rattle.records.specs.declared.event.Event.TheVariants.{TableWritten}
use Rattle.numbers.specs.declared.service.Service.{Service}
use Rattle.numbers.specs.declared.service.Service.TheVariants.{FullRead, PartialRead, FullWrite, PartialWrite}
use Rattle.numbers.specs.Names.{first_with, service_number, service_numbered}
use Rattle.refusals.specs.declared.fault.ServiceFault.TheVariants.{Malformed, BadContent}
use Rattle.request.specs.Asks.{Ask, whole, by_service, ask_in}
use Rattle.pending.specs.declared.table.PendingTable.{PendingTable}
use Rattle.pending.specs.declared.table.PendingTable.TheVariants.{Calendar, Outputs, Override}
use Rattle.pending.specs.declared.trigger.Due.{Due}
use Rattle.pending.specs.declared.plan.Plan.{Plan}
use Rattle.pending.specs.Tables.{table_number}
use Rattle.pending.specs.Triggers.{plan_bytes, plan_of}
use Rattle.pending.proofs.PlanBytes.{written_back}
use Rattle.directory.specs.declared.entry.TableEntry.{TableEntry}
use Rattle.directory.specs.Geometry.{staged_length}
use Rattle.model.specs.Requests.{Deed, reading, writing, staging, calling, staged_due, ruled, content_verdict}
use Rattle.model.specs.States.{Meter}
use Rattle.model.specs.Tariffs.{is_right}
use Rattle.model.specs.Serving.{admitted}
use Rattle.model.proofs.Accepting.{accepted_from}
use Rattle.model.proofs.Outcomes.{never, ok_same, first_right}
use Rattle.fates.specs.Stagings.{staged, written}
use Rattle.ledger.specs.Meanings.{reads_only, bytes_to, written_by, nothing, wrote, staged_for, called, write_means, clock_after, named, due_named, pending_from, happened, asked_of}
use Rattle.ledger.specs.Ledger.{Ledger}
use Rattle.ledger.specs.Entries.{event, brings}
use Rattle.ledger.proofs.AskedTables.{written_in, Does, fits_does}
pub use Rattle.ledger.proofs.AskedTables.{Goes, to_utility, to_table}
use Rattle.ledger.proofs.AskedTriggers.{flag_read, due_read, staged_due_lem}

-- a name that was found by a number has it
pub found_by_number : {X : Type 0} (number : X → ℕ) (n : ℕ) (xs : List X) (x : X) → first_with number n xs ≡ Some x → n ≡ number x
found_by_number number n xs x h = sym (first_right number n xs x h)

-- the bytes of an ask say what it writes
given : (b : Bool) (x a : Ask) → cond b (Ok x) (Err Malformed) ≡ Ok a → (b ≡ true) × (x ≡ a)
given true x a h = (refl, ok_same h)
given false x a h = absurd (never (sym h))

counted_after : (head count : ℕ) (bytes : List ℕ) → whole head count bytes ≡ true → length bytes ≡ head + count + 1
counted_after head count bytes h = eqb-true _ _ (and_parts (eqb (length bytes) (head + count + 1)) _ h).0

service_writes : (s : Service) (bytes : List ℕ) (a : Ask) → get_or bytes 0 0 ≡ service_number s → by_service (Some s) bytes ≡ Ok a → written_by bytes ≡ written_in a
service_writes FullRead bytes a n h = let x = given _ _ a h in rw (← x.1) (simp n)
service_writes PartialRead bytes a n h = let x = given _ _ a h in rw (← x.1) (simp n)
service_writes FullWrite bytes a n h =
    let x = given (whole 5 (big_word 2 3 bytes) bytes) _ a h in
    let l = counted_after 5 (big_word 2 3 bytes) bytes x.0 in
    let c : length bytes - 6 ≡ big_word 2 3 bytes = omega arith in
    rw (← x.1) (simp (n, c))
service_writes PartialWrite bytes a n h =
    let x = given (whole 8 (big_word 2 6 bytes) bytes) _ a h in
    let l = counted_after 8 (big_word 2 6 bytes) bytes x.0 in
    let c : length bytes - 9 ≡ big_word 2 6 bytes = omega arith in
    rw (← x.1) (simp (n, c))

any_service_writes : (s : Option Service) (bytes : List ℕ) (a : Ask) → service_numbered (get_or bytes 0 0) ≡ s → by_service s bytes ≡ Ok a → written_by bytes ≡ written_in a
any_service_writes None bytes a n h = absurd (never (sym h))
any_service_writes (Some s) bytes a n h = service_writes s bytes a (found_by_number service_number (get_or bytes 0 0) (FullRead ∷ PartialRead ∷ FullWrite ∷ PartialWrite ∷ []) s n) h

ask_writes : (bytes : List ℕ) (a : Ask) → ask_in bytes ≡ Ok a → written_by bytes ≡ written_in a
ask_writes bytes a h = go (eqb (length bytes) 0) h
  where
    go : (b : Bool) → cond b (Err Malformed) (by_service (service_numbered (get_or bytes 0 0)) bytes) ≡ Ok a → written_by bytes ≡ written_in a
    go true e = absurd (never (sym e))
    go false e = any_service_writes (service_numbered (get_or bytes 0 0)) bytes a refl e

-- a write: the bytes are those that the request writes, and the number is that of a table
pub record Writing (bytes : List ℕ) (t : TableEntry) (from : ℕ) (x : List ℕ) : Type 0 where
  pub what : written_by bytes ≡ bytes_to t.number from x
  pub plain : write_means (bytes_to t.number from x) ≡ wrote t.number from x
  pub goes : Goes t from x
  pub number : t.number < 65536

-- a staging: trigger bytes, which have a plan, and then a table's bytes
pub record Staging (clock : ℕ) (bytes : List ℕ) (t : TableEntry) (table : PendingTable) (x : List ℕ) : Type 0 where
  pub what : written_by bytes ≡ bytes_to t.number 0 x
  pub number : t.number ≡ 4096 + table_number table
  pub long : length x ≡ staged_length table + 6
  pub plan : Plan
  pub due : Due
  pub planned : staged_due (plan_of (take 6 x)) clock ≡ Some (plan, due)
  pub shown : plan_bytes plan ≡ take 6 x
  pub timed : due_named clock (take 6 x) ≡ due
  pub flagged : eqb (get_or (take 6 x) 0 0 / 16 % 2) 1 ≡ plan.self_read

-- what a deed means, from the request's bytes
abbrev pub Means : ℕ → List ℕ → Deed → Type 0
Means clock bytes (reading t p) = written_by bytes ≡ reads_only
Means clock bytes (writing t from x) = Writing bytes t from x
Means clock bytes (staging t table x) = Staging clock bytes t table x
Means clock bytes (calling x) = written_by bytes ≡ bytes_to 7 0 x

plain_number : (n from : ℕ) (x : List ℕ) (w : PendingTable) → n ≡ table_number w → (write_means (bytes_to n from x) ≡ wrote n from x) × (n < 65536)
plain_number n from x w e = rw e (go w)
  where
    go : (w : PendingTable) → (write_means (bytes_to (table_number w) from x) ≡ wrote (table_number w) from x) × (table_number w < 65536)
    go Calendar = (refl, omega arith)
    go Outputs = (refl, omega arith)
    go Override = (refl, omega arith)

goes_plainly : (t : TableEntry) (from : ℕ) (x : List ℕ) → Goes t from x → (write_means (bytes_to t.number from x) ≡ wrote t.number from x) × (t.number < 65536)
goes_plainly t from x (to_utility n b l) = (simp n, omega arith)
goes_plainly t from x (to_table w n b l) = plain_number t.number from x w n

is_some : {X : Type 0} (o : Option X) → option_is_some o ≡ true → (x : X) × (o ≡ Some x)
is_some None h = absurd (both_ways false refl h)
is_some (Some x) h = (x, refl)

staging_right : (clock : ℕ) (bs : List Block) (t : TableEntry) (table : PendingTable) (x : List ℕ) (u : Unit {0}) → content_verdict (staging t table x) clock bs ≡ Ok u →
    (p : Plan × Due) × (staged_due (plan_of (take 6 x)) clock ≡ Some p)
staging_right clock bs t table x u h = go (option_is_some (staged_due (plan_of (take 6 x)) clock)) refl h
  where
    go : (b : Bool) → option_is_some (staged_due (plan_of (take 6 x)) clock) ≡ b → cond b (ruled (is_right table (drop 6 x))) (Err BadContent) ≡ Ok u →
        (p : Plan × Due) × (staged_due (plan_of (take 6 x)) clock ≡ Some p)
    go true e k = is_some _ e
    go false e k = absurd (never (sym k))

does_means : (clock : ℕ) (bytes : List ℕ) (bs : List Block) (a : Ask) (d : Deed) (u : Unit {0}) → written_by bytes ≡ written_in a → Does a d → content_verdict d clock bs ≡ Ok u → Means clock bytes d
does_means clock bytes bs a (reading t p) u w does right = w ∙ does
does_means clock bytes bs a (writing t from x) u w does right =
    let g = goes_plainly t from x does.1 in record { what = w ∙ does.0; plain = g.0; goes = does.1; number = g.1 }
does_means clock bytes bs a (staging t table x) u w does right =
    let due = staging_right clock bs t table x u right in
    let read = staged_due_lem (take 6 x) clock due.0 due.1 in
    let six : length (take 6 x) ≡ 6 = omega (arith, length-take 6 x, does.2) in
    record {
      what = w ∙ does.0;
      number = does.1;
      long = does.2;
      plan = due.0.0;
      due = due.0.1;
      planned = due.1;
      shown = written_back (take 6 x) due.0.0 six read.0;
      timed = due_read clock (take 6 x) due.0.0 due.0.1 read.0 read.1;
      flagged = flag_read (take 6 x) due.0.0 read.0;
    }
does_means clock bytes bs a (calling x) u w does right = w ∙ does

pub admitted_means : (key : ℕ) (bytes : List ℕ) (m : Meter) (d : Deed) → admitted key bytes m ≡ Ok d → Means m.clock bytes d
admitted_means key bytes m d h =
    let x = accepted_from key bytes m d h in
    does_means m.clock bytes m.blocks x.0 d tt (ask_writes bytes x.0 x.2) (fits_does x.1 x.0 d x.3.number x.3.allowed x.3.fit) x.3.right

-- a table that can be staged is named by its number
pub named_table : {X : Type 0} (n : ℕ) (t : PendingTable) (f : PendingTable → X) → n ≡ table_number t → named n f ≡ f t ∷ []
named_table n t f e = rw e (go t)
  where
    go : (t : PendingTable) → named (table_number t) f ≡ f t ∷ []
    go Calendar = refl
    go Outputs = refl
    go Override = refl

-- the meaning of a request, by its deed
pub reading_means : (bytes : List ℕ) → written_by bytes ≡ reads_only → write_means (written_by bytes) ≡ nothing
reading_means bytes h = ap write_means h

pub calling_means : (bytes x : List ℕ) → written_by bytes ≡ bytes_to 7 0 x → write_means (written_by bytes) ≡ called (word 2 0 x) (drop 3 x)
calling_means bytes x h = ap write_means h

pub writing_means : (bytes : List ℕ) (t : TableEntry) (from : ℕ) (x : List ℕ) → Writing bytes t from x → write_means (written_by bytes) ≡ wrote t.number from x
writing_means bytes t from x h = ap write_means h.what ∙ h.plain

pub staging_means : (clock : ℕ) (bytes : List ℕ) (t : TableEntry) (table : PendingTable) (x : List ℕ) → Staging clock bytes t table x →
    write_means (written_by bytes) ≡ staged_for (table_number table) x
staging_means clock bytes t table x h = ap write_means h.what ∙ (ap (λ n. write_means (bytes_to n 0 x)) h.number ∙ go table)
  where
    go : (w : PendingTable) → write_means (bytes_to (4096 + table_number w) 0 x) ≡ staged_for (table_number w) x
    go Calendar = refl
    go Outputs = refl
    go Override = refl

-- what a write is to the tables, the logs and the clock, and what it brings
pub record WriteMeant (clock : ℕ) (bytes : List ℕ) (t : TableEntry) (from : ℕ) (x : List ℕ) : Type 1 where
  pub to_table_lem : (w : PendingTable) → t.number ≡ table_number w → happened clock (write_means (written_by bytes)) ≡ written w from x ∷ []
  pub to_utility_lem : t.number ≡ 6 → happened clock (write_means (written_by bytes)) ≡ []
  pub asks : (R : Type 0) (k : ℕ) → asked_of {R = R} k (write_means (written_by bytes)) ≡ []
  pub clock_stays : clock_after clock (write_means (written_by bytes)) ≡ clock
  pub brings_event : (l : Ledger) → brings l (write_means (written_by bytes)) ≡ event (date_of l.clock) (TableWritten t.number) ∷ []

pub writing_meant : (clock : ℕ) (bytes : List ℕ) (t : TableEntry) (from : ℕ) (x : List ℕ) → Writing bytes t from x → WriteMeant clock bytes t from x
writing_meant clock bytes t from x h =
    let m : write_means (written_by bytes) ≡ wrote t.number from x = writing_means bytes t from x h in
    record {
      to_table_lem = λ w e. ap (happened clock) m ∙ named_table t.number w (λ u. written u from x) e;
      to_utility_lem = λ e. ap (happened clock) m ∙ ap (λ n. happened clock (wrote n from x)) e;
      asks = λ R k. ap (asked_of {R = R} k) m;
      clock_stays = ap (clock_after clock) m;
      brings_event = λ l. ap (brings l) m;
    }

-- what a staging is to the tables, the logs and the clock, and what it brings
pub record StagingMeant (clock : ℕ) (bytes : List ℕ) (t : TableEntry) (table : PendingTable) (x : List ℕ) : Type 1 where
  pub happens : happened clock (write_means (written_by bytes)) ≡ staged table (pending_from clock x) ∷ []
  pub asks : (R : Type 0) (k : ℕ) → asked_of {R = R} k (write_means (written_by bytes)) ≡ []
  pub clock_stays : clock_after clock (write_means (written_by bytes)) ≡ clock
  pub brings_event : (l : Ledger) → brings l (write_means (written_by bytes)) ≡ event (date_of l.clock) (TableWritten t.number) ∷ []

pub staging_meant : (clock : ℕ) (bytes : List ℕ) (t : TableEntry) (table : PendingTable) (x : List ℕ) → Staging clock bytes t table x → StagingMeant clock bytes t table x
staging_meant clock bytes t table x h =
    let m : write_means (written_by bytes) ≡ staged_for (table_number table) x = staging_means clock bytes t table x h in
    record {
      happens = ap (happened clock) m ∙ named_table (table_number table) table (λ u. staged u (pending_from clock x)) refl;
      asks = λ R k. ap (asked_of {R = R} k) m;
      clock_stays = ap (clock_after clock) m;
      brings_event = λ l. ap (brings l) m ∙ ap (λ n. event (date_of l.clock) (TableWritten n) ∷ []) (sym h.number);
    }
