-- A started meter that fits its ledger answers what the ledger has.
use Rattle.std.proofs.Common.{◌≡◌, ℕ, ◌+◌, ◌<◌, ◌≤◌, Bool, false, ◌||◌, eqb, ltb, List, [], ◌∷◌, ◌++◌, length, take, Some, None, Ok, Err, Result, sym, refl, ap, ◌∙◌, arith}
use Rattle.std.proofs.lemmas.List.{take_all, length-take, length-append}
use Rattle.std.proofs.lemmas.Bool.{cond-false, le-ltb, ne_eqb}
use Rattle.access.specs.Ready.{needed, Ready, content_of, ready_verdict, clean_verdict}
use Rattle.fields.specs.Words.{part, big_word}
use Rattle.fields.specs.Patches.{overlay}
use Rattle.memory.specs.Blocks.{Block}
use Rattle.numbers.specs.declared.log.LogName.{LogName}
use Rattle.numbers.specs.declared.log.LogName.TheVariants.{History, SelfReads, LoadProfile}
use Rattle.refusals.specs.declared.fault.ServiceFault.{ServiceFault}
use Rattle.refusals.specs.declared.fault.ServiceFault.TheVariants.{NotReady}
use Rattle.request.specs.declared.part.Part.{Part}
use Rattle.request.specs.Answers.{answer_bytes, buffer_verdict}
use Rattle.request.specs.Asks.{Ask, partial_read, ask_in, service_of}
use Rattle.request.specs.Asks.{table_of as table_numbered}
use Rattle.numbers.specs.declared.service.Service.TheVariants.{PartialRead}
use Rattle.request.specs.Parts.{whole_part}
use Rattle.request.proofs.Sends.{sent_read}
use Rattle.pending.specs.declared.row.Row.{Row}
use Rattle.pending.specs.declared.row.Row.TheVariants.{Empty, Waiting}
use Rattle.pending.specs.declared.table.PendingTable.{PendingTable}
use Rattle.pending.specs.declared.table.PendingTable.TheVariants.{Calendar, Outputs, Override}
use Rattle.pending.specs.declared.trigger.Trigger.{Trigger}
use Rattle.pending.specs.declared.trigger.Trigger.TheVariants.{Absolute, Relative, OnCommand}
use Rattle.pending.specs.Rows.{row_plan_bytes}
use Rattle.pending.specs.Triggers.{plan_bytes}
use Rattle.pending.specs.Tables.{table_number}
use Rattle.directory.specs.declared.entry.Access.TheVariants as access
use Rattle.directory.specs.declared.entry.Access.TheVariants.{Read, ReadWrite}
use Rattle.directory.specs.declared.entry.Source.TheVariants as source
use Rattle.directory.specs.declared.entry.TableEntry.{TableEntry}
use Rattle.directory.specs.declared.entry.Source.{Source}
use Rattle.directory.specs.Tables.{entry, listed}
use Rattle.directory.specs.Uses.{table_for}
use Rattle.directory.specs.Geometry.{staged_length, current_block, pending_block}
use Rattle.fates.specs.Stagings.{Pending, Seen, waiting_in}
use Rattle.fates.specs.Stagings as fate
use Rattle.model.specs.States.{Meter, row_of}
use Rattle.model.specs.Tables.{current_table, staged_table, table_bytes}
use Rattle.model.specs.Requests.{reading, decided, source_verdict, and_then, key_verdict, fitted}
use Rattle.model.specs.Serving.{head_of, performed, admitted}
use Rattle.ledger.specs.Ledger.{Ledger}
use Rattle.ledger.specs.Statement.{AnswersWith, Refuses, read_table, read_pending, log_length, read_log, table_of, Answers}
use Rattle.ledger.proofs.Seen.{seen_row}
use Rattle.ledger.proofs.Fitting.{Fits}

ready_passes : (bs : List Block) → Ready bs → ready_verdict bs ≡ Ok tt
ready_passes bs ready = cond-false _ _ _ (le-ltb (length bs) needed ready.enough) ∙ ap clean_verdict ready.clean

room : (a s : List ℕ) → 1028 ≤ length a → 510 ≤ length s → buffer_verdict (length a) (length s) ≡ Ok tt
room a s p q = cond-false _ _ _ (le-ltb (length a) 1028 p) ∙ cond-false _ _ _ (le-ltb (length s) 510 q)

-- a read that is decided, of something that is there
read_admitted : (m : Meter) (request : List ℕ) (t : TableEntry) (p : Part) → Ready m.blocks → decided 1 request ≡ Ok (reading t p) → source_verdict t.source m.response (head_of m) ≡ Ok tt →
    admitted 1 request m ≡ Ok (reading t p)
read_admitted m request t p ready is there = rw (ready_passes m.blocks ready, is, there)

read_answers : (m : Meter) (request : List ℕ) (t : TableEntry) (p : Part) (bytes : List ℕ) → admitted 1 request m ≡ Ok (reading t p) →
    part p.count p.from (table_bytes t.source m.clock m.response (head_of m) m.blocks) ≡ bytes → AnswersWith m request bytes
unfolding performed
read_answers m request t p bytes is same = record {
  answer = λ a s f g. rw (room a s f g, is) (ap (λ x. overlay (answer_bytes x) a) same);
  result = λ a s f g. rw (room a s f g, is) (ap (λ x. Ok (length (answer_bytes x))) same);
}

refuses : (m : Meter) (request : List ℕ) (e : ServiceFault) → admitted 1 request m ≡ Err e → Refuses m request e
refuses m request e is a s f g = rw (room a s f g, is)

-- the tables in force
abbrev table_entry : PendingTable → TableEntry
table_entry t = entry (table_number t) (staged_length t) (Some (current_block t)) (Some (pending_block t)) ReadWrite (source.Staged t)

table_decided : (t : PendingTable) → decided 1 (read_table t) ≡ Ok (reading (table_entry t) (whole_part (staged_length t)))
unfolding listed big_word
table_decided Calendar = refl
table_decided Outputs = refl
table_decided Override = refl

part_whole : (n : ℕ) (xs : List ℕ) → length xs ≤ n → part n 0 xs ≡ xs
part_whole n xs h = take_all n xs h

part_short : (n : ℕ) (xs : List ℕ) → length (take n xs) ≤ n
part_short n xs = rw length-take (omega arith)

tables_answered : (m : Meter) (l : Ledger) → Fits m.blocks l → (t : PendingTable) → AnswersWith m (read_table t) (l.account.tables t)
unfolding table_bytes
tables_answered m l fits t =
    read_answers m (read_table t) (table_entry t) (whole_part (staged_length t)) _ (read_admitted m (read_table t) (table_entry t) (whole_part (staged_length t)) fits.image.ready (table_decided t) refl)
    (part_whole (staged_length t) (current_table t m.blocks) (part_short (staged_length t) _) ∙ fits.agrees.tables t)

-- what waits
abbrev pending_entry : PendingTable → TableEntry
pending_entry t = entry (4096 + table_number t) (staged_length t + 6) None (Some (pending_block t)) access.Pending (source.Pending t)

pending_decided : (t : PendingTable) → decided 1 (read_pending t) ≡ Ok (reading (pending_entry t) (whole_part (staged_length t + 6)))
unfolding listed big_word
pending_decided Calendar = refl
pending_decided Outputs = refl
pending_decided Override = refl

plan_six : (t : Trigger) (flag : Bool) → length (plan_bytes (record { trigger = t; self_read = flag })) ≡ 6
plan_six (Absolute y m d h n) flag = refl
plan_six (Relative w d h m s) flag = refl
plan_six OnCommand flag = refl

waits_shown : (m : Meter) (t : PendingTable) (p : Pending) (row : Row) → row_of t (head_of m) ≡ row → p ∷ [] ≡ fate.listed (seen_row t row m.blocks) → Ready m.blocks → AnswersWith m (read_pending t) (p.trigger ++ p.bytes)
unfolding table_bytes
waits_shown m t p Empty is same ready = let z : ◌≡◌ {A = ℕ} 0 1 = cc in absurd (omega arith)
waits_shown m t p (Waiting plan due) is same ready =
    let shown : p ≡ record { trigger = plan_bytes plan; due = due; bytes = staged_table t m.blocks } = cc in
    let there : source_verdict (source.Pending t) m.response (head_of m) ≡ Ok tt = rw is in
    let all : length (plan_bytes plan ++ staged_table t m.blocks) ≤ staged_length t + 6 = rw length-append (omega (arith, plan_six plan.trigger plan.self_read, part_short (staged_length t) (content_of m.blocks (pending_block t)))) in
    read_answers m (read_pending t) (pending_entry t) (whole_part (staged_length t + 6)) _ (read_admitted m (read_pending t) (pending_entry t) (whole_part (staged_length t + 6)) ready (pending_decided t) there)
    (ap (λ (r : Row). part (staged_length t + 6) 0 (row_plan_bytes r ++ staged_table t m.blocks)) is ∙ part_whole (staged_length t + 6) (plan_bytes plan ++ staged_table t m.blocks) all
    ∙ sym (ap (λ (x : Pending). x.trigger ++ x.bytes) shown))

none_shown : (m : Meter) (t : PendingTable) (row : Row) → row_of t (head_of m) ≡ row → [] ≡ fate.listed (seen_row t row m.blocks) → Ready m.blocks → Refuses m (read_pending t) NotReady
none_shown m t (Waiting plan due) is same ready = let z : ◌≡◌ {A = ℕ} 0 1 = cc in absurd (omega arith)
none_shown m t Empty is same ready = refuses m (read_pending t) NotReady (rw (ready_passes m.blocks ready, pending_decided t, is))

-- parts of the logs
abbrev log_entry : LogName → TableEntry
log_entry History = entry 74 1030 (Some 8) None Read (source.Log History)
log_entry SelfReads = entry 26 634 (Some 10) None Read (source.Log SelfReads)
log_entry LoadProfile = entry 64 7402 (Some 12) None Read (source.Log LoadProfile)

fits_part : (offset count length' : ℕ) → 0 < count → offset + count ≤ length' → (eqb count 0 || ltb length' (offset + count)) ≡ false
fits_part offset count length' some inside = let a : eqb count 0 ≡ false = ne_eqb count 0 (λ e. omega arith) in let b : ltb length' (offset + count) ≡ false = le-ltb length' (offset + count) inside in rw (a, b)

-- a request that asks for a part of a table, by what it asks
asked_decided : (request : List ℕ) (table offset count : ℕ) (t : TableEntry) → ask_in request ≡ Ok (partial_read table offset count) → table_for table PartialRead ≡ Ok t → 0 < count → count ≤ 1024 → offset + count ≤ t.length →
    decided 1 request ≡ Ok (reading t (record { from = offset; count = count }))
asked_decided request table offset count t is found some few inside =
    let few' : ltb 1024 count ≡ false = le-ltb 1024 count few in
    ap (λ (r : Result Ask ServiceFault). and_then r (λ ask. and_then (key_verdict 1 ask) (λ _. and_then (table_for (table_numbered ask) (service_of ask)) (λ u. fitted u ask)))) is
    ∙ ap (λ (r : Result TableEntry ServiceFault). and_then r (λ u. fitted u (partial_read table offset count))) found ∙ rw (fits_part offset count t.length some inside, few')

log_decided : (name : LogName) (offset count : ℕ) → 0 < count → count ≤ 1024 → offset + count ≤ log_length name → decided 1 (read_log name offset count) ≡ Ok (reading (log_entry name) (record { from = offset; count = count }))
unfolding listed
log_decided History offset count some few inside = asked_decided (read_log History offset count) 74 offset count (log_entry History) (sent_read (partial_read 74 offset count) (omega arith, omega arith, omega arith)) refl some few inside
log_decided SelfReads offset count some few inside = asked_decided (read_log SelfReads offset count) 26 offset count (log_entry SelfReads) (sent_read (partial_read 26 offset count) (omega arith, omega arith, omega arith)) refl some few inside
log_decided LoadProfile offset count some few inside = asked_decided (read_log LoadProfile offset count) 64 offset count (log_entry LoadProfile) (sent_read (partial_read 64 offset count) (omega arith, omega arith, omega arith)) refl some few inside

log_source : (name : LogName) → (log_entry name).source ≡ source.Log name
log_source History = refl
log_source SelfReads = refl
log_source LoadProfile = refl

log_answered : (m : Meter) → Ready m.blocks → (name : LogName) (offset count : ℕ) → 0 < count → count ≤ 1024 → offset + count ≤ log_length name → AnswersWith m (read_log name offset count) (part count offset (table_of name m.blocks))
unfolding table_bytes
log_answered m ready name offset count some few inside =
    let p : Part = record { from = offset; count = count } in
    let there : source_verdict (log_entry name).source m.response (head_of m) ≡ Ok tt = ap (λ (s : Source). source_verdict s m.response (head_of m)) (log_source name) in
    read_answers m (read_log name offset count) (log_entry name) p _ (read_admitted m (read_log name offset count) (log_entry name) p ready (log_decided name offset count some few inside) there)
    (ap (λ (s : Source). part count offset (table_bytes s m.clock m.response (head_of m) m.blocks)) (log_source name))

pub answers : (m : Meter) (l : Ledger) → Fits m.blocks l → Answers m l
answers m l fits = record {
  tables = tables_answered m l fits;
  waits = λ t p is. waits_shown m t p (row_of t (head_of m)) refl (sym is ∙ fits.agrees.rows t) fits.image.ready;
  none = λ t is. none_shown m t (row_of t (head_of m)) refl (sym is ∙ fits.agrees.rows t) fits.image.ready;
  logs = log_answered m fits.image.ready;
}
