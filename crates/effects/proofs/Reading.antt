-- The length of every table, and what a read answers.
use Rattle.std.proofs.Common.{◌≡◌, ℕ, ◌<◌, ◌≤◌, true, List, [], ◌∷◌, length, replicate, Some, None, Ok, Option, sym, refl, ap, ◌∙◌, arith}
use Rattle.std.proofs.lemmas.List.{length-append, length-take, length-drop, take_all}
use Rattle.std.proofs.lemmas.Bool.{true≢false, cond_both}
use Rattle.access.specs.Ready.{needed, content_of}
use Rattle.access.proofs.Readiness.{content_long}
use Rattle.calendar.specs.Calendar.{date_of, bytes_of}
use Rattle.fields.specs.Words.{part}
use Rattle.fields.specs.Patches.{overlay}
use Rattle.numbers.specs.declared.service.Service.TheVariants.{FullRead}
use Rattle.records.specs.Layouts.{five_words}
use Rattle.logs.proofs.TableParts.{length_table}
use Rattle.pending.specs.declared.trigger.Trigger.{Trigger}
use Rattle.pending.specs.declared.trigger.Trigger.TheVariants.{Absolute, Relative, OnCommand}
use Rattle.pending.specs.declared.row.Row.{Row}
use Rattle.pending.specs.declared.row.Row.TheVariants.{Empty, Waiting}
use Rattle.pending.specs.declared.table.PendingTable.{PendingTable}
use Rattle.pending.specs.declared.table.PendingTable.TheVariants.{Calendar, Outputs, Override}
use Rattle.pending.specs.Rows.{row_plan_bytes}
use Rattle.pending.specs.Triggers.{parts_of}
use Rattle.directory.specs.declared.entry.View.{View}
use Rattle.directory.specs.declared.entry.View.TheVariants.{PendingStatus, Response, Registers, Clock}
use Rattle.directory.specs.declared.entry.Source.{Source}
use Rattle.directory.specs.declared.entry.Source.TheVariants as source
use Rattle.directory.specs.declared.entry.TableEntry.{TableEntry}
use Rattle.directory.specs.Geometry.{log_place, staged_length, current_block, pending_block}
use Rattle.directory.specs.Tables.{find_table}
use Rattle.directory.specs.Uses.{allows}
use Rattle.head.specs.declared.head.Head.{Head}
use Rattle.head.specs.declared.head.Activation.{Activation}
use Rattle.request.specs.Answers.{answer_bytes}
use Rattle.request.specs.declared.part.Part.{Part}
use Rattle.request.specs.Parts.{whole_part}
use Rattle.request.specs.Asks.{full_read, partial_read}
use Rattle.model.specs.States as state
use Rattle.model.specs.States.{Meter, row_of}
use Rattle.model.specs.Tables.{activation_date, row_shown, rows_shown, response_table, view_table, table_bytes}
use Rattle.model.specs.Requests.{Deed, reading}
use Rattle.model.specs.Serving.{head_of, performed, served}
use Rattle.model.specs.Soundness.{SoundMeter}
use Rattle.effects.specs.Reads.{shown, AnswersWith, Reads}
use Rattle.model.proofs.Places.{current_place, pending_place, staged_short, log_fits}
use Rattle.model.proofs.FoundTables.{length_of, use_of, found}
use Rattle.model.proofs.Accepting.{fits}
use Rattle.effects.proofs.Accepting.{accepted_as, Answered, served_ok}

parts_long : (t : Trigger) → length (parts_of t) ≡ 5
parts_long (Absolute y m d h n) = refl
parts_long (Relative w d h m s) = refl
parts_long OnCommand = refl

pub trigger_long : (row : Row) → length (row_plan_bytes row) ≡ 6
trigger_long Empty = refl
trigger_long (Waiting plan due) = omega (arith, parts_long plan.trigger)

row_long : (t : PendingTable) (row : Row) → length (row_shown t row) ≡ 8
row_long t Empty = refl
row_long t (Waiting plan due) = rw length-append (omega (arith, trigger_long (Waiting plan due)))

date_long : (a : Activation) → length (activation_date a) ≡ 6
date_long a = cond_both a.happened (bytes_of (date_of a.second)) (replicate 6 0) (λ (x : List ℕ). length x ≡ 6) (λ _. refl) (λ _. refl)

rows_long : (h : Head) → length (rows_shown (Calendar ∷ Outputs ∷ Override ∷ []) h) ≡ 24
rows_long h =
    rw (length-append, length-append, length-append) (omega (arith, row_long Calendar (row_of Calendar h), row_long Outputs (row_of Outputs h), row_long Override (row_of Override h)))

response_long : (r : Option state.Response) → length (response_table r) ≡ 4
response_long None = refl
response_long (Some r) = refl

view_long : (v : View) (clock : ℕ) (r : Option state.Response) (h : Head) → length (view_table v clock r h) ≡ length_of (source.Computed v)
unfolding five_words
view_long PendingStatus clock r h = rw length-append (omega (arith, date_long h.activation, rows_long h))
view_long Response clock r h = response_long r
view_long Registers clock r h = refl
view_long Clock clock r h = refl

-- the front of a block's content
pub front_long : (m : Meter) (n k : ℕ) → SoundMeter m → n ≤ 510 → k < needed → length (part n 0 (content_of m.blocks k)) ≡ n
front_long m n k good h l = rw (length-take, length-drop) (omega (arith, content_long m.blocks good.image.whole good.image.ready k l))

pub table_long : (src : Source) (m : Meter) → SoundMeter m → allows (use_of src) FullRead ≡ true → length (table_bytes src m.clock m.response (head_of m) m.blocks) ≡ length_of src
unfolding table_bytes
table_long (source.Computed v) m good u = view_long v m.clock m.response (head_of m)
table_long source.Initiate m good u = absurd (true≢false (sym u))
table_long source.Utility m good u = front_long m 40 1 good (omega arith) (omega arith)
table_long (source.Staged t) m good u = front_long m (staged_length t) (current_block t) good (staged_short t) (omega (arith, (current_place t).1))
table_long (source.Pending t) m good u =
    rw length-append (omega (arith, trigger_long (row_of t (head_of m)), front_long m (staged_length t) (pending_block t) good (staged_short t) (omega (arith, (pending_place t).1))))
table_long (source.Log name) m good u = length_table (log_place name) (state.log_of name (head_of m)) m.blocks good.image.whole good.image.ready (log_fits name)

pub long_as_listed : (m : Meter) (n : ℕ) (t : TableEntry) → SoundMeter m → find_table n ≡ Ok t → allows t.access FullRead ≡ true → length (shown t m) ≡ t.length
long_as_listed m n t good find u =
    let f = (found n t find).0 in
    table_long t.source m good (ap (λ (x : TableEntry). allows x.access FullRead) (sym f) ∙ u) ∙ ap (λ (x : TableEntry). x.length) (sym f)

-- the bytes of what an accepted read does
read_bytes : (t : TableEntry) (p : Part) (m : Meter) → (performed (reading t p) m).bytes ≡ answer_bytes (part p.count p.from (shown t m))
unfolding performed
read_bytes t p m = refl

answers_with : (key : ℕ) (bytes : List ℕ) (m : Meter) (answer scratch : List ℕ) (count : ℕ) (told : List ℕ) → (served key bytes m answer scratch).result ≡ Ok count → (w : Answered key bytes m answer count (served key bytes m answer scratch)) →
    (performed w.deed m).bytes ≡ answer_bytes told → AnswersWith told answer (served key bytes m answer scratch)
answers_with key bytes m answer scratch count told h w e = record {
  answer = w.answers ∙ ap (λ (x : List ℕ). overlay x answer) e;
  result = h ∙ ap Ok (w.long ∙ ap length e);
}

pub reads : Reads
reads = record {
  long = long_as_listed;
  whole = λ key bytes m answer scratch n count t good ask find h.
      let w = served_ok key bytes m answer scratch count h in
      let acc = accepted_as key bytes m (full_read n) t w.deed ask find w.admits in
      let all : part t.length 0 (shown t m) ≡ shown t m = take_all t.length (shown t m) (omega (arith, long_as_listed m n t good find acc.allowed)) in
      answers_with key bytes m answer scratch count (shown t m) h w (ap (λ (d : Deed). (performed d m).bytes) (fits t (full_read n) w.deed acc.fit).0 ∙ read_bytes t (whole_part t.length) m ∙ ap answer_bytes all);
  part = λ key bytes m answer scratch n offset wanted count t ask find h.
      let w = served_ok key bytes m answer scratch count h in
      let acc = accepted_as key bytes m (partial_read n offset wanted) t w.deed ask find w.admits in
      let f = fits t (partial_read n offset wanted) w.deed acc.fit in
      (f.1, answers_with key bytes m answer scratch count (part wanted offset (shown t m)) h w (ap (λ (d : Deed). (performed d m).bytes) f.0 ∙ read_bytes t (record { from = offset; count = wanted }) m));
}
