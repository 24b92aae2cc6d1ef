-- The steps keep the head well formed and the blocks ready and whole, and a log's total grows by one with each entry.
use Rattle.std.proofs.Common.{◌≡◌, ℕ, zero, suc, ◌+◌, ◌%◌, ◌<◌, ◌≤◌, min, leb, List, [], ◌∷◌, ◌++◌, length, get_or, set, refl, ap, ◌∙◌, inl, inr, mod-lt, arith}
use Rattle.std.proofs.lemmas.List.{get_or-set_same, get_or-set_other}
use Rattle.std.proofs.lemmas.Bool.{cases_eq, and_parts, and_from, leb-true, le-leb}
use Rattle.access.specs.Ready.{Ready, content_of}
use Rattle.memory.specs.Blocks.{Block, Whole}
use Rattle.numbers.specs.declared.log.LogName.TheVariants.{SelfReads, LoadProfile}
use Rattle.records.specs.declared.event.Event.{Event}
use Rattle.records.specs.declared.status.Status.{Status}
use Rattle.records.specs.Layouts.{event_layout, self_read_layout, interval_layout, five_words, event_record_bytes, self_read_bytes, interval_bytes}
use Rattle.logs.specs.declared.log.Log.{Log}
use Rattle.logs.specs.declared.head.LogHead.{LogHead}
use Rattle.logs.specs.Heads.{empty_head, appended}
use Rattle.logs.specs.Places.{history_log, self_read_log, load_profile_log}
use Rattle.logs.specs.Slots.{Fitting, put_slot}
use Rattle.logs.proofs.SlotWrites.{put_ready, put_whole, put_beside}
use Rattle.head.specs.declared.head.Head.{Head}
use Rattle.head.specs.Heads.{with_log, with_status}
use Rattle.head.specs.Layout.{log_sizes}
use Rattle.head.specs.Order.{LogFormed, LogsFormed, WellFormed}
use Rattle.head.proofs.Frames.{frames}
use Rattle.head.proofs.HeadLaws.{logs_three}
use Rattle.model.specs.States.{Going, Recorded, event, self_read, interval, on_blocks}
use Rattle.model.specs.Steps.{entered, noted, event_at, self_read_taken, self_read_at, interval_taken, interval_at, no_status}

-- c is the content of block 0 as the call began: no step touches it
pub record Kept (c : List ℕ) (n : ℕ) (g : Going) : Type 0 where
  pub formed : WellFormed g.head
  pub totals : (k : ℕ) → (get_or g.head.logs k empty_head).total ≤ 4000000000 + n
  pub ready : Ready g.blocks
  pub whole : Whole g.blocks
  pub zero : content_of g.blocks 0 ≡ c

-- a bound may be raised
pub raised : {c : List ℕ} {n : ℕ} (m : ℕ) (g : Going) → n ≤ m → Kept c n g → Kept c m g
raised m g more k = record { formed = k.formed; totals = λ j. omega (arith, k.totals j); ready = k.ready; whole = k.whole; zero = k.zero }

pub logs_at : (sizes : List ℕ) (logs : List LogHead) (k : ℕ) (d : LogHead) → LogsFormed sizes logs → k < length sizes → LogFormed (get_or sizes k 0) (get_or logs k d)
logs_at [] logs k d f h = absurd (omega arith)
logs_at (size ∷ sizes) [] k d f h = absurd f
logs_at (size ∷ sizes) (l ∷ ls) zero d f h = f.0
logs_at (size ∷ sizes) (l ∷ ls) (suc k) d f h = logs_at sizes ls k d f.1 (omega arith)

counted : (log : Log) (l : LogHead) → LogFormed log.size l → l.total + 1 < 4294967296 → LogFormed log.size (appended log l)
counted log l f small =
    let parts = and_parts (leb l.unread l.held) _ f.counts in
    let more = and_parts (leb l.held log.size) _ parts.1 in
    let a : l.unread ≤ l.held = leb-true _ _ parts.0 in
    let b : l.held ≤ log.size = leb-true _ _ more.0 in
    let c : l.held ≤ l.total = leb-true _ _ more.1 in
    record {
      counts = and_from _ _ (le-leb (min (l.unread + 1) log.size) (min (l.held + 1) log.size) (omega arith)) (and_from _ _ (le-leb (min (l.held + 1) log.size) log.size (omega arith)) (le-leb (min (l.held + 1) log.size) (l.total + 1) (omega arith)));
      fits = small;
    }

-- an entry in a log that fits its place among the log heads
module _ (log : Log) (k : ℕ) (bytes : List ℕ) (fitting : Fitting log) (third : k < 3) (first : 0 < log.first) (size : get_or log_sizes k 0 ≡ log.size) (long : length bytes ≡ log.width) where
  abbrev entry_head_lem : Going → Head
  entry_head_lem g = with_log k (appended log (get_or g.head.logs k empty_head)) g.head

  abbrev entry_blocks_lem : Going → List Block
  entry_blocks_lem g = put_slot log ((get_or g.head.logs k empty_head).total % log.size) bytes g.blocks

  pub entry_kept : {c : List ℕ} (n : ℕ) (r : Recorded) (g : Going) → n < 200000000 → Kept c n g → Kept c (n + 1) (record { head = entry_head_lem g; blocks = entry_blocks_lem g; entries = g.entries ++ r ∷ [] })
  entry_kept n r g few kept =
      let l = get_or g.head.logs k empty_head in
      let three : length g.head.logs ≡ 3 = logs_three g.head.logs kept.formed.logs in
      let formed : LogFormed log.size l = rw (← size) (logs_at log_sizes g.head.logs k empty_head kept.formed.logs third) in
      let total : l.total + 1 < 4294967296 = omega (arith, kept.totals k) in
      let after : LogFormed (get_or log_sizes k 0) (appended log l) = rw size (counted log l formed total) in
      let slot : l.total % log.size < log.size = mod-lt l.total fitting.some in
      record {
        formed = frames.log_kept g.head k (appended log l) kept.formed after;
        totals = λ j. elim (cases_eq j k) [
          | inl same ↦
              let here : get_or (set g.head.logs k (appended log l)) j empty_head ≡ appended log l = ap (λ i. get_or (set g.head.logs k (appended log l)) i empty_head) same ∙ get_or-set_same g.head.logs k (appended log l) empty_head (omega arith) in
              omega (arith, ap (λ (x : LogHead). x.total) here, kept.totals k)
          | inr other ↦
              let there = get_or-set_other g.head.logs k j (appended log l) empty_head other in
              omega (arith, ap (λ (x : LogHead). x.total) there, kept.totals j)
        ];
        ready = put_ready log (l.total % log.size) bytes g.blocks kept.ready;
        whole = put_whole log fitting g.blocks kept.ready kept.whole (l.total % log.size) slot bytes long;
        zero = put_beside log (l.total % log.size) 0 bytes g.blocks (λ e. omega arith) ∙ kept.zero;
      }

pub history_fits : Fitting history_log
history_fits = record { wide = omega arith; narrow = omega arith; some = omega arith; inside = omega arith }

pub self_reads_fit : Fitting self_read_log
self_reads_fit = record { wide = omega arith; narrow = omega arith; some = omega arith; inside = omega arith }

pub profile_fits : Fitting load_profile_log
profile_fits = record { wide = omega arith; narrow = omega arith; some = omega arith; inside = omega arith }

pub noted_kept : {c : List ℕ} (n clock : ℕ) (e : Event) (g : Going) → n < 200000000 → Kept c n g → Kept c (n + 1) (noted clock e g)
unfolding noted entered event_layout
noted_kept n clock e g few kept = entry_kept history_log 0 (event_record_bytes (event_at clock e)) history_fits (omega arith) (omega arith) refl refl n (event (event_at clock e)) g few kept

-- an event alters no row
pub noted_rows : (clock : ℕ) (e : Event) (g : Going) → (noted clock e g).head.rows ≡ g.head.rows
unfolding noted entered
noted_rows clock e g = refl

-- the head after an event does not hang on the blocks
pub noted_formed : (clock : ℕ) (e : Event) (f : List Block → List Block) (g : Going) → WellFormed (noted clock e g).head → WellFormed (noted clock e (on_blocks f g)).head
unfolding noted entered
noted_formed clock e f g formed = formed

self_read_entered : {c : List ℕ} (n clock : ℕ) (g : Going) → n < 200000000 → Kept c n g → Kept c (n + 1) (entered SelfReads (self_read_bytes (self_read_at clock g.head)) (self_read (self_read_at clock g.head)) g)
unfolding entered self_read_layout five_words
self_read_entered n clock g few kept = entry_kept self_read_log 1 (self_read_bytes (self_read_at clock g.head)) self_reads_fit (omega arith) (omega arith) refl refl n (self_read (self_read_at clock g.head)) g few kept

pub self_read_kept : {c : List ℕ} (n clock : ℕ) (g : Going) → n < 100000000 → Kept c n g → Kept c (n + 2) (self_read_taken clock g)
unfolding self_read_taken
self_read_kept n clock g few kept =
    raised (n + 2) _ (omega arith) (noted_kept (n + 1) clock _ _ (omega arith) (self_read_entered n clock g (omega arith) kept))

interval_entered : {c : List ℕ} (n clock : ℕ) (g : Going) → n < 200000000 → Kept c n g → Kept c (n + 1) (entered LoadProfile (interval_bytes (interval_at clock g.head)) (interval (interval_at clock g.head)) g)
unfolding entered interval_layout
interval_entered n clock g few kept = entry_kept load_profile_log 2 (interval_bytes (interval_at clock g.head)) profile_fits (omega arith) (omega arith) refl refl n (interval (interval_at clock g.head)) g few kept

-- another status keeps all
pub status_kept : {c : List ℕ} {n : ℕ} (s : Status) (g : Going) → Kept c n g → Kept c n (record { head = with_status s g.head; blocks = g.blocks; entries = g.entries })
status_kept s g kept = record {
  formed = record { three = kept.formed.three; rows = kept.formed.rows; logs = kept.formed.logs; activation = kept.formed.activation; registers = kept.formed.registers };
  totals = kept.totals;
  ready = kept.ready;
  whole = kept.whole;
  zero = kept.zero;
}

pub interval_kept : {c : List ℕ} (n clock : ℕ) (g : Going) → n < 100000000 → Kept c n g → Kept c (n + 1) (interval_taken clock g)
unfolding interval_taken
interval_kept n clock g few kept = status_kept no_status _ (interval_entered n clock g (omega arith) kept)
