-- The three logs in memory are as what was done to them says, and an entry keeps them so.
use Rattle.std.proofs.Common.{◌≡◌, ℕ, ◌%◌, ◌<◌, ◌≢◌, List, [], ◌∷◌, ◌++◌, length, get_or, set, Some, Option, sym, refl, ap, subst, arith}
use Rattle.std.proofs.lemmas.List.{get_or-set_same, get_or-set_other}
use Rattle.access.specs.Ready.{Ready, stored}
use Rattle.access.proofs.Readiness.{ready_stored}
use Rattle.fields.specs.Words.{part}
use Rattle.memory.specs.Blocks.{Block, Whole}
use Rattle.numbers.specs.declared.log.LogName.TheVariants.{History, SelfReads, LoadProfile}
use Rattle.records.specs.declared.history.EventRecord.{EventRecord}
use Rattle.records.specs.declared.self_read.SelfRead.{SelfRead}
use Rattle.records.specs.declared.interval.Interval.{Interval}
use Rattle.records.specs.Layouts.{event_layout, self_read_layout, interval_layout, five_words, event_record_bytes, self_read_bytes, interval_bytes, event_record_of, self_read_of, interval_of, EventRecordFits, SelfReadFits, IntervalFits}
use Rattle.records.specs.Readings.{event_record_back, self_read_back, interval_back}
use Rattle.logs.specs.declared.log.Log.{Log}
use Rattle.logs.specs.declared.head.LogHead.{LogHead}
use Rattle.logs.specs.Heads.{empty_head, appended}
use Rattle.logs.specs.Places.{history_log, self_read_log, load_profile_log}
use Rattle.logs.specs.Slots.{slot_block, slot_place, slot_bytes, put_slot, Fitting}
use Rattle.logs.specs.Deeds.{Deed, appending, book_of}
use Rattle.logs.specs.Laws.{head_after, blocks_after, Allowed}
use Rattle.logs.proofs.Steps.{Matches, matches_kept, Balanced, step}
use Rattle.logs.proofs.SlotWrites.{put_ready, put_whole, slot_beside, content_other}
use Rattle.head.specs.declared.head.Head.{Head}
use Rattle.model.specs.States.{Going, Recorded, event, self_read, interval, log_of, set_log, on_head}
use Rattle.model.specs.Steps as step
use Rattle.model.proofs.Keeping.{history_fits, self_reads_fit, profile_fits}
use Rattle.model.proofs.Activating.{whole_stored}
use Rattle.ledger.specs.Ledger.{event_in, self_read_in, interval_in, appended_if, entered}

-- a log in memory is as what was done to it says, and its account balances
pub record TiedLog {R : Type 0} (parsed : List ℕ → Option R) (log : Log) (h : LogHead) (bs : List Block) (past : List (Deed R)) : Type 0 where
  pub matches : Matches parsed log h bs (book_of log.size past)
  pub balanced : Balanced (book_of log.size past)

pub record Pasts : Type 0 where
  pub history : List (Deed EventRecord)
  pub self_reads : List (Deed SelfRead)
  pub profile : List (Deed Interval)

pub record TiedAll (p : Pasts) (h : Head) (bs : List Block) : Type 0 where
  pub history : TiedLog event_record_of history_log (log_of History h) bs p.history
  pub self_reads : TiedLog self_read_of self_read_log (log_of SelfReads h) bs p.self_reads
  pub profile : TiedLog interval_of load_profile_log (log_of LoadProfile h) bs p.profile

abbrev pub entered_all : List Recorded → Pasts → Pasts
entered_all es p = record { history = entered event_in es p.history; self_reads = entered self_read_in es p.self_reads; profile = entered interval_in es p.profile }

abbrev pub Tied : Pasts → Going → Type 0
Tied base g = TiedAll (entered_all g.entries base) g.head g.blocks

-- one entry more is one deed more, of its log
entered_push : {R : Type 0} (mine : Recorded → Option R) (es : List Recorded) (x : Recorded) (past : List (Deed R)) → entered mine (es ++ x ∷ []) past ≡ appended_if (mine x) (entered mine es past)
entered_push mine [] x past = refl
entered_push mine (e ∷ es) x past = entered_push mine es x (appended_if (mine e) past)

abbrev pushed : Recorded → Pasts → Pasts
pushed x p = record { history = appended_if (event_in x) p.history; self_reads = appended_if (self_read_in x) p.self_reads; profile = appended_if (interval_in x) p.profile }

all_pushed : (es : List Recorded) (x : Recorded) (p : Pasts) → entered_all (es ++ x ∷ []) p ≡ pushed x (entered_all es p)
all_pushed es x p = rw (entered_push event_in es x p.history, entered_push self_read_in es x p.self_reads, entered_push interval_in es x p.profile)

-- a log of which the slots keep their bytes, whatever else is written
pub log_beside : {R : Type 0} (parsed : List ℕ → Option R) (log : Log) (h : LogHead) (bs bs' : List Block) (past : List (Deed R)) → 0 < log.size → Ready bs' → Whole bs' →
    ((slot : ℕ) → slot < log.size → slot_bytes log slot bs' ≡ slot_bytes log slot bs) → TiedLog parsed log h bs past → TiedLog parsed log h bs' past
log_beside parsed log h bs bs' past some ready whole same t =
    record { matches = matches_kept parsed log h bs bs' (book_of log.size past) some ready whole same t.matches; balanced = t.balanced }

-- a log to which something is done
pub log_done : {R : Type 0} (bytes : R → List ℕ) (parsed : List ℕ → Option R) (fits : R → Type 0) (log : Log) → Fitting log →
    ((r : R) → length (bytes r) ≡ log.width) → ((r : R) → fits r → parsed (bytes r) ≡ Some r) →
    (h : LogHead) (bs : List Block) (past : List (Deed R)) (d : Deed R) → Allowed fits h d → TiedLog parsed log h bs past →
    TiedLog parsed log (head_after log h d) (blocks_after bytes log h bs d) (d ∷ past)
log_done bytes parsed fits log fitting long back h bs past d ok t =
    let after = step bytes parsed fits log fitting long back h bs (book_of log.size past) d t.matches t.balanced ok in
    record { matches = after.0; balanced = after.1 }

-- what the three kinds of records are to their logs
event_long : (r : EventRecord) → length (event_record_bytes r) ≡ 10
unfolding event_layout
event_long r = refl

self_read_long : (r : SelfRead) → length (self_read_bytes r) ≡ 26
unfolding self_read_layout five_words
self_read_long r = refl

interval_long : (r : Interval) → length (interval_bytes r) ≡ 11
unfolding interval_layout
interval_long r = refl

pub history_done : (h : LogHead) (bs : List Block) (past : List (Deed EventRecord)) (d : Deed EventRecord) → Allowed EventRecordFits h d → TiedLog event_record_of history_log h bs past →
    TiedLog event_record_of history_log (head_after history_log h d) (blocks_after event_record_bytes history_log h bs d) (d ∷ past)
history_done = log_done event_record_bytes event_record_of EventRecordFits history_log history_fits event_long event_record_back

pub self_reads_done : (h : LogHead) (bs : List Block) (past : List (Deed SelfRead)) (d : Deed SelfRead) → Allowed SelfReadFits h d → TiedLog self_read_of self_read_log h bs past →
    TiedLog self_read_of self_read_log (head_after self_read_log h d) (blocks_after self_read_bytes self_read_log h bs d) (d ∷ past)
self_reads_done = log_done self_read_bytes self_read_of SelfReadFits self_read_log self_reads_fit self_read_long self_read_back

pub profile_done : (h : LogHead) (bs : List Block) (past : List (Deed Interval)) (d : Deed Interval) → Allowed IntervalFits h d → TiedLog interval_of load_profile_log h bs past →
    TiedLog interval_of load_profile_log (head_after load_profile_log h d) (blocks_after interval_bytes load_profile_log h bs d) (d ∷ past)
profile_done = log_done interval_bytes interval_of IntervalFits load_profile_log profile_fits interval_long interval_back

-- the log at a place of the head, if that place or another is written
pub here : {R : Type 0} {parsed : List ℕ → Option R} {log : Log} {bs : List Block} {past : List (Deed R)} (logs : List LogHead) (k : ℕ) (l : LogHead) → k < length logs →
    TiedLog parsed log l bs past → TiedLog parsed log (get_or (set logs k l) k empty_head) bs past
here {parsed = parsed} {log = log} {bs = bs} {past = past} logs k l within t = subst (λ (x : LogHead). TiedLog parsed log x bs past) (sym (get_or-set_same logs k l empty_head within)) t

pub elsewhere : {R : Type 0} {parsed : List ℕ → Option R} {log : Log} {bs : List Block} {past : List (Deed R)} (logs : List LogHead) (j k : ℕ) (l : LogHead) → j ≢ k →
    TiedLog parsed log (get_or logs j empty_head) bs past → TiedLog parsed log (get_or (set logs k l) j empty_head) bs past
elsewhere {parsed = parsed} {log = log} {bs = bs} {past = past} logs j k l other t = subst (λ (x : LogHead). TiedLog parsed log x bs past) (sym (get_or-set_other logs k j l empty_head other)) t

-- an entry of another log
pub put_apart : {R : Type 0} (parsed : List ℕ → Option R) (own : Log) (h : LogHead) (past : List (Deed R)) (log : Log) (slot : ℕ) (bytes : List ℕ) (bs : List Block) →
    0 < own.size → Fitting log → slot < log.size → length bytes ≡ log.width → ((i j : ℕ) → i < own.size → j < log.size → slot_block own i ≢ slot_block log j) →
    TiedLog parsed own h bs past → TiedLog parsed own h (put_slot log slot bytes bs) past
put_apart parsed own h past log slot bytes bs some fitting below long apart t =
    log_beside parsed own h bs (put_slot log slot bytes bs) past some (put_ready log slot bytes bs t.matches.ready)
    (put_whole log fitting bs t.matches.ready t.matches.whole slot below bytes long)
    (λ i l. slot_beside log own slot i bytes bs (apart i slot l below)) t

event_entered : (p : Pasts) (r : EventRecord) (h : Head) (bs : List Block) → EventRecordFits r → length h.logs ≡ 3 → TiedAll p h bs →
    TiedAll (pushed (event r) p) (set_log History (appended history_log (log_of History h)) h) (put_slot history_log ((log_of History h).total % 102) (event_record_bytes r) bs)
event_entered p r h bs fits three t =
    let slot : ℕ = (log_of History h).total % 102 in
    let below : slot < 102 = omega arith in
    record {
      history = here h.logs 0 _ (omega arith) (history_done (log_of History h) bs p.history (appending r) fits t.history);
      self_reads = elsewhere h.logs 1 0 _ (λ e. omega arith) (put_apart self_read_of self_read_log _ _ history_log slot (event_record_bytes r) bs (omega arith) history_fits below (event_long r) (λ i j a b e. omega arith) t.self_reads);
      profile = elsewhere h.logs 2 0 _ (λ e. omega arith) (put_apart interval_of load_profile_log _ _ history_log slot (event_record_bytes r) bs (omega arith) history_fits below (event_long r) (λ i j a b e. omega arith) t.profile);
    }

self_read_entered : (p : Pasts) (r : SelfRead) (h : Head) (bs : List Block) → SelfReadFits r → length h.logs ≡ 3 → TiedAll p h bs →
    TiedAll (pushed (self_read r) p) (set_log SelfReads (appended self_read_log (log_of SelfReads h)) h) (put_slot self_read_log ((log_of SelfReads h).total % 24) (self_read_bytes r) bs)
self_read_entered p r h bs fits three t =
    let slot : ℕ = (log_of SelfReads h).total % 24 in
    let below : slot < 24 = omega arith in
    record {
      history = elsewhere h.logs 0 1 _ (λ e. omega arith) (put_apart event_record_of history_log _ _ self_read_log slot (self_read_bytes r) bs (omega arith) self_reads_fit below (self_read_long r) (λ i j a b e. omega arith) t.history);
      self_reads = here h.logs 1 _ (omega arith) (self_reads_done (log_of SelfReads h) bs p.self_reads (appending r) fits t.self_reads);
      profile = elsewhere h.logs 2 1 _ (λ e. omega arith) (put_apart interval_of load_profile_log _ _ self_read_log slot (self_read_bytes r) bs (omega arith) self_reads_fit below (self_read_long r) (λ i j a b e. omega arith) t.profile);
    }

interval_entered : (p : Pasts) (r : Interval) (h : Head) (bs : List Block) → IntervalFits r → length h.logs ≡ 3 → TiedAll p h bs →
    TiedAll (pushed (interval r) p) (set_log LoadProfile (appended load_profile_log (log_of LoadProfile h)) h) (put_slot load_profile_log ((log_of LoadProfile h).total % 672) (interval_bytes r) bs)
interval_entered p r h bs fits three t =
    let slot : ℕ = (log_of LoadProfile h).total % 672 in
    let below : slot < 672 = omega arith in
    record {
      history = elsewhere h.logs 0 2 _ (λ e. omega arith) (put_apart event_record_of history_log _ _ load_profile_log slot (interval_bytes r) bs (omega arith) profile_fits below (interval_long r) (λ i j a b e. omega arith) t.history);
      self_reads = elsewhere h.logs 1 2 _ (λ e. omega arith) (put_apart self_read_of self_read_log _ _ load_profile_log slot (interval_bytes r) bs (omega arith) profile_fits below (interval_long r) (λ i j a b e. omega arith) t.self_reads);
      profile = here h.logs 2 _ (omega arith) (profile_done (log_of LoadProfile h) bs p.profile (appending r) fits t.profile);
    }

-- a call that goes on with one entry more
goes_on : (base : Pasts) (es : List Recorded) (x : Recorded) (h : Head) (bs : List Block) → TiedAll (pushed x (entered_all es base)) h bs → TiedAll (entered_all (es ++ x ∷ []) base) h bs
goes_on base es x h bs t = subst (λ (p : Pasts). TiedAll p h bs) (sym (all_pushed es x base)) t

pub tied_event : (base : Pasts) (r : EventRecord) (g : Going) → EventRecordFits r → length g.head.logs ≡ 3 → Tied base g → Tied base (step.entered History (event_record_bytes r) (event r) g)
unfolding step.entered
tied_event base r g fits three t = goes_on base g.entries (event r) _ _ (event_entered (entered_all g.entries base) r g.head g.blocks fits three t)

pub tied_self_read : (base : Pasts) (r : SelfRead) (g : Going) → SelfReadFits r → length g.head.logs ≡ 3 → Tied base g → Tied base (step.entered SelfReads (self_read_bytes r) (self_read r) g)
unfolding step.entered
tied_self_read base r g fits three t = goes_on base g.entries (self_read r) _ _ (self_read_entered (entered_all g.entries base) r g.head g.blocks fits three t)

pub tied_interval : (base : Pasts) (r : Interval) (g : Going) → IntervalFits r → length g.head.logs ≡ 3 → Tied base g → Tied base (step.entered LoadProfile (interval_bytes r) (interval r) g)
unfolding step.entered
tied_interval base r g fits three t = goes_on base g.entries (interval r) _ _ (interval_entered (entered_all g.entries base) r g.head g.blocks fits three t)

-- a head with the same logs
pub tied_head : (base : Pasts) (f : Head → Head) (g : Going) → (f g.head).logs ≡ g.head.logs → Tied base g → Tied base (on_head f g)
tied_head base f g same t = record {
  history = subst (λ (ls : List LogHead). TiedLog event_record_of history_log (get_or ls 0 empty_head) g.blocks (entered event_in g.entries base.history)) (sym same) t.history;
  self_reads = subst (λ (ls : List LogHead). TiedLog self_read_of self_read_log (get_or ls 1 empty_head) g.blocks (entered self_read_in g.entries base.self_reads)) (sym same) t.self_reads;
  profile = subst (λ (ls : List LogHead). TiedLog interval_of load_profile_log (get_or ls 2 empty_head) g.blocks (entered interval_in g.entries base.profile)) (sym same) t.profile;
}

-- a block below those of the logs is written
below_logs : {R : Type 0} (parsed : List ℕ → Option R) (log : Log) (h : LogHead) (bs : List Block) (past : List (Deed R)) (k : ℕ) (content : List ℕ) →
    0 < log.size → k < log.first → length content ≡ 510 → TiedLog parsed log h bs past → TiedLog parsed log h (stored bs k content) past
unfolding slot_bytes
below_logs parsed log h bs past k content some low long t =
    log_beside parsed log h bs (stored bs k content) past some (ready_stored bs k content t.matches.ready) (whole_stored bs k content t.matches.whole long)
    (λ i l. ap (part log.width (slot_place log i)) (content_other bs k (slot_block log i) content (λ e. omega arith))) t

pub all_below : (p : Pasts) (h : Head) (bs : List Block) (k : ℕ) (content : List ℕ) → k < 8 → length content ≡ 510 → TiedAll p h bs → TiedAll p h (stored bs k content)
all_below p h bs k content low long t = record {
  history = below_logs event_record_of history_log _ bs _ k content (omega arith) low long t.history;
  self_reads = below_logs self_read_of self_read_log _ bs _ k content (omega arith) (omega arith) long t.self_reads;
  profile = below_logs interval_of load_profile_log _ bs _ k content (omega arith) (omega arith) long t.profile;
}
