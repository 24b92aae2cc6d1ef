-- The table of a log shows what was done to the log.
use Rattle.std.proofs.Common.{◌≡◌, ℕ, ◌+◌, ◌-◌, ◌*◌, ◌%◌, ◌<◌, ◌≤◌, min, true, leb, List, map, Some, Option, sym, refl, ap, ◌∙◌, ap₂, mod-lt, arith}
use Rattle.std.specs.List.{range_with_len}
use Rattle.std.proofs.lemmas.Bool.{and_parts, leb-true}
use Rattle.access.specs.Ready.{content_of}
use Rattle.fields.specs.Words.{part, le_value, word}
use Rattle.fields.proofs.Numbers.{le_value_bytes}
use Rattle.memory.specs.Blocks.{Block}
use Rattle.numbers.specs.declared.log.LogName.{LogName}
use Rattle.numbers.specs.declared.log.LogName.TheVariants.{History, SelfReads, LoadProfile}
use Rattle.records.specs.Layouts.{event_record_of, self_read_of, interval_of}
use Rattle.logs.specs.declared.log.Log.{Log}
use Rattle.logs.specs.declared.head.LogHead.{LogHead}
use Rattle.logs.specs.Heads.{empty_head}
use Rattle.logs.specs.Places.{history_log, self_read_log, load_profile_log}
use Rattle.logs.specs.Slots.{slot_block, slot_place, slot_bytes, Fitting}
use Rattle.logs.specs.Tables.{is_held, head_bytes, log_table}
use Rattle.logs.specs.Deeds.{Deed}
use Rattle.logs.specs.Laws.{numbered, entry_in}
use Rattle.logs.proofs.Ages.{lies_true}
use Rattle.logs.proofs.Rings.{same_counted}
use Rattle.logs.proofs.Runs.{book_told}
use Rattle.logs.proofs.TableParts.{shown_held, head_in_table, slot_in_table}
use Rattle.head.specs.declared.head.Head.{Head}
use Rattle.head.specs.Layout.{log_sizes}
use Rattle.head.specs.Order.{LogFormed, WellFormed}
use Rattle.model.specs.States.{log_of}
use Rattle.model.proofs.Keeping.{logs_at}
use Rattle.ledger.specs.Statement.{held_shown, total_shown, unread_shown, entry_shown, LogStands}
use Rattle.model.proofs.Keeping.{history_fits, self_reads_fit, profile_fits}
use Rattle.ledger.proofs.Tied.{TiedLog, Pasts, TiedAll}

-- the counts at the head of the table
pub held_shown_lem : (log : Log) (h : LogHead) (bs : List Block) → h.held < 65536 → held_shown (log_table log h bs) ≡ h.held
unfolding word head_bytes
held_shown_lem log h bs small = ap le_value (sym (head_in_table log h bs 0 2 (omega arith))) ∙ le_value_bytes 2 h.held small

pub total_shown_lem : (log : Log) (h : LogHead) (bs : List Block) → h.total < 4294967296 → total_shown (log_table log h bs) ≡ h.total
unfolding word head_bytes
total_shown_lem log h bs small = ap le_value (sym (head_in_table log h bs 4 4 (omega arith))) ∙ le_value_bytes 4 h.total small

pub unread_shown_lem : (log : Log) (h : LogHead) (bs : List Block) → h.unread < 65536 → unread_shown (log_table log h bs) ≡ h.unread
unfolding word head_bytes
unread_shown_lem log h bs small = ap le_value (sym (head_in_table log h bs 8 2 (omega arith))) ∙ le_value_bytes 2 h.unread small

-- the slot of a held entry is held, and the table shows its bytes
entry_held : (log : Log) (h : LogHead) (s : ℕ) → h.held ≤ h.total → h.total - h.held ≤ s → s < h.total - h.held + h.held → is_held log h (s % log.size) ≡ true
unfolding is_held
entry_held log h s early from to = lies_true log.size (s % log.size) (h.total - h.held) (min h.held h.total) s from (omega arith) refl

module _ {R : Type 0} (parsed : List ℕ → Option R) (log : Log) (h : LogHead) (bs : List Block) (past : List (Deed R)) (fitting : Fitting log) (t : TiedLog parsed log h bs past) where
  slot_shown : (slot : ℕ) → slot < log.size → is_held log h slot ≡ true → part log.width (10 + slot * log.width) (log_table log h bs) ≡ slot_bytes log slot bs
  unfolding slot_bytes
  slot_shown slot below held =
      let place : slot_place log slot + 0 ≡ slot_place log slot = omega arith in
      sym (slot_in_table log h bs (10 + slot * log.width) slot 0 log.width t.matches.whole t.matches.ready fitting below (omega arith) (omega arith))
      ∙ sym (shown_held log h bs slot 0 log.width held (omega arith)) ∙ ap (λ k. part log.width k (content_of bs (slot_block log slot))) place

  entry_shown_lem : (s : ℕ) → h.total - h.held ≤ s → s < h.total - h.held + h.held → entry_shown log.size log.width parsed (log_table log h bs) s ≡ entry_in parsed log bs s
  entry_shown_lem s from to =
      ap (λ x. numbered s (parsed x)) (slot_shown (s % log.size) (mod-lt s fitting.some) (entry_held log h s t.matches.early from to))

  pub log_stands : log.size < 65536 → h.total < 4294967296 → LogStands log.size log.width parsed (log_table log h bs) past
  log_stands short small =
      let mt = t.matches in
      let bal = t.balanced in
      let told = book_told log.size fitting.some past in
      let total = total_shown_lem log h bs small in
      let held = held_shown_lem log h bs (omega arith) in
      let unread = unread_shown_lem log h bs (omega arith) in
      record {
        recorded = total ∙ mt.total ∙ told.recorded;
        counted = told.recorded;
        acknowledged = told.acknowledged;
        unread = unread ∙ mt.unread;
        held =
            ap₂ (λ a b. map (entry_shown log.size log.width parsed (log_table log h bs)) (range_with_len (a - b) b)) total held
            ∙ same_counted (entry_shown log.size log.width parsed (log_table log h bs)) (entry_in parsed log bs) (h.total - h.held) h.held entry_shown_lem
            ∙ mt.entries ∙ ap (map Some) told.held;
        split = sym told.held;
        balance = omega (arith, total, unread, mt.total, mt.unread, told.acknowledged);
      }

-- the three logs of a meter
abbrev size_of : LogName → ℕ
size_of History = 102
size_of SelfReads = 24
size_of LoadProfile = 672

log_formed : (h : Head) (name : LogName) → WellFormed h → LogFormed (size_of name) (log_of name h)
log_formed h History w = logs_at log_sizes h.logs 0 empty_head w.logs (omega arith)
log_formed h SelfReads w = logs_at log_sizes h.logs 1 empty_head w.logs (omega arith)
log_formed h LoadProfile w = logs_at log_sizes h.logs 2 empty_head w.logs (omega arith)

size_small : (name : LogName) → size_of name < 65536
size_small History = omega arith
size_small SelfReads = omega arith
size_small LoadProfile = omega arith

pub total_fits : (h : Head) (name : LogName) → WellFormed h → (log_of name h).total < 4294967296
total_fits h name w = (log_formed h name w).fits

pub held_fits : (h : Head) (name : LogName) → WellFormed h → (log_of name h).held < 65536
held_fits h name w =
    let l = log_of name h in
    let few : l.held ≤ size_of name = leb-true _ _ (and_parts (leb l.held (size_of name)) _ (and_parts (leb l.unread l.held) _ (log_formed h name w).counts).1).0 in
    omega (arith, size_small name)

pub unread_fits : (h : Head) (name : LogName) → WellFormed h → (log_of name h).unread < 65536
unread_fits h name w =
    let l = log_of name h in
    let few : l.unread ≤ l.held = leb-true _ _ (and_parts (leb l.unread l.held) _ (log_formed h name w).counts).0 in
    omega (arith, held_fits h name w)

module _ (p : Pasts) (h : Head) (bs : List Block) (formed : WellFormed h) (t : TiedAll p h bs) where
  pub history_stands : LogStands 102 10 event_record_of (log_table history_log (log_of History h) bs) p.history
  history_stands = log_stands event_record_of history_log (log_of History h) bs p.history history_fits t.history (omega arith) (total_fits h History formed)

  pub self_reads_stand : LogStands 24 26 self_read_of (log_table self_read_log (log_of SelfReads h) bs) p.self_reads
  self_reads_stand = log_stands self_read_of self_read_log (log_of SelfReads h) bs p.self_reads self_reads_fit t.self_reads (omega arith) (total_fits h SelfReads formed)

  pub profile_stands : LogStands 672 11 interval_of (log_table load_profile_log (log_of LoadProfile h) bs) p.profile
  profile_stands = log_stands interval_of load_profile_log (log_of LoadProfile h) bs p.profile profile_fits t.profile (omega arith) (total_fits h LoadProfile formed)
