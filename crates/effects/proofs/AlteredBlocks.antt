-- The blocks that each call may alter.
use Rattle.std.proofs.Common.{◌≡◌, ℕ, zero, suc, ◌+◌, ◌-◌, ◌%◌, ◌≤◌, Bool, true, false, cond, eqb, ◌≢◌, List, [], ◌∷◌, length, get_or, drop, Some, None, Ok, Err, Option, Result, sym, refl, ap, ◌∙◌, inl, inr, arith}
use Rattle.std.specs.List.{range_with_len}
use Rattle.std.proofs.lemmas.List.{get_or-append_right, get_or-drop}
use Rattle.std.proofs.lemmas.Bool.{true≢false, eqb-false, ne_eqb, cases_lt}
use Rattle.access.specs.Ready.{needed, size_verdict, ready_verdict}
use Rattle.memory.specs.declared.fault.MemoryFault.{MemoryFault}
use Rattle.memory.specs.Blocks.{Block, corrupt}
use Rattle.numbers.specs.declared.log.LogName.TheVariants.{History, LoadProfile}
use Rattle.numbers.specs.declared.procedure.ProcedureResult.{ProcedureResult}
use Rattle.refusals.specs.declared.fault.MeterFault.{MeterFault}
use Rattle.records.specs.declared.event.Event.{Event}
use Rattle.logs.specs.Places.{history_log}
use Rattle.logs.specs.Slots.{slot_block}
use Rattle.pending.specs.declared.table.PendingTable.{PendingTable}
use Rattle.request.specs.declared.part.Part.{Part}
use Rattle.request.specs.Parts.{whole_part}
use Rattle.request.specs.Asks.{Ask, full_read, partial_read, full_write, partial_write, service_of}
use Rattle.directory.specs.declared.entry.Source.{Source}
use Rattle.directory.specs.declared.entry.Source.TheVariants as source
use Rattle.directory.specs.declared.entry.TableEntry.{TableEntry}
use Rattle.directory.specs.Geometry.{current_block, pending_block}
use Rattle.directory.specs.Lawful.{has}
use Rattle.directory.specs.Uses.{is_read, allows}
use Rattle.model.specs.States.{Meter, Going, Recorded, begun, ended, log_of}
use Rattle.model.specs.Steps.{noted}
use Rattle.model.specs.Calls.{fresh_blocks, formatted, format_if, start_verdict, started_if, power_up, tick_verdict, tick_if, ticked, ended_if_any, energy_if, feeding, of_memory}
use Rattle.model.specs.Procedures.{Order, called, called_number, clock_after, carried_out}
use Rattle.model.specs.Requests.{Deed, reading, writing, staging, calling}
use Rattle.model.specs.Serving.{put_in, write_done, stage_done, call_done, head_of, performed}
use Rattle.model.proofs.Outcomes.{ok_same}
use Rattle.effects.specs.Alters.{AltersOnly, next_block, activity_blocks, write_blocks, Alters}
use Rattle.model.proofs.FoundTables.{length_of, entry_of, use_of}
use Rattle.model.proofs.Accepting.{Fits, accepted_from}
use Rattle.effects.proofs.Accepting.{known_as, served_leaves}
use Rattle.effects.proofs.Altering.{Apart, left_stored, entry_left, power_left, ticked_left, carried_left}

unlisted : (k n : ℕ) (ns : List ℕ) → has k (n ∷ ns) ≡ false → (k ≢ n) × (has k ns ≡ false)
unlisted k n ns h = go (eqb k n) refl h
  where
    go : (b : Bool) → eqb k n ≡ b → cond b true (has k ns) ≡ false → (k ≢ n) × (has k ns ≡ false)
    go true e q = absurd (true≢false q)
    go false e q = (eqb-false k n e, q)

pub not_listed : (k n : ℕ) (ns : List ℕ) → k ≢ n → has k ns ≡ false → has k (n ∷ ns) ≡ false
not_listed k n ns ne rest = rw (ne_eqb k n ne) rest

pub three_unlisted : (k n j : ℕ) → k ≢ 0 → k ≢ n → k ≢ j → has k (0 ∷ n ∷ j ∷ []) ≡ false
three_unlisted k n j a b c = not_listed k 0 (n ∷ j ∷ []) a (not_listed k n (j ∷ []) b (not_listed k j [] c refl))

-- a block that is not listed among those of activations
apart_from : (k : ℕ) → has k activity_blocks ≡ false → (k ≢ 0) × Apart k
apart_from k h =
    let a = unlisted k 0 (2 ∷ 3 ∷ 4 ∷ 8 ∷ 9 ∷ 10 ∷ 11 ∷ []) h in
    let b = unlisted k 2 (3 ∷ 4 ∷ 8 ∷ 9 ∷ 10 ∷ 11 ∷ []) a.1 in
    let c = unlisted k 3 (4 ∷ 8 ∷ 9 ∷ 10 ∷ 11 ∷ []) b.1 in
    let d = unlisted k 4 (8 ∷ 9 ∷ 10 ∷ 11 ∷ []) c.1 in
    let e = unlisted k 8 (9 ∷ 10 ∷ 11 ∷ []) d.1 in
    let f = unlisted k 9 (10 ∷ 11 ∷ []) e.1 in
    let g = unlisted k 10 (11 ∷ []) f.1 in
    let i = unlisted k 11 [] g.1 in
    (a.0, record { calendar = b.0; outputs = c.0; override = d.0; history = e.0; history' = f.0; self_reads = g.0; self_reads' = i.0 })

past : (k n count : ℕ) → has k (range_with_len n count) ≡ false → n ≤ k → n + count ≤ k
past k n zero h from = omega arith
past k n (suc count) h from =
    let u = unlisted k n (range_with_len (n + 1) count) h in
    omega (arith, past k (n + 1) count u.1 (beyond u.0))
  where
    beyond : k ≢ n → n + 1 ≤ k
    beyond ne = elim (cases_lt n k) [ inl lt ↦ omega arith | inr le ↦ absurd (ne (omega arith)) ]

pub fresh_long : (n count : ℕ) → length (fresh_blocks n count) ≡ count
fresh_long n zero = refl
fresh_long n (suc count) = ap suc (fresh_long (n + 1) count)

formatted_left : (bs : List Block) → AltersOnly (range_with_len 0 needed) bs (formatted bs)
unfolding formatted
formatted_left bs k h =
    let on : 0 + 27 ≤ k = past k 0 27 h (omega arith) in
    let same : 27 + (k - 27) ≡ k = omega arith in
    get_or-append_right (fresh_blocks 0 27) (drop 27 bs) 27 k corrupt (fresh_long 0 27) (omega arith) ∙ get_or-drop 27 bs (k - 27) corrupt ∙ ap (λ i. get_or bs i corrupt) same

format_left : (v : Result (Unit {0}) MemoryFault) (bs : List Block) → AltersOnly (range_with_len 0 needed) bs (format_if v bs).blocks
format_left (Ok x) bs = formatted_left bs
format_left (Err e) bs = λ k h. refl

-- block 0 is written as a call ends
pub ended_left : (g : Going) (k : ℕ) → k ≢ 0 → get_or (ended g) k corrupt ≡ get_or g.blocks k corrupt
unfolding ended
ended_left g k ne = left_stored g.blocks 0 k _ ne

start_left : (v : Result (Unit {0}) MeterFault) (s : ℕ) (bs : List Block) → AltersOnly activity_blocks bs (started_if v s (begun bs)).blocks
start_left (Ok x) s bs k h =
    let a = apart_from k h in
    ended_left (power_up s (begun bs)) k a.0 ∙ (power_left k a.1 s (begun bs)).block
start_left (Err e) s bs k h = refl

ended_if_any_left : (es : List Recorded) (g : Going) (k : ℕ) → k ≢ 0 → get_or (ended_if_any es g) k corrupt ≡ get_or g.blocks k corrupt
ended_if_any_left [] g k ne = refl
ended_if_any_left (e ∷ es) g k ne = ended_left g k ne

tick_left : (v : Result (Unit {0}) MeterFault) (m : Meter) → AltersOnly (next_block LoadProfile m.blocks ∷ activity_blocks) m.blocks (tick_if v m (ticked (m.clock + 1) (begun m.blocks))).meter.blocks
tick_left (Ok x) m k h =
    let u = unlisted k (next_block LoadProfile m.blocks) activity_blocks h in
    let a = apart_from k u.1 in
    let g = ticked (m.clock + 1) (begun m.blocks) in
    ended_if_any_left g.entries g k a.0 ∙ ticked_left k a.1 (m.clock + 1) (begun m.blocks) u.0
tick_left (Err e) m k h = refl

energy_left : (v : Result (Unit {0}) MeterFault) (wh : ℕ) (m : Meter) → AltersOnly (0 ∷ []) m.blocks (energy_if v m (feeding m.clock wh (begun m.blocks))).meter.blocks
unfolding feeding
energy_left (Ok x) wh m k h = ended_left _ k (unlisted k 0 [] h).0
energy_left (Err e) wh m k h = refl

-- serving, by what is done
put_left : (b : Option ℕ) (from : ℕ) (bytes : List ℕ) (bs : List Block) (n k : ℕ) → b ≡ Some n → k ≢ n → get_or (put_in b from bytes bs) k corrupt ≡ get_or bs k corrupt
put_left None from bytes bs n k e ne = refl
put_left (Some j) from bytes bs n k e ne = let same : j ≡ n = cc in left_stored bs j k _ (λ q. ne (q ∙ same))

pub noted_at_left : (clock : ℕ) (e : Event) (g : Going) (k : ℕ) → k ≢ slot_block history_log ((log_of History g.head).total % 102) → get_or (noted clock e g).blocks k corrupt ≡ get_or g.blocks k corrupt
unfolding noted
noted_at_left clock e g k ne = entry_left History _ _ g k ne

writing_left : (t : TableEntry) (from : ℕ) (bytes : List ℕ) (m : Meter) (n : ℕ) → t.block ≡ Some n → AltersOnly (0 ∷ n ∷ next_block History m.blocks ∷ []) m.blocks (performed (writing t from bytes) m).meter.blocks
unfolding performed
writing_left t from bytes m n e k h =
    let a = unlisted k 0 (n ∷ next_block History m.blocks ∷ []) h in
    let b = unlisted k n (next_block History m.blocks ∷ []) a.1 in
    let c = unlisted k (next_block History m.blocks) [] b.1 in
    ended_left (write_done m t from bytes) k a.0 ∙ noted_at_left m.clock _ _ k c.0 ∙ put_left t.block from bytes m.blocks n k e b.0

staging_left : (t : TableEntry) (table : PendingTable) (bytes : List ℕ) (m : Meter) → AltersOnly (0 ∷ pending_block table ∷ next_block History m.blocks ∷ []) m.blocks (performed (staging t table bytes) m).meter.blocks
unfolding performed
staging_left t table bytes m k h =
    let a = unlisted k 0 (pending_block table ∷ next_block History m.blocks ∷ []) h in
    let b = unlisted k (pending_block table) (next_block History m.blocks ∷ []) a.1 in
    let c = unlisted k (next_block History m.blocks) [] b.1 in
    ended_left (stage_done m t table bytes) k a.0 ∙ noted_at_left m.clock _ _ k c.0 ∙ left_stored m.blocks (pending_block table) k _ b.0

called_left : (bytes : List ℕ) (m : Meter) (r : Result Order ProcedureResult) → AltersOnly activity_blocks m.blocks (call_done m bytes r).meter.blocks
called_left bytes m (Ok o) k h =
    let a = apart_from k h in
    ended_left (carried_out (clock_after m.clock o) (called_number bytes) o (begun m.blocks)) k a.0 ∙ carried_left k a.1 (clock_after m.clock o) (called_number bytes) o (begun m.blocks)
called_left bytes m (Err e) k h = refl

calling_left : (bytes : List ℕ) (m : Meter) → AltersOnly activity_blocks m.blocks (performed (calling bytes) m).meter.blocks
unfolding performed
calling_left bytes m = called_left bytes m (called bytes (head_of m))

pub reading_left : (t : TableEntry) (p : Part) (m : Meter) → (performed (reading t p) m).meter ≡ m
unfolding performed
reading_left t p m = refl

-- a request alters what its table's source says, and a read nothing
pub deed_left : (src : Source) (a : Ask) (d : Deed) (m : Meter) → allows (use_of src) (service_of a) ≡ true → Fits (entry_of src) a d → AltersOnly (write_blocks src m.blocks) m.blocks (performed d m).meter.blocks
deed_left src (full_read n) d m u f k h = rw (f.0, reading_left (entry_of src) (whole_part (length_of src)) m)
deed_left src (partial_read n offset count) d m u f k h = rw (f.0, reading_left (entry_of src) (record { from = offset; count = count }) m)
deed_left (source.Computed v) (full_write n content) d m u f k h = absurd (true≢false (sym u))
deed_left source.Initiate (full_write n content) d m u f k h = rw f.0 (calling_left content m k h)
deed_left source.Utility (full_write n content) d m u f k h = rw f.0 (writing_left (entry_of source.Utility) 0 content m 1 refl k h)
deed_left (source.Staged t) (full_write n content) d m u f k h = rw f.0 (writing_left (entry_of (source.Staged t)) 0 content m (current_block t) refl k h)
deed_left (source.Pending t) (full_write n content) d m u f k h = rw f.0 (staging_left (entry_of (source.Pending t)) t content m k h)
deed_left (source.Log name) (full_write n content) d m u f k h = absurd (true≢false (sym u))
deed_left (source.Computed v) (partial_write n offset content) d m u f k h = absurd (true≢false (sym u))
deed_left source.Initiate (partial_write n offset content) d m u f k h = absurd (true≢false (sym u))
deed_left source.Utility (partial_write n offset content) d m u f k h = rw f.0 (writing_left (entry_of source.Utility) offset content m 1 refl k h)
deed_left (source.Staged t) (partial_write n offset content) d m u f k h = rw f.0 (writing_left (entry_of (source.Staged t)) offset content m (current_block t) refl k h)
deed_left (source.Pending t) (partial_write n offset content) d m u f k h = absurd (true≢false (sym u))
deed_left (source.Log name) (partial_write n offset content) d m u f k h = absurd (true≢false (sym u))

pub read_left : (a : Ask) (t : TableEntry) (d : Deed) (m : Meter) → is_read (service_of a) ≡ true → Fits t a d → (performed d m).meter ≡ m
read_left (full_read n) t d m r f = ap (λ (x : Deed). (performed x m).meter) f.0 ∙ reading_left t _ m
read_left (partial_read n offset count) t d m r f = ap (λ (x : Deed). (performed x m).meter) f.0 ∙ reading_left t _ m
read_left (full_write n content) t d m r f = absurd (true≢false (sym r))
read_left (partial_write n offset content) t d m r f = absurd (true≢false (sym r))

pub alters : Alters
alters = record {
  format = λ bs. format_left (size_verdict bs) bs;
  start = λ bs s. start_left (start_verdict bs s) s bs;
  tick = λ m. tick_left (tick_verdict m) m;
  energy = λ wh m. energy_left (of_memory (ready_verdict m.blocks)) wh m;
  read = λ key bytes m answer scratch a ask r. served_leaves (λ x. x ≡ m) key bytes m answer scratch refl (λ d h.
      let x = accepted_from key bytes m d h in
      let same : x.0 ≡ a = ok_same (sym x.2 ∙ ask) in
      read_left x.0 (entry_of x.1) d m (ap (λ b. is_read (service_of b)) same ∙ r) x.3.fit);
  write = λ key bytes m answer scratch a t ask find. served_leaves (λ x. AltersOnly (write_blocks t.source m.blocks) m.blocks x.blocks) key bytes m answer scratch (λ k h. refl) (λ d h.
      let x = known_as key bytes m a t d ask find h in deed_left t.source a d m x.allowed x.fit);
}
