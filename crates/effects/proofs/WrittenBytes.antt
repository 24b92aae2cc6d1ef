-- What a write leaves in the table that it names.
use Rattle.std.proofs.Common.{◌≡◌, ℕ, ◌+◌, ◌<◌, ◌≤◌, true, List, [], ◌++◌, length, get_or, take, drop, Some, None, Ok, Option, sym, refl, ap, ◌∙◌, ap₂, arith, rules}
use Rattle.std.proofs.lemmas.List.{places, same_lists, get_or-set_same, length-drop, take-append-drop}
use Rattle.std.proofs.lemmas.Bool.{true≢false}
use Rattle.access.specs.Ready.{content_of}
use Rattle.access.proofs.Readiness.{content_long}
use Rattle.fields.specs.Words.{part}
use Rattle.fields.specs.Patches.{patch}
use Rattle.fields.proofs.Places.{part_patch_same}
use Rattle.memory.specs.Blocks.{Block, content_or}
use Rattle.numbers.specs.declared.service.Service.TheVariants.{PartialWrite}
use Rattle.records.specs.declared.event.Event.TheVariants.{TableWritten}
use Rattle.pending.specs.declared.row.Row.{Row}
use Rattle.pending.specs.declared.row.Row.TheVariants.{Empty}
use Rattle.pending.specs.declared.table.PendingTable.{PendingTable}
use Rattle.pending.specs.Rows.{row_plan_bytes}
use Rattle.pending.specs.Tables.{table_index}
use Rattle.directory.specs.declared.entry.Source.{Source}
use Rattle.directory.specs.declared.entry.Source.TheVariants as source
use Rattle.directory.specs.declared.entry.TableEntry.{TableEntry}
use Rattle.directory.specs.Geometry.{staged_length, current_block, pending_block}
use Rattle.directory.specs.Uses.{allows, least}
use Rattle.head.specs.Heads.{rows_from}
use Rattle.model.specs.States.{Meter, begun, on_blocks, row_of}
use Rattle.model.specs.Calls.{totals_verdict}
use Rattle.model.specs.Tables.{table_bytes}
use Rattle.model.specs.Requests.{writing, staging, write_all, content_verdict}
use Rattle.model.specs.Serving.{put_in, write_done, stage_done, head_of, performed, limited}
use Rattle.model.specs.Soundness.{SoundMeter}
use Rattle.effects.specs.Reads.{shown}
use Rattle.effects.specs.Writes.{IsWritten}
use Rattle.logs.proofs.SlotWrites.{content_same}
use Rattle.model.proofs.Places.{current_place, pending_place, staged_short, index_low, part_patch_within}
use Rattle.model.proofs.FoundTables.{length_of, block_of, use_of, entry_of}
use Rattle.model.proofs.Accepting.{fits}
use Rattle.effects.proofs.AlteredBlocks.{ended_left, noted_at_left}
use Rattle.effects.proofs.Reading.{table_long}
use Rattle.model.proofs.ServingSound.{of_meter_lem}
use Rattle.effects.proofs.HeadsAfter.{rows_staged, staged_row, staged_row_lem}

-- a patch of all of a list
patch_all_lem : (new old : List ℕ) → length new ≡ length old → patch 0 new old ≡ new
unfolding patch
patch_all_lem new old same = same_lists _ _ (search (rules, places)) (λ k d h. grind (arith, places))

-- the content of the block that bytes went into
put_content : (b : Option ℕ) (from : ℕ) (bytes : List ℕ) (bs : List Block) (n : ℕ) → b ≡ Some n → n < length bs → content_of (put_in b from bytes bs) n ≡ patch from bytes (content_of bs n)
put_content None from bytes bs n e l = let z : ◌≡◌ {A = ℕ} 0 1 = cc in absurd (omega arith)
put_content (Some j) from bytes bs n e l = let same : n ≡ j = cc in rw same (content_same bs j _ (omega arith))

written_content : (t : TableEntry) (from : ℕ) (bytes : List ℕ) (m : Meter) (n : ℕ) → SoundMeter m → t.block ≡ Some n → 0 < n → n < 8 → content_of (performed (writing t from bytes) m).meter.blocks n ≡ patch from bytes (content_of m.blocks n)
unfolding performed
written_content t from bytes m n good e low high =
    let put = on_blocks (put_in t.block from bytes) (begun m.blocks) in
    ap (content_or []) (ended_left (write_done m t from bytes) n (λ z. omega arith) ∙ noted_at_left m.clock (TableWritten t.number) put n (λ z. omega arith))
    ∙ put_content t.block from bytes m.blocks n e (omega (arith, good.image.ready.enough))

staged_content : (t : TableEntry) (table : PendingTable) (bytes : List ℕ) (m : Meter) → SoundMeter m → content_of (performed (staging t table bytes) m).meter.blocks (pending_block table) ≡ patch 0 (drop 6 bytes) (content_of m.blocks (pending_block table))
unfolding performed
staged_content t table bytes m good =
    let at = pending_place table in
    ap (content_or []) (ended_left (stage_done m t table bytes) (pending_block table) (λ z. omega arith) ∙ noted_at_left m.clock (TableWritten t.number) _ (pending_block table) (λ z. omega arith))
    ∙ content_same m.blocks (pending_block table) _ (omega (arith, good.image.ready.enough))

-- the table that is written
front_written : (src : Source) (n size from : ℕ) (content : List ℕ) (m : Meter) → SoundMeter m → block_of src ≡ Some n → 0 < n → n < 8 → size ≤ 510 → from + length content ≤ size →
    part size 0 (content_of (performed (writing (entry_of src) from content) m).meter.blocks n) ≡ patch from content (part size 0 (content_of m.blocks n))
front_written src n size from content m good e low high small fits =
    ap (part size 0) (written_content (entry_of src) from content m n good e low high)
    ∙ part_patch_within size from content (content_of m.blocks n) fits (omega (arith, content_long m.blocks good.image.whole good.image.ready n (omega arith)))

utility_written : (from : ℕ) (content : List ℕ) (m : Meter) → SoundMeter m → from + length content ≤ 40 → shown (entry_of source.Utility) (performed (writing (entry_of source.Utility) from content) m).meter ≡ patch from content (shown (entry_of source.Utility) m)
unfolding table_bytes
utility_written from content m good fits = front_written source.Utility 1 40 from content m good refl (omega arith) (omega arith) (omega arith) fits

current_written : (t : PendingTable) (from : ℕ) (content : List ℕ) (m : Meter) → SoundMeter m → from + length content ≤ staged_length t →
    shown (entry_of (source.Staged t)) (performed (writing (entry_of (source.Staged t)) from content) m).meter ≡ patch from content (shown (entry_of (source.Staged t)) m)
unfolding table_bytes
current_written t from content m good fits = front_written (source.Staged t) (current_block t) (staged_length t) from content m good refl (omega (arith, (current_place t).0)) (omega (arith, (current_place t).1)) (staged_short t) fits

three_rows : (m : Meter) → length (head_of m).rows ≡ 3
unfolding rows_from
three_rows m = refl

pub row_staged : (t : TableEntry) (table : PendingTable) (content : List ℕ) (m : Meter) → SoundMeter m → limited (staging t table content) m.blocks ≡ Ok tt → row_of table (head_of (performed (staging t table content) m).meter) ≡ staged_row content m
row_staged t table content m good h =
    ap (λ (rows : List Row). get_or rows (table_index table) Empty) (rows_staged t table content m good (of_meter_lem (totals_verdict m.blocks) h))
    ∙ get_or-set_same (head_of m).rows (table_index table) (staged_row content m) Empty (omega (arith, three_rows m, index_low table))

staged_shown : (t : TableEntry) (table : PendingTable) (content : List ℕ) (m : Meter) → SoundMeter m → length content ≡ staged_length table + 6 → content_verdict (staging t table content) m.clock m.blocks ≡ Ok tt → limited (staging t table content) m.blocks ≡ Ok tt →
    shown (entry_of (source.Pending table)) (performed (staging t table content) m).meter ≡ content
unfolding table_bytes
staged_shown t table content m good long right limit =
    let behind : length (drop 6 content) ≡ staged_length table = rw length-drop (omega arith) in
    let old : length (content_of m.blocks (pending_block table)) ≡ 510 = content_long m.blocks good.image.whole good.image.ready (pending_block table) (omega (arith, (pending_place table).1)) in
    let bytes : part (staged_length table) 0 (content_of (performed (staging t table content) m).meter.blocks (pending_block table)) ≡ drop 6 content =
    ap (part (staged_length table) 0) (staged_content t table content m good)
    ∙ part_patch_same 0 (staged_length table) (drop 6 content) (content_of m.blocks (pending_block table)) (omega (arith, staged_short table)) behind in
    let row : row_plan_bytes (row_of table (head_of (performed (staging t table content) m).meter)) ≡ take 6 content = ap row_plan_bytes (row_staged t table content m good limit) ∙ (staged_row_lem t table content m (omega arith) right).1 in
    ap₂ (λ (a b : List ℕ). a ++ b) row bytes ∙ take-append-drop 6 content

-- a whole table that was written is what was sent
pub whole_written : (src : Source) (content : List ℕ) (m : Meter) → SoundMeter m → IsWritten src → least (length_of src) src ≤ length content → length content ≤ length_of src →
    content_verdict (write_all src (entry_of src) content) m.clock m.blocks ≡ Ok tt → limited (write_all src (entry_of src) content) m.blocks ≡ Ok tt → shown (entry_of src) (performed (write_all src (entry_of src) content) m).meter ≡ content
whole_written (source.Computed v) content m good w low high right limit = absurd w
whole_written source.Initiate content m good w low high right limit = absurd w
whole_written source.Utility content m good w low high right limit = utility_written 0 content m good (omega arith) ∙ patch_all_lem content _ (omega (arith, table_long source.Utility m good refl))
whole_written (source.Staged t) content m good w low high right limit = current_written t 0 content m good (omega arith) ∙ patch_all_lem content _ (omega (arith, table_long (source.Staged t) m good refl))
whole_written (source.Pending t) content m good w low high right limit = staged_shown (entry_of (source.Pending t)) t content m good (omega arith) right limit
whole_written (source.Log name) content m good w low high right limit = absurd w

pub part_written : (src : Source) (offset : ℕ) (content : List ℕ) (m : Meter) → SoundMeter m → allows (use_of src) PartialWrite ≡ true → offset + length content ≤ length_of src →
    shown (entry_of src) (performed (writing (entry_of src) offset content) m).meter ≡ patch offset content (shown (entry_of src) m)
part_written (source.Computed v) offset content m good al fits = absurd (true≢false (sym al))
part_written source.Initiate offset content m good al fits = absurd (true≢false (sym al))
part_written source.Utility offset content m good al fits = utility_written offset content m good fits
part_written (source.Staged t) offset content m good al fits = current_written t offset content m good fits
part_written (source.Pending t) offset content m good al fits = absurd (true≢false (sym al))
part_written (source.Log name) offset content m good al fits = absurd (true≢false (sym al))
