-- What a write leaves of every other table, and of every other row.
use Rattle.std.proofs.Common.{◌≡◌, ℕ, ◌+◌, ◌<◌, true, false, ◌≢◌, List, [], ◌∷◌, ◌++◌, get_or, Ok, sym, refl, ap, ◌∙◌, ap₂, inl, inr, arith}
use Rattle.std.proofs.lemmas.List.{get_or-set_other}
use Rattle.fields.specs.Words.{part}
use Rattle.memory.specs.Blocks.{Block, corrupt, content_or}
use Rattle.numbers.specs.declared.log.LogName.TheVariants.{History}
use Rattle.pending.specs.declared.row.Row.{Row}
use Rattle.pending.specs.declared.row.Row.TheVariants.{Empty}
use Rattle.pending.specs.declared.table.PendingTable.{PendingTable}
use Rattle.pending.specs.declared.table.PendingTable.TheVariants.{Calendar, Outputs, Override}
use Rattle.pending.specs.Rows.{row_plan_bytes}
use Rattle.pending.specs.Tables.{table_number, table_index}
use Rattle.request.specs.Parts.{whole_part}
use Rattle.request.specs.Asks.{Ask, full_read, partial_read, full_write, partial_write, service_of}
use Rattle.directory.specs.declared.entry.Source.{Source}
use Rattle.directory.specs.declared.entry.Source.TheVariants as source
use Rattle.directory.specs.declared.entry.TableEntry.{TableEntry}
use Rattle.directory.specs.Geometry.{staged_length, current_block, pending_block}
use Rattle.directory.specs.Lawful.{has}
use Rattle.directory.specs.Uses.{allows}
use Rattle.model.specs.States.{Meter, row_of}
use Rattle.model.specs.Calls.{totals_verdict}
use Rattle.model.specs.Tables.{table_bytes}
use Rattle.model.specs.Requests.{Deed, writing, staging}
use Rattle.model.specs.Serving.{head_of, performed, limited}
use Rattle.model.specs.Soundness.{SoundMeter}
use Rattle.effects.specs.Alters.{next_block, write_blocks}
use Rattle.effects.specs.Writes.{IsWritten}
use Rattle.model.proofs.Places.{current_place, pending_place, which_table}
use Rattle.model.proofs.FoundTables.{number_of, length_of, use_of, entry_of}
use Rattle.model.proofs.Accepting.{Fits}
use Rattle.effects.proofs.AlteredBlocks.{three_unlisted, reading_left}
use Rattle.model.proofs.ServingSound.{of_meter_lem}
use Rattle.effects.proofs.HeadsAfter.{rows_written, rows_staged, staged_row}

-- the block of a table that is written
abbrev pub place_of : Source → ℕ
place_of (source.Computed view) = 0
place_of source.Initiate = 0
place_of source.Utility = 1
place_of (source.Staged t) = current_block t
place_of (source.Pending t) = pending_block t
place_of (source.Log name) = 0

placed : (src : Source) → IsWritten src → (0 < place_of src) × (place_of src < 8)
placed (source.Computed v) w = absurd w
placed source.Initiate w = absurd w
placed source.Utility w = (omega arith, omega arith)
placed (source.Staged t) w = let at = current_place t in (omega arith, omega arith)
placed (source.Pending t) w = let at = pending_place t in (omega arith, omega arith)
placed (source.Log name) w = absurd w

-- a block tells the number of its table
abbrev tables_in : List ℕ
tables_in = 0 ∷ 6 ∷ 54 ∷ 2053 ∷ 2095 ∷ 4150 ∷ 6149 ∷ 6191 ∷ []

current_tells : (t : PendingTable) → get_or tables_in (current_block t) 0 ≡ table_number t
current_tells Calendar = refl
current_tells Outputs = refl
current_tells Override = refl

pending_tells : (t : PendingTable) → get_or tables_in (pending_block t) 0 ≡ 4096 + table_number t
pending_tells Calendar = refl
pending_tells Outputs = refl
pending_tells Override = refl

place_tells : (src : Source) → IsWritten src → get_or tables_in (place_of src) 0 ≡ number_of src
place_tells (source.Computed v) w = absurd w
place_tells source.Initiate w = absurd w
place_tells source.Utility w = refl
place_tells (source.Staged t) w = current_tells t
place_tells (source.Pending t) w = pending_tells t
place_tells (source.Log name) w = absurd w

places_apart : (src other : Source) → IsWritten src → IsWritten other → number_of other ≢ number_of src → place_of other ≢ place_of src
places_apart src other w v ne same = ne (sym (place_tells other v) ∙ ap (λ k. get_or tables_in k 0) same ∙ place_tells src w)

-- no other table's block is listed for a write
beside_write : (k n : ℕ) (bs : List Block) → 0 < k → k < 8 → k ≢ n → has k (0 ∷ n ∷ next_block History bs ∷ []) ≡ false
beside_write k n bs low high ne = three_unlisted k n (next_block History bs) (λ z. omega arith) ne (λ z. omega arith)

pub unlisted : (src other : Source) (bs : List Block) → IsWritten src → IsWritten other → number_of other ≢ number_of src → has (place_of other) (write_blocks src bs) ≡ false
unlisted (source.Computed v) other bs w v' ne = absurd w
unlisted source.Initiate other bs w v ne = absurd w
unlisted source.Utility other bs w v ne = beside_write (place_of other) 1 bs (placed other v).0 (placed other v).1 (places_apart source.Utility other w v ne)
unlisted (source.Staged t) other bs w v ne = beside_write (place_of other) (current_block t) bs (placed other v).0 (placed other v).1 (places_apart (source.Staged t) other w v ne)
unlisted (source.Pending t) other bs w v ne = beside_write (place_of other) (pending_block t) bs (placed other v).0 (placed other v).1 (places_apart (source.Pending t) other w v ne)
unlisted (source.Log name) other bs w v ne = absurd w

-- the rows that are left
indexes_apart : (t u : PendingTable) → 4096 + table_number u ≢ 4096 + table_number t → table_index u ≢ table_index t
indexes_apart t u ne = elim (which_table u t) [ inl e ↦ absurd (ne (ap (λ v. 4096 + table_number v) e)) | inr apart ↦ apart.rows ]

row_after_write : (t : TableEntry) (from : ℕ) (content : List ℕ) (m : Meter) (u : PendingTable) → SoundMeter m → limited (writing t from content) m.blocks ≡ Ok tt → row_of u (head_of (performed (writing t from content) m).meter) ≡ row_of u (head_of m)
row_after_write t from content m u good h = ap (λ (rows : List Row). get_or rows (table_index u) Empty) (rows_written t from content m good (of_meter_lem (totals_verdict m.blocks) h))

row_after_staging : (t : TableEntry) (table : PendingTable) (content : List ℕ) (m : Meter) (u : PendingTable) → SoundMeter m → limited (staging t table content) m.blocks ≡ Ok tt → 4096 + table_number u ≢ 4096 + table_number table →
    row_of u (head_of (performed (staging t table content) m).meter) ≡ row_of u (head_of m)
row_after_staging t table content m u good h ne =
    ap (λ (rows : List Row). get_or rows (table_index u) Empty) (rows_staged t table content m good (of_meter_lem (totals_verdict m.blocks) h))
    ∙ get_or-set_other (head_of m).rows (table_index table) (table_index u) (staged_row content m) Empty (indexes_apart table u ne)

pub deed_rows : (src : Source) (a : Ask) (d : Deed) (m : Meter) (u : PendingTable) → SoundMeter m → IsWritten src → allows (use_of src) (service_of a) ≡ true → Fits (entry_of src) a d → limited d m.blocks ≡ Ok tt → 4096 + table_number u ≢ number_of src →
    row_of u (head_of (performed d m).meter) ≡ row_of u (head_of m)
deed_rows src (full_read n) d m u good w al f l ne = rw (f.0, reading_left (entry_of src) (whole_part (length_of src)) m)
deed_rows src (partial_read n offset count) d m u good w al f l ne = rw (f.0, reading_left (entry_of src) (record { from = offset; count = count }) m)
deed_rows src (partial_write n offset content) d m u good w al f l ne = rw f.0 (row_after_write (entry_of src) offset content m u good (rw f.0 at l))
deed_rows (source.Computed v) (full_write n content) d m u good w al f l ne = absurd w
deed_rows source.Initiate (full_write n content) d m u good w al f l ne = absurd w
deed_rows source.Utility (full_write n content) d m u good w al f l ne = rw f.0 (row_after_write (entry_of source.Utility) 0 content m u good (rw f.0 at l))
deed_rows (source.Staged t) (full_write n content) d m u good w al f l ne = rw f.0 (row_after_write (entry_of (source.Staged t)) 0 content m u good (rw f.0 at l))
deed_rows (source.Pending t) (full_write n content) d m u good w al f l ne = rw f.0 (row_after_staging (entry_of (source.Pending t)) t content m u good (rw f.0 at l) ne)
deed_rows (source.Log name) (full_write n content) d m u good w al f l ne = absurd w

-- a table whose block and row are left is left
pub table_left : (src : Source) (m now : Meter) → IsWritten src → get_or now.blocks (place_of src) corrupt ≡ get_or m.blocks (place_of src) corrupt → ((u : PendingTable) → src ≡ source.Pending u → row_of u (head_of now) ≡ row_of u (head_of m)) →
    table_bytes src now.clock now.response (head_of now) now.blocks ≡ table_bytes src m.clock m.response (head_of m) m.blocks
unfolding table_bytes
table_left (source.Computed v) m now w e r = absurd w
table_left source.Initiate m now w e r = absurd w
table_left source.Utility m now w e r = ap (λ (b : Block). part 40 0 (content_or [] b)) e
table_left (source.Staged t) m now w e r = ap (λ (b : Block). part (staged_length t) 0 (content_or [] b)) e
table_left (source.Pending t) m now w e r = ap₂ (λ (row : Row) (b : Block). row_plan_bytes row ++ part (staged_length t) 0 (content_or [] b)) (r t refl) e
table_left (source.Log name) m now w e r = absurd w
