-- Which blocks a call may alter.
use Rattle.std.specs.Prelude.{◌≡◌, ℕ, ◌+◌, ◌%◌, ◌≤◌, true, false, ◌≢◌, List, [], ◌∷◌, length, Ok, slice_index_or}
use Rattle.std.specs.List.{range_with_len}
use Rattle.access.specs.Ready.{needed, content_of}
use Rattle.memory.specs.Blocks.{Block, corrupt}
use Rattle.numbers.specs.declared.log.LogName.{LogName}
use Rattle.numbers.specs.declared.log.LogName.TheVariants.{History, LoadProfile}
use Rattle.logs.specs.Slots.{slot_block}
use Rattle.pending.specs.declared.table.PendingTable.{PendingTable}
use Rattle.pending.specs.Tables.{table_number}
use Rattle.request.specs.Asks.{Ask, full_write, ask_in, table_of, service_of}
use Rattle.directory.specs.declared.entry.Source.{Source}
use Rattle.directory.specs.declared.entry.Source.TheVariants as source
use Rattle.directory.specs.declared.entry.TableEntry.{TableEntry}
use Rattle.directory.specs.Geometry.{log_place, current_block, pending_block}
use Rattle.directory.specs.Lawful.{has}
use Rattle.directory.specs.Tables.{find_table}
use Rattle.directory.specs.Uses.{is_read}
use Rattle.head.specs.Heads.{decode_head}
use Rattle.model.specs.States.{Meter, log_of}
use Rattle.model.specs.Calls.{format, started, tick, energy}
use Rattle.model.specs.Serving.{served}

-- A block that is not listed is just as it was.
abbrev pub AltersOnly : List ℕ → List Block → List Block → Type 0
AltersOnly listed old now = (k : ℕ) → has k listed ≡ false → slice_index_or now k corrupt ≡ slice_index_or old k corrupt

-- The block of the slot that the next record of a log goes into.
abbrev pub next_block : LogName → List Block → ℕ
next_block name bs = slot_block (log_place name) ((log_of name (decode_head (content_of bs 0))).total % (log_place name).size)

-- Block 0, the three tables that can be staged, the history and the self-reads.
abbrev pub activity_blocks : List ℕ
activity_blocks = 0 ∷ 2 ∷ 3 ∷ 4 ∷ 8 ∷ 9 ∷ 10 ∷ 11 ∷ []

-- A write, by the table that it names: block 0, the block that the bytes go into, and the next one of the history. Table 7 starts a procedure.
abbrev pub write_blocks : Source → List Block → List ℕ
write_blocks (source.Computed view) bs = []
write_blocks source.Initiate bs = activity_blocks
write_blocks source.Utility bs = 0 ∷ 1 ∷ next_block History bs ∷ []
write_blocks (source.Staged t) bs = 0 ∷ current_block t ∷ next_block History bs ∷ []
write_blocks (source.Pending t) bs = 0 ∷ pending_block t ∷ next_block History bs ∷ []
write_blocks (source.Log name) bs = []

-- What a call may alter, refused or not; that a refused one alters nothing is said with the refusals.
pub record Alters : Type 0 where
  pub format : (bs : List Block) → AltersOnly (range_with_len 0 needed) bs (format bs).blocks
  pub start : (bs : List Block) (s : ℕ) → AltersOnly activity_blocks bs (started bs s).blocks
  pub tick : (m : Meter) → AltersOnly (next_block LoadProfile m.blocks ∷ activity_blocks) m.blocks (tick m).meter.blocks
  pub energy : (wh : ℕ) (m : Meter) → AltersOnly (0 ∷ []) m.blocks (energy wh m).meter.blocks
  -- a read alters nothing
  pub read : (key : ℕ) (bytes : List ℕ) (m : Meter) (answer scratch : List ℕ) (a : Ask) → ask_in bytes ≡ Ok a → is_read (service_of a) ≡ true → (served key bytes m answer scratch).meter ≡ m
  pub write : (key : ℕ) (bytes : List ℕ) (m : Meter) (answer scratch : List ℕ) (a : Ask) (t : TableEntry) → ask_in bytes ≡ Ok a → find_table (table_of a) ≡ Ok t →
      AltersOnly (write_blocks t.source m.blocks) m.blocks (served key bytes m answer scratch).meter.blocks

-- Where a staged table waits, only a staging of that table alters anything, format aside.
pub record WaitingLeft : Type 0 where
  pub start : (bs : List Block) (s : ℕ) (t : PendingTable) → slice_index_or (started bs s).blocks (pending_block t) corrupt ≡ slice_index_or bs (pending_block t) corrupt
  pub tick : (m : Meter) (t : PendingTable) → slice_index_or (tick m).meter.blocks (pending_block t) corrupt ≡ slice_index_or m.blocks (pending_block t) corrupt
  pub energy : (wh : ℕ) (m : Meter) (t : PendingTable) → slice_index_or (energy wh m).meter.blocks (pending_block t) corrupt ≡ slice_index_or m.blocks (pending_block t) corrupt
  pub serve : (key : ℕ) (bytes : List ℕ) (m : Meter) (answer scratch : List ℕ) (t : PendingTable) → ((content : List ℕ) → ask_in bytes ≢ Ok (full_write (4096 + table_number t) content)) →
      slice_index_or (served key bytes m answer scratch).meter.blocks (pending_block t) corrupt ≡ slice_index_or m.blocks (pending_block t) corrupt

-- Behind the blocks that a meter needs nothing is altered.
pub record BehindLeft : Type 0 where
  pub format : (bs : List Block) (k : ℕ) → needed ≤ k → slice_index_or (format bs).blocks k corrupt ≡ slice_index_or bs k corrupt
  pub start : (bs : List Block) (s k : ℕ) → needed ≤ k → slice_index_or (started bs s).blocks k corrupt ≡ slice_index_or bs k corrupt
  pub tick : (m : Meter) (k : ℕ) → needed ≤ k → slice_index_or (tick m).meter.blocks k corrupt ≡ slice_index_or m.blocks k corrupt
  pub energy : (wh : ℕ) (m : Meter) (k : ℕ) → needed ≤ k → slice_index_or (energy wh m).meter.blocks k corrupt ≡ slice_index_or m.blocks k corrupt
  pub serve : (key : ℕ) (bytes : List ℕ) (m : Meter) (answer scratch : List ℕ) (k : ℕ) → needed ≤ k → slice_index_or (served key bytes m answer scratch).meter.blocks k corrupt ≡ slice_index_or m.blocks k corrupt

-- A call leaves as many blocks as there were.
pub record AsMany : Type 0 where
  pub format : (bs : List Block) → length (format bs).blocks ≡ length bs
  pub start : (bs : List Block) (s : ℕ) → length (started bs s).blocks ≡ length bs
  pub tick : (m : Meter) → length (tick m).meter.blocks ≡ length m.blocks
  pub energy : (wh : ℕ) (m : Meter) → length (energy wh m).meter.blocks ≡ length m.blocks
  pub serve : (key : ℕ) (bytes : List ℕ) (m : Meter) (answer scratch : List ℕ) → length (served key bytes m answer scratch).meter.blocks ≡ length m.blocks
