-- What stands for the whole directory, as tests that compute.
use Rattle.std.specs.Prelude.{◌≡◌, ℕ, ◌+◌, ◌-◌, ◌*◌, Bool, true, false, cond, ◌&&◌, List, [], ◌∷◌, ◌++◌, Some, None, Option, ◌==◌, nat_le, nat_lt}
use Rattle.std.specs.List.{range_with_len}
use Rattle.access.specs.Ready.{needed}
use Rattle.numbers.specs.declared.log.LogName.{LogName}
use Rattle.logs.specs.Slots.{per_block}
use Rattle.logs.specs.Tables.{table_length}
use Rattle.pending.specs.Tables.{table_number}
use Rattle.directory.specs.declared.entry.Source.{Source}
use Rattle.directory.specs.declared.entry.Source.TheVariants.{Computed, Initiate, Utility, Staged, Pending, Log}
use Rattle.directory.specs.declared.entry.TableEntry.{TableEntry}
use Rattle.directory.specs.Geometry.{staged_length, current_block, pending_block, log_place, log_blocks}
use Rattle.directory.specs.Tables.{room, lookup, numbered_by}

abbrev pub has : ℕ → List ℕ → Bool
has n [] = false
has n (m ∷ ms) = cond (n == m) true (has n ms)

abbrev pub distinct : List ℕ → Bool
distinct [] = true
distinct (n ∷ ns) = cond (has n ns) false (distinct ns)

-- The blocks that a table lies in, its twin's among them.
abbrev pub blocks_of : Source → List ℕ
blocks_of (Computed view) = []
blocks_of Initiate = []
blocks_of Utility = 1 ∷ []
blocks_of (Staged table) = current_block table ∷ (pending_block table ∷ [])
blocks_of (Pending table) = []
blocks_of (Log log) = range_with_len (log_place log).first (log_blocks log)

abbrev pub all_numbers : List TableEntry → List ℕ
all_numbers [] = []
all_numbers (t ∷ ts) = t.number ∷ all_numbers ts

abbrev pub all_blocks : List TableEntry → List ℕ
all_blocks [] = []
all_blocks (t ∷ ts) = blocks_of t.source ++ all_blocks ts

abbrev pub every : {X : Type 0} → (X → Bool) → List X → Bool
every test [] = true
every test (x ∷ xs) = test x && every test xs

-- What the number of a twin finds: of a staged table six bytes more, and of any other table nothing.
abbrev pub length_if : Option TableEntry → ℕ
length_if (Some t) = t.length
length_if None = 0

abbrev pub twin_length : ℕ → Source → ℕ
twin_length length (Computed view) = 0
twin_length length Initiate = 0
twin_length length Utility = 0
twin_length length (Staged table) = length + 6
twin_length length (Pending table) = 0
twin_length length (Log log) = 0

abbrev pub twin_right : List TableEntry → TableEntry → Bool
twin_right tables t = length_if (numbered_by (lookup tables) (t.number + 4096)) == twin_length t.length t.source

-- The blocks of a row are those of its source.
abbrev pub same_block : Option ℕ → List ℕ → Bool
same_block None [] = true
same_block None (b ∷ bs) = false
same_block (Some n) [] = false
same_block (Some n) (b ∷ bs) = n == b

abbrev pub pending_of : Source → List ℕ
pending_of (Computed view) = []
pending_of Initiate = []
pending_of Utility = []
pending_of (Staged table) = pending_block table ∷ []
pending_of (Pending table) = []
pending_of (Log log) = []

abbrev pub block_right : TableEntry → Bool
block_right t = same_block t.block (blocks_of t.source) && same_block t.pending (pending_of t.source)

-- A row of a staged table has its number and length.
abbrev pub staged_is : ℕ → ℕ → Source → Bool
staged_is number length (Computed view) = true
staged_is number length Initiate = true
staged_is number length Utility = true
staged_is number length (Staged table) = number == table_number table && length == staged_length table
staged_is number length (Pending table) = false
staged_is number length (Log log) = true

abbrev pub staged_right : TableEntry → Bool
staged_right t = staged_is t.number t.length t.source

-- A log's table is as long as its head and slots, and its blocks just hold the slots: one block less would not.
abbrev pub just_held : LogName → Bool
just_held log = nat_le (log_place log).size (log_blocks log * per_block (log_place log)) && nat_lt ((log_blocks log - 1) * per_block (log_place log)) (log_place log).size

abbrev pub log_is : ℕ → Source → Bool
log_is length (Computed view) = true
log_is length Initiate = true
log_is length Utility = true
log_is length (Staged table) = true
log_is length (Pending table) = true
log_is length (Log log) = length == table_length (log_place log) && just_held log

abbrev pub log_right : TableEntry → Bool
log_right t = log_is t.length t.source

-- Blocks 1 to 26: block 0 is no table's.
abbrev pub in_memory : ℕ → Bool
in_memory block = nat_lt 0 block && nat_lt block needed

abbrev pub is_inside : TableEntry → Bool
is_inside t = nat_le t.length (room t.source)

pub record Lawful (tables : List TableEntry) : Type 0 where
  pub numbers : distinct (all_numbers tables) ≡ true
  pub blocks : distinct (all_blocks tables) ≡ true
  pub placed : every block_right tables ≡ true
  pub within : every in_memory (all_blocks tables) ≡ true
  pub inside : every is_inside tables ≡ true
  pub twins : every (twin_right tables) tables ≡ true
  pub staged : every staged_right tables ≡ true
  pub logs : every log_right tables ≡ true
