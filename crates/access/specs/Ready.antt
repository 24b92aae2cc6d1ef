-- A memory in which the blocks that a meter needs are there and sound.
use Rattle.std.specs.Prelude.{◌≡◌, ℕ, ◌≤◌, cond, List, [], length, Some, None, Ok, Err, Option, Result, nat_lt, slice_index_or, slice_set}
use Rattle.memory.specs.declared.fault.MemoryFault.{MemoryFault}
use Rattle.memory.specs.declared.fault.MemoryFault.TheVariants.{TooSmall, Corrupt}
use Rattle.memory.specs.Blocks.{Block, sound, corrupt, content_or, lowest_corrupt}

-- How many blocks a meter needs.
abbrev pub needed : ℕ
needed = 27

pub record Ready (bs : List Block) : Type 0 where
  pub enough : needed ≤ length bs
  pub clean : lowest_corrupt needed bs ≡ None

-- The content of a block.
abbrev pub content_of : List Block → ℕ → List ℕ
content_of bs n = content_or [] (slice_index_or bs n corrupt)

-- The blocks with a new content in one of them.
abbrev pub stored : List Block → ℕ → List ℕ → List Block
stored bs n content = slice_set bs n (sound content)

-- What is told of a memory that is not ready: it is too small, with its size, or else its lowest corrupt block.
abbrev pub clean_verdict : Option ℕ → Result (Unit {0}) MemoryFault
clean_verdict None = Ok tt
clean_verdict (Some n) = Err (Corrupt n)

abbrev pub size_verdict : List Block → Result (Unit {0}) MemoryFault
size_verdict bs = cond (nat_lt (length bs) needed) (Err (TooSmall (length bs))) (Ok tt)

abbrev pub ready_verdict : List Block → Result (Unit {0}) MemoryFault
ready_verdict bs = cond (nat_lt (length bs) needed) (Err (TooSmall (length bs))) (clean_verdict (lowest_corrupt needed bs))
