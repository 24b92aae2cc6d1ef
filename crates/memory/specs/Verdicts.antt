-- What a read and a write of a block answer, and what they leave.
use Rattle.std.specs.Prelude.{ℕ, cond, List, length, Ok, Err, Result, nat_lt, slice_index_or, slice_set}
use Rattle.memory.specs.declared.fault.MemoryFault.{MemoryFault}
use Rattle.memory.specs.declared.fault.MemoryFault.TheVariants.{TooSmall, Corrupt}
use Rattle.memory.specs.Blocks.{Block, sound, corrupt, content_or}

-- A read is refused for a number that is not below the size, with the size, and for a corrupt block, with its number.
abbrev pub sound_verdict : ℕ → Block → Result (Unit {0}) MemoryFault
sound_verdict n (sound content) = Ok tt
sound_verdict n corrupt = Err (Corrupt n)

abbrev pub read_verdict : List Block → ℕ → Result (Unit {0}) MemoryFault
read_verdict bs n = cond (nat_lt n (length bs)) (sound_verdict n (slice_index_or bs n corrupt)) (Err (TooSmall (length bs)))

-- The caller's buffer after a read: the content, or what it held before.
abbrev pub read_content : List Block → ℕ → List ℕ → List ℕ
read_content bs n old = cond (nat_lt n (length bs)) (content_or old (slice_index_or bs n corrupt)) old

-- A write is refused for a number that is not below the size, with the size.
abbrev pub write_verdict : List Block → ℕ → Result (Unit {0}) MemoryFault
write_verdict bs n = cond (nat_lt n (length bs)) (Ok tt) (Err (TooSmall (length bs)))

-- The blocks after a write: that block is sound with the new content, the others are as they were.
abbrev pub written : List Block → ℕ → List ℕ → List Block
written bs n content = cond (nat_lt n (length bs)) (slice_set bs n (sound content)) bs
