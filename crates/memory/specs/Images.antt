-- The blocks of an image, by its bytes.
use Rattle.std.specs.Prelude.{ℕ, ◌+◌, ◌*◌, ◌/◌, min, cond, List, ◌++◌, map, length, ◌==◌, nat_lt}
use Rattle.std.specs.List.{range_with_len}
use Rattle.fields.specs.Words.{part, word, le_bytes}
use Rattle.fields.specs.Patches.{patch}
use Rattle.memory.specs.Blocks.{Block, sound, corrupt}
use Rattle.memory.specs.Checksum.{checksum_of}

-- As many blocks as there are whole runs of a width, and at most 4,096.
abbrev pub block_count : ℕ → List ℕ → ℕ
block_count width bytes = min 4096 (length bytes / width)

-- A bare image is runs of 510 bytes, each the content of a block.
abbrev pub bare_block : List ℕ → ℕ → Block
bare_block bytes n = sound (part 510 (n * 510) bytes)

unfoldable pub bare_blocks : List ℕ → List Block
bare_blocks bytes = map (bare_block bytes) (range_with_len 0 (block_count 510 bytes))

-- A write puts the content in the block's run, and leaves every other byte.
abbrev pub bare_written : List ℕ → ℕ → List ℕ → List ℕ
bare_written bytes n content = cond (nat_lt n (block_count 510 bytes)) (patch (n * 510) content bytes) bytes

-- A checked image is runs of 512 bytes: a content, then its checksum, least significant byte first.
abbrev pub content_at : List ℕ → ℕ → List ℕ
content_at bytes n = part 510 (n * 512) bytes

abbrev pub stored_checksum : List ℕ → ℕ → ℕ
stored_checksum bytes n = word 2 (n * 512 + 510) bytes

abbrev pub checked_block : List ℕ → ℕ → Block
checked_block bytes n = cond (stored_checksum bytes n == checksum_of n (content_at bytes n)) (sound (content_at bytes n)) corrupt

unfoldable pub checked_blocks : List ℕ → List Block
checked_blocks bytes = map (checked_block bytes) (range_with_len 0 (block_count 512 bytes))

-- A write puts the content and its checksum in the block's run, and leaves every other byte.
abbrev pub checked_written : List ℕ → ℕ → List ℕ → List ℕ
checked_written bytes n content = cond (nat_lt n (block_count 512 bytes)) (patch (n * 512) (content ++ le_bytes 2 (checksum_of n content)) bytes) bytes
