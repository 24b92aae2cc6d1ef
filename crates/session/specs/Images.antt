-- An image of either make, by its raw bytes.
use Rattle.std.specs.Prelude.{ℕ, List, replicate, Ok, Err, Result}
use Rattle.fields.specs.Patches.{patch}
use Rattle.memory.specs.declared.fault.MemoryFault.{MemoryFault}
use Rattle.memory.specs.Blocks.{Block}
use Rattle.memory.specs.Images.{block_count, bare_blocks, bare_written, checked_blocks, checked_written}
use Rattle.memory.specs.Verdicts.{read_verdict, read_content}
use Rattle.script.specs.declared.command.Make.{Make}
use Rattle.script.specs.declared.command.Make.TheVariants.{Bare, Checked}

abbrev pub size_of : Make → List ℕ → ℕ
size_of Bare bytes = block_count 510 bytes
size_of Checked bytes = block_count 512 bytes

abbrev pub blocks_of : Make → List ℕ → List Block
blocks_of Bare bytes = bare_blocks bytes
blocks_of Checked bytes = checked_blocks bytes

abbrev pub written_to : Make → List ℕ → ℕ → List ℕ → List ℕ
written_to Bare bytes n content = bare_written bytes n content
written_to Checked bytes n content = checked_written bytes n content

-- A content of zeros, and one whose first bytes are given.
unfoldable pub zero_content : List ℕ
zero_content = replicate 510 0

abbrev pub content_from : List ℕ → List ℕ
content_from given = patch 0 given zero_content

abbrev pub told : Result (Unit {0}) MemoryFault → List ℕ → Result (List ℕ) MemoryFault
told (Ok x) content = Ok content
told (Err e) content = Err e

-- The content that is read of a block, or the refusal.
abbrev pub content_read : List Block → ℕ → Result (List ℕ) MemoryFault
content_read bs n = told (read_verdict bs n) (read_content bs n zero_content)
