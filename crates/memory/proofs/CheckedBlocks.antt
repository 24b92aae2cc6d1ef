-- A checked image's blocks.
use Rattle.std.proofs.Common.{◌≡◌, ℕ, ◌+◌, ◌*◌, ◌<◌, ◌≤◌, true, eqb, List, length, get_or, set, refl, ◌∙◌, ◌++◌, arith}
use Rattle.std.proofs.lemmas.Bool.{eq-eqb}
use Rattle.fields.specs.Words.{le_bytes}
use Rattle.fields.specs.Patches.{patch}
use Rattle.fields.proofs.Places.{length_patch, patch_more, part_patch_same, part_patch_other, word_patch_same, word_patch_other}
use Rattle.memory.specs.Blocks.{sound, corrupt}
use Rattle.memory.specs.Checksum.{checksum_of}
use Rattle.memory.specs.Images.{checked_block, checked_blocks, content_at, stored_checksum}
use Rattle.memory.specs.ImageLaws.{checked_count}
use Rattle.memory.proofs.ImageBlocks.{count_is, block_is, blocks_set}

pub checked_at : (bytes : List ℕ) (n : ℕ) → n < length (checked_blocks bytes) → get_or (checked_blocks bytes) n corrupt ≡ checked_block bytes n
unfolding checked_blocks
checked_at bytes n inside = block_is checked_block 512 bytes n corrupt (omega (arith, count_is checked_block 512 bytes))

pub checksum_small : (n : ℕ) (content : List ℕ) → checksum_of n content < 65521
checksum_small n content = omega arith

-- a content and its checksum, put in the run of block n of an image
module _ (bytes content : List ℕ) (n : ℕ) (inside : n * 512 + 512 ≤ length bytes) (whole : length content ≡ 510) where
  abbrev first : List ℕ
  first = patch (n * 512) content bytes

  abbrev sealed : List ℕ
  sealed = le_bytes 2 (checksum_of n content)

  abbrev second : List ℕ
  second = patch (n * 512 + 510) sealed first

  room : n * 512 + length content ≤ length bytes
  room = omega arith

  first_long : length first ≡ length bytes
  first_long = length_patch (n * 512) content bytes room

  room_behind : n * 512 + 510 + length sealed ≤ length first
  room_behind = omega (arith, first_long)

  pub second_long : length second ≡ length bytes
  second_long = length_patch (n * 512 + 510) sealed first room_behind ∙ first_long

  content_here : content_at second n ≡ content
  content_here =
      part_patch_other (n * 512 + 510) 510 (n * 512) sealed first room_behind (grind arith) ∙ part_patch_same (n * 512) 510 content bytes room whole

  checksum_here : stored_checksum second n ≡ checksum_of n content
  checksum_here = word_patch_same (n * 512 + 510) 2 (checksum_of n content) first (omega (arith, first_long)) (omega (arith, checksum_small n content))

  block_here : checked_block second n ≡ sound content
  block_here =
      let same : eqb (checksum_of n content) (checksum_of n content) ≡ true = eq-eqb _ _ refl in
      rw (content_here, checksum_here, same)

  content_other : (k : ℕ) → (k ≡ n → ⊥) → content_at second k ≡ content_at bytes k
  content_other k other =
      part_patch_other (n * 512 + 510) 510 (k * 512) sealed first room_behind (grind arith) ∙ part_patch_other (n * 512) 510 (k * 512) content bytes room (grind arith)

  checksum_other : (k : ℕ) → (k ≡ n → ⊥) → stored_checksum second k ≡ stored_checksum bytes k
  checksum_other k other =
      word_patch_other (n * 512 + 510) 2 (k * 512 + 510) sealed first room_behind (grind arith) ∙ word_patch_other (n * 512) 2 (k * 512 + 510) content bytes room (grind arith)

  block_other : (k : ℕ) → (k ≡ n → ⊥) → checked_block second k ≡ checked_block bytes k
  block_other k other = rw (content_other k other, checksum_other k other)

  pub checked_set : n < length (checked_blocks bytes) → checked_blocks second ≡ set (checked_blocks bytes) n (sound content)
  unfolding checked_blocks
  checked_set below =
      blocks_set checked_block 512 bytes second n (sound content) (omega (arith, count_is checked_block 512 bytes)) (omega (arith, second_long))
      block_here
      (λ k other l. block_other k other)

-- what a write of a content and its checksum leaves
pub checked_patched : (bytes content : List ℕ) (n : ℕ) → n < length (checked_blocks bytes) → length content ≡ 510 → patch (n * 512 + 510) (le_bytes 2 (checksum_of n content)) (patch (n * 512) content bytes) ≡ patch (n * 512) (content ++ le_bytes 2 (checksum_of n content)) bytes
checked_patched bytes content n below whole = patch_more (n * 512) 510 content (le_bytes 2 (checksum_of n content)) bytes (omega (arith, checked_count bytes)) whole

pub checked_written_blocks : (bytes content : List ℕ) (n : ℕ) → n < length (checked_blocks bytes) → length content ≡ 510 → checked_blocks (patch (n * 512 + 510) (le_bytes 2 (checksum_of n content)) (patch (n * 512) content bytes)) ≡ set (checked_blocks bytes) n (sound content)
checked_written_blocks bytes content n below whole = checked_set bytes content n (omega (arith, checked_count bytes)) whole below

pub ruleset checked = (checked_count, checked_at, checked_patched, checked_written_blocks, length_patch)
