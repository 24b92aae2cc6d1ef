-- Every content of an image has 510 bytes, and how many blocks there are.
use Rattle.std.specs.Prelude.{◌≡◌, ℕ, zero, suc, ◌+◌, ◌<◌, Bool, true, false, cond, List, map, length, ◌==◌}
use Rattle.std.proofs.Common.{arith}
use Rattle.std.specs.List.{range_with_len}
use Rattle.std.proofs.lemmas.List.FromFn.{length-map-range_with_len}
use Rattle.std.proofs.lemmas.List.{length-take, length-drop}
use Rattle.memory.specs.Blocks.{Block, sound, corrupt, Whole, WholeBlock}
use Rattle.memory.specs.Checksum.{checksum_of}
use Rattle.memory.specs.Images.{block_count, bare_block, bare_blocks, checked_block, checked_blocks, content_at, stored_checksum}

all_whole : (f : ℕ → Block) (a n : ℕ) → ((k : ℕ) → k < a + n → WholeBlock (f k)) → Whole (map f (range_with_len a n))
all_whole f a zero h = tt
all_whole f a (suc n) h = (h a (omega arith), all_whole f (a + 1) n (λ k l. h k (omega arith)))

whole_if : (b : Bool) (content : List ℕ) → length content ≡ 510 → WholeBlock (cond b (sound content) corrupt)
whole_if true content h = h
whole_if false content h = tt

pub bare_whole : (bytes : List ℕ) → Whole (bare_blocks bytes)
unfolding bare_blocks
bare_whole bytes = all_whole (bare_block bytes) 0 (block_count 510 bytes) (λ k h. rw (length-take, length-drop) (omega arith))

pub checked_whole : (bytes : List ℕ) → Whole (checked_blocks bytes)
unfolding checked_blocks
checked_whole bytes =
    all_whole (checked_block bytes) 0 (block_count 512 bytes) (λ k h. whole_if (stored_checksum bytes k == checksum_of k (content_at bytes k)) (content_at bytes k) (rw (length-take, length-drop) (omega arith)))

pub bare_some : 0 < 510
bare_some = omega arith

pub checked_some : 0 < 512
checked_some = omega arith

pub bare_count : (bytes : List ℕ) → length (bare_blocks bytes) ≡ block_count 510 bytes
unfolding bare_blocks
bare_count bytes = length-map-range_with_len (bare_block bytes) 0 (block_count 510 bytes)

pub checked_count : (bytes : List ℕ) → length (checked_blocks bytes) ≡ block_count 512 bytes
unfolding checked_blocks
checked_count bytes = length-map-range_with_len (checked_block bytes) 0 (block_count 512 bytes)
