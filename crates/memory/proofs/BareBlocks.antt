-- A bare image's blocks.
use Rattle.std.proofs.Common.{◌≡◌, ℕ, zero, suc, ◌+◌, ◌*◌, ◌<◌, ◌≤◌, List, map, length, get_or, take, set, None, refl, ap, arith}
use Rattle.std.specs.List.{range_with_len}
use Rattle.fields.specs.Words.{part}
use Rattle.fields.specs.Patches.{patch}
use Rattle.fields.proofs.Places.{length_patch, part_patch_same, part_patch_other}
use Rattle.memory.specs.Blocks.{sound, corrupt, corrupt_from, lowest_corrupt}
use Rattle.memory.specs.Images.{block_count, bare_block, bare_blocks}
use Rattle.memory.specs.ImageLaws.{bare_count}
use Rattle.memory.proofs.ImageBlocks.{count_is, block_is, blocks_set}

pub bare_at : (bytes : List ℕ) (n : ℕ) → n < length (bare_blocks bytes) → get_or (bare_blocks bytes) n corrupt ≡ sound (part 510 (n * 510) bytes)
unfolding bare_blocks
bare_at bytes n inside = block_is bare_block 510 bytes n corrupt (omega (arith, count_is bare_block 510 bytes))

all_sound : (content : ℕ → List ℕ) (i a n below : ℕ) → corrupt_from i (take below (map (λ k. sound (content k)) (range_with_len a n))) ≡ None
all_sound content i a zero zero = refl
all_sound content i a zero (suc below) = refl
all_sound content i a (suc n) zero = refl
all_sound content i a (suc n) (suc below) = all_sound content (i + 1) (a + 1) n below

pub bare_lowest : (bytes : List ℕ) (below : ℕ) → lowest_corrupt below (bare_blocks bytes) ≡ None
unfolding bare_blocks
bare_lowest bytes below = all_sound (λ n. part 510 (n * 510) bytes) 0 0 (block_count 510 bytes) below

pub bare_set : (bytes content : List ℕ) (n : ℕ) → n < length (bare_blocks bytes) → length content ≡ 510 → bare_blocks (patch (n * 510) content bytes) ≡ set (bare_blocks bytes) n (sound content)
unfolding bare_blocks
bare_set bytes content n inside whole =
    let below : n < block_count 510 bytes = omega (arith, count_is bare_block 510 bytes) in
    let fits : n * 510 + length content ≤ length bytes = omega arith in
    let long : length (patch (n * 510) content bytes) ≡ length bytes = length_patch (n * 510) content bytes fits in
    blocks_set bare_block 510 bytes (patch (n * 510) content bytes) n (sound content) below (omega (arith, long))
    (ap sound (part_patch_same (n * 510) 510 content bytes fits whole))
    (λ k other l. ap sound (part_patch_other (n * 510) 510 (k * 510) content bytes fits (grind arith)))

pub ruleset bare = (bare_count, bare_at, bare_lowest, bare_set)
