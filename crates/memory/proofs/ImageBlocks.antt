-- The blocks of an image of either make, one by one, before and after a write.
use Rattle.std.proofs.Common.{◌≡◌, ℕ, ◌<◌, List, map, length, get_or, set, sym, ◌∙◌, ⊎_elim, arith}
use Rattle.std.specs.List.{range_with_len}
use Rattle.std.proofs.lemmas.List.{same_lists, length-set, get_or-set_same, get_or-set_other}
use Rattle.std.proofs.lemmas.Bool.{cases_eq}
use Rattle.std.proofs.lemmas.List.FromFn.{length-map-range_with_len, get_or-map-range_with_len}
use Rattle.memory.specs.Blocks.{Block}
use Rattle.memory.specs.Images.{block_count}

-- the blocks that a rule gives of an image's bytes
abbrev pub blocks_by : (List ℕ → ℕ → Block) → ℕ → List ℕ → List Block
blocks_by rule width bytes = map (rule bytes) (range_with_len 0 (block_count width bytes))

module _ (rule : List ℕ → ℕ → Block) (width : ℕ) where
  pub count_is : (bytes : List ℕ) → length (blocks_by rule width bytes) ≡ block_count width bytes
  count_is bytes = length-map-range_with_len (rule bytes) 0 (block_count width bytes)

  pub block_is : (bytes : List ℕ) (n : ℕ) (d : Block) → n < block_count width bytes → get_or (blocks_by rule width bytes) n d ≡ rule bytes n
  block_is bytes n d h = get_or-map-range_with_len (rule bytes) 0 (block_count width bytes) n n d h (omega arith)

  -- where only block n has become another, the list is set at n
  pub blocks_set : (old new : List ℕ) (n : ℕ) (b : Block) → n < block_count width old → block_count width new ≡ block_count width old → rule new n ≡ b → ((k : ℕ) → (k ≡ n → ⊥) → k < block_count width old → rule new k ≡ rule old k) → blocks_by rule width new ≡ set (blocks_by rule width old) n b
  blocks_set old new n b inside sizes here others =
      same_lists _ _
      (count_is new ∙ sizes ∙ sym (count_is old) ∙ sym (length-set (blocks_by rule width old) n b))
      (λ k d l.
      let below : k < block_count width new = omega (arith, count_is new) in
      let kept : k < block_count width old = omega (arith, sizes) in
      block_is new k d below ∙ ⊎_elim
      (λ (same : k ≡ n). rw same (here ∙ sym (get_or-set_same (blocks_by rule width old) n b d (omega (arith, count_is old)))))
      (λ (other : k ≡ n → ⊥). others k other kept ∙ sym (block_is old k d kept) ∙ sym (get_or-set_other (blocks_by rule width old) n k b d other))
      (cases_eq k n))
