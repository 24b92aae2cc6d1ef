-- What a patch leaves, and what it is.
use Rattle.std.proofs.Common.{◌≡◌, ℕ, ◌+◌, ◌^◌, ◌<◌, ◌≤◌, ◌⊎◌, List, ◌++◌, length, refl, ap, ◌∙◌, arith, rules}
use borrow.Rule.Slice.PartMut.{put_mid}
use Rattle.std.proofs.lemmas.List.{places, same_lists, drop-drop}
use Rattle.fields.specs.Words.{part, le_value, le_bytes, word}
use Rattle.fields.specs.Patches.{patch, Replaces}
use Rattle.fields.proofs.Numbers.{length_le_bytes, le_value_bytes}

pub length_patch : (at : ℕ) (new old : List ℕ) → at + length new ≤ length old → length (patch at new old) ≡ length old
unfolding patch
length_patch at new old fits = search (rules, places)

-- a write by the code is a patch
pub patch_from_put : (at w : ℕ) (new old : List ℕ) → length new ≡ w → put_mid at w old new ≡ patch at new old
unfolding patch
patch_from_put at w new old long = rw (long, drop-drop)

pub part_patch_same : (at w : ℕ) (new old : List ℕ) → at + length new ≤ length old → length new ≡ w → part w at (patch at new old) ≡ new
unfolding patch
part_patch_same at w new old fits long = same_lists _ _ (search (rules, places)) (λ k d h. grind (arith, places))

pub part_patch_other : (at w from : ℕ) (new old : List ℕ) → at + length new ≤ length old → (from + w ≤ at) ⊎ (at + length new ≤ from) → part w from (patch at new old) ≡ part w from old
unfolding patch
part_patch_other at w from new old fits apart = same_lists _ _ (search (rules, places)) (λ k d h. grind (arith, places))

pub replaces : (at : ℕ) (new old : List ℕ) → at + length new ≤ length old → Replaces at new old (patch at new old)
replaces at new old fits = record {
  long = length_patch at new old fits;
  there = part_patch_same at (length new) new old fits refl;
  beside = λ w from apart. part_patch_other at w from new old fits apart;
}

-- a number that was patched in is read back, and one beside it stays
pub word_patch_same : (at w v : ℕ) (old : List ℕ) → at + w ≤ length old → v < 256 ^ w → word w at (patch at (le_bytes w v) old) ≡ v
unfolding word
word_patch_same at w v old fits small =
    ap le_value (part_patch_same at w (le_bytes w v) old (omega (arith, length_le_bytes w v)) (length_le_bytes w v)) ∙ le_value_bytes w v small

pub word_patch_other : (at w from : ℕ) (new old : List ℕ) → at + length new ≤ length old → (from + w ≤ at) ⊎ (at + length new ≤ from) → word w from (patch at new old) ≡ word w from old
unfolding word
word_patch_other at w from new old fits apart = ap le_value (part_patch_other at w from new old fits apart)

-- two patches, the second right behind the first, are one
pub patch_more : (at n : ℕ) (front back old : List ℕ) → at + n + length back ≤ length old → length front ≡ n → patch (at + n) back (patch at front old) ≡ patch at (front ++ back) old
unfolding patch
patch_more at n front back old fits long = same_lists _ _ (search (rules, places)) (λ k d h. grind (arith, places))
