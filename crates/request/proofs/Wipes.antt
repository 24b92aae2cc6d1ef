-- A scratch that is wiped, whatever it held.
use Rattle.std.proofs.Common.{◌≡◌, ℕ, List, ◌++◌, length, replicate, sym, ap, ◌∙◌}
use lib.ListN.{length-replicate}
use borrow.Rule.Slice.PartMut.{post_of}
use Rattle.fields.specs.Patches.{overlay}
use Rattle.fields.proofs.Overlays.{overlay_again}
use Rattle.request.specs.Answers.{zeroed, wiped}

-- whatever was written over the bytes that are wiped
pub wiped_overlay : (work scratch : List ℕ) → length work ≡ 510 → wiped (overlay work scratch) ≡ wiped scratch
unfolding zeroed
wiped_overlay work scratch long = overlay_again (replicate 510 0) work scratch (length-replicate {A = ℕ} 510 0 ∙ sym long)

-- a write to the part from the start, as the checker has it
pub wiped_part : (work scratch : List ℕ) → length work ≡ 510 → wiped (work ++ post_of 0 510 scratch) ≡ wiped scratch
unfolding overlay
wiped_part work scratch long =
    let over : work ++ post_of 0 510 scratch ≡ overlay work scratch = rw long in
    ap wiped over ∙ wiped_overlay work scratch long
