-- New bytes at the front of a list, written piece by piece.
use Rattle.std.proofs.Common.{◌≡◌, ℕ, ◌+◌, List, ◌++◌, length, take, drop, sym, ap, ◌∙◌, zero-add}
use Rattle.std.proofs.lemmas.List.{drop-drop, drop_at, take_at, length-append, append_assoc}
use Rattle.fields.specs.Patches.{patch, overlay}

-- an overlay is a patch at the front
pub overlay_is_patch : (new old : List ℕ) → overlay new old ≡ patch 0 new old
unfolding overlay patch
overlay_is_patch new old = rw zero-add

-- what is written right behind an overlay belongs to it
pub overlay_more : (n : ℕ) (front new old : List ℕ) → length front ≡ n → patch n new (overlay front old) ≡ overlay (front ++ new) old
unfolding overlay patch
overlay_more n front new old long =
    let head : take n (front ++ drop (length front) old) ≡ front = take_at front (drop (length front) old) n long in
    let tail : drop (n + length new) (front ++ drop (length front) old) ≡ drop (length new) (drop (length front) old) =
    sym (drop-drop (length new) n (front ++ drop (length front) old)) ∙ ap (drop (length new)) (drop_at front (drop (length front) old) n long) in
    rw (head, tail, append_assoc, length-append, drop-drop)

-- the later of two overlays stands, where it is not the shorter one
pub overlay_again : (new front old : List ℕ) → length new ≡ length front → overlay new (overlay front old) ≡ overlay new old
unfolding overlay
overlay_again new front old same =
    ap (λ l. new ++ l) (drop_at front (drop (length front) old) (length new) (sym same) ∙ ap (λ n. drop n old) (sym same))
