-- What makes an answer of bytes that stand in their place.
use Rattle.std.proofs.Common.{◌≡◌, ℕ, ◌+◌, ◌-◌, ◌%◌, ◌≤◌, true, List, [], ◌∷◌, ◌++◌, length, drop, sum, sym, refl, ap, arith, rules}
use borrow.Rule.Slice.PartMut.{put_mid}
use Rattle.std.proofs.lemmas.List.{places, same_lists, length-take, length-drop, length-append, length_push, append_assoc, drop-drop, take-append-drop}
use Rattle.std.proofs.lemmas.List.Sums.{sum_by_push}
use Rattle.std.proofs.lemmas.Bool.{eq-eqb}
use Rattle.fields.specs.Words.{part, be_bytes}
use Rattle.fields.specs.Patches.{patch, overlay}
use Rattle.fields.proofs.Places.{patch_from_put, part_patch_same}
use Rattle.fields.proofs.Overlays.{overlay_is_patch, overlay_more}
use Rattle.request.specs.Asks.{whole}
use Rattle.request.specs.Answers.{check_byte, answer_bytes}

pub length_part : (k n : ℕ) (bytes : List ℕ) → n + k ≤ length bytes → length (part k n bytes) ≡ k
length_part k n bytes fits = rw (length-take, length-drop) (omega arith)

-- bytes right behind an overlay that stay as they are belong to it
pub overlay_kept : (n k : ℕ) (front old : List ℕ) → length front ≡ n → n + k ≤ length old → overlay front old ≡ overlay (front ++ part k n old) old
unfolding overlay
overlay_kept n k front old long room =
    let kept : length (part k n old) ≡ k = length_part k n old room in
    rw (long, length-append, long, kept, append_assoc, ← drop-drop) (ap (λ r. front ++ r) (sym (take-append-drop k (drop n old))))

pub enclosed : (n code check : ℕ) (old : List ℕ) → n + 4 ≤ length old → patch (3 + n) (check ∷ []) (patch 1 (be_bytes 2 n) (patch 0 (code ∷ []) old)) ≡ overlay (code ∷ (be_bytes 2 (length (part n 3 old)) ++ (part n 3 old ++ (check ∷ [])))) old
enclosed n code check old fits =
    let long : length (part n 3 old) ≡ n = length_part n 3 old (omega arith) in
    let one : patch 0 (code ∷ []) old ≡ overlay (code ∷ []) old = sym (overlay_is_patch (code ∷ []) old) in
    let two : patch 1 (be_bytes 2 n) (overlay (code ∷ []) old) ≡ overlay (code ∷ be_bytes 2 n) old = overlay_more 1 (code ∷ []) (be_bytes 2 n) old refl in
    let three : overlay (code ∷ be_bytes 2 n) old ≡ overlay (code ∷ (be_bytes 2 n ++ part n 3 old)) old = overlay_kept 3 n (code ∷ be_bytes 2 n) old refl (omega arith) in
    rw (one, two, three, long) (overlay_more (3 + n) (code ∷ (be_bytes 2 n ++ part n 3 old)) (check ∷ []) old (omega arith))

-- an answer passes the test that requests pass
pub whole_answer : (n : ℕ) (bytes : List ℕ) → length bytes ≡ n → whole 3 n (answer_bytes bytes) ≡ true
whole_answer n bytes long =
    let size : length (answer_bytes bytes) ≡ 3 + n + 1 = rw length_push (omega arith) in
    let zero : sum (bytes ++ (check_byte bytes ∷ [])) % 256 ≡ 0 = omega (arith, sum_by_push (λ x. x) bytes (check_byte bytes)) in
    rw (eq-eqb _ _ size) (eq-eqb _ _ zero)

-- what lies past a patch
drop_patch : (at m : ℕ) (new old : List ℕ) → at + length new ≤ length old → at + length new ≤ m → drop m (patch at new old) ≡ drop m old
unfolding patch
drop_patch at m new old fits past = same_lists _ _ (search (rules, places)) (λ k d h. grind (arith, places))

-- bytes that were put in their place and sealed are the answer's
pub sealed : (n : ℕ) (bytes old : List ℕ) → length bytes ≡ n → n + 4 ≤ length old → overlay (answer_bytes (part n 3 (patch 3 bytes old))) (patch 3 bytes old) ≡ overlay (answer_bytes bytes) old
unfolding overlay
sealed n bytes old long fits =
    let there : part n 3 (patch 3 bytes old) ≡ bytes = part_patch_same 3 n bytes old (omega arith) long in
    let size : length (answer_bytes bytes) ≡ n + 4 = rw length_push (omega arith) in
    rw there (ap (λ r. answer_bytes bytes ++ r) (drop_patch 3 (length (answer_bytes bytes)) bytes old (omega arith) (omega arith)))

-- the same of bytes that were put into a part of the answer, as the checker has it
pub sealed_part : (n : ℕ) (bytes old : List ℕ) → length bytes ≡ n → n + 4 ≤ length old → overlay (answer_bytes (part n 3 (put_mid 3 (3 + n - 3) old bytes))) (put_mid 3 (3 + n - 3) old bytes) ≡ overlay (answer_bytes bytes) old
sealed_part n bytes old long fits =
    let span : 3 + n - 3 ≡ n = omega arith in
    rw (span, patch_from_put 3 n bytes old long) (sealed n bytes old long fits)
