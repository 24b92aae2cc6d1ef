-- A part of two lists that are joined.
use Rattle.std.proofs.Common.{◌≡◌, ℕ, ◌+◌, ◌-◌, ◌≤◌, min, List, ◌++◌, length, refl, ap, ◌∙◌, arith, rules}
use borrow.Rule.Slice.PartMut.{put_mid, post_of}
use Rattle.std.proofs.lemmas.List.{places, same_lists, length-append, length-take, length-drop, append-nil, take_at, drop_at, drop_all}
use Rattle.fields.specs.Words.{part}
use Rattle.fields.specs.Patches.{overlay}
use Rattle.request.specs.Answers.{answer_bytes}
use Rattle.request.proofs.Seals.{sealed_part}

-- what is written over all that lies behind a front
pub put_behind : (n : ℕ) (front back rest : List ℕ) → length front ≡ n → put_mid n (length (front ++ rest) - n) (front ++ rest) back ≡ front ++ back
put_behind n front back rest long =
    let left : length (front ++ rest) - n ≡ length rest = rw length-append (omega arith) in
    rw (left, take_at front rest n long, drop_at front rest n long, drop_all (length rest) rest (omega arith), append-nil)

pub append_parts : (front back : List ℕ) (from len start count : ℕ) → start ≡ min from (length front) → count ≡ min (length front - start) len → from + len ≤ length front + length back →
    part count start front ++ part (len - count) (from - start) back ≡ part len from (front ++ back)
append_parts front back from len start count s c fits = same_lists _ _ (search (rules, places)) (λ k d h. grind (arith, places))

-- the same as the code writes it: the front's part, and then the back's over the rest
pub joined_copied : (front back out a b : List ℕ) (from start count : ℕ) → start ≡ min from (length front) → count ≡ min (length front - start) (length out) → from + length out ≤ length front + length back →
    a ≡ part (length (part (count - 0) 0 out)) start front →
    b ≡ part (length (part (length (a ++ post_of 0 (count - 0) out) - count) count (a ++ post_of 0 (count - 0) out))) (from - start) back →
    put_mid count (length (a ++ post_of 0 (count - 0) out) - count) (a ++ post_of 0 (count - 0) out) b ≡ part (length out) from (front ++ back)
joined_copied front back out a b from start count s c fits ea eb =
    let sized : length (part (count - 0) 0 out) ≡ count = rw (length-take, length-drop) (omega arith) in
    let first : a ≡ part count start front = rw sized at ea in
    let long : length a ≡ count = rw (first, length-take, length-drop) (omega arith) in
    let rest : List ℕ = post_of 0 (count - 0) out in
    let left : length (part (length (a ++ rest) - count) count (a ++ rest)) ≡ length out - count = rw (length-take, length-drop, length-append, length-drop, length-drop) (omega arith) in
    let second : b ≡ part (length out - count) (from - start) back = rw left at eb in
    put_behind count a b rest long ∙ rw (first, second) (append_parts front back from (length out) start count s c fits)

-- what is read into its place in an answer, and sealed
pub read_sealed : (n from : ℕ) (all out old answer : List ℕ) → n + 4 ≤ length old → out ≡ part (length (part (3 + n - 3) 3 old)) from all → answer ≡ overlay (answer_bytes (part n 3 (put_mid 3 (3 + n - 3) old out))) (put_mid 3 (3 + n - 3) old out) → length out ≡ n → answer ≡ overlay (answer_bytes (part n from all)) old
read_sealed n from all out old answer fits read seal long =
    let sized : length (part (3 + n - 3) 3 old) ≡ n = rw (length-take, length-drop) (omega arith) in
    seal ∙ sealed_part n out old long fits ∙ ap (λ bytes. overlay (answer_bytes bytes) old) (read ∙ rw sized refl)
