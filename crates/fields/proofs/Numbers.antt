-- A number by its bytes, and back.
use Rattle.std.proofs.Common.{◌≡◌, ℕ, zero, suc, ◌+◌, ◌/◌, ◌%◌, ◌^◌, ◌<◌, ◌≤◌, List, [], ◌∷◌, length, get_or, take, refl, ap, ◌∙◌, arith}
use Rattle.std.proofs.lemmas.List.{drop_more}
use Rattle.fields.specs.Orders.{le_back}
use Rattle.fields.specs.Words.{part, le_value, le_bytes}

pub length_le_bytes : (w v : ℕ) → length (le_bytes w v) ≡ w
length_le_bytes zero v = refl
length_le_bytes (suc w) v = ap suc (length_le_bytes w (v / 256))

pub le_value_bytes : (w v : ℕ) → v < 256 ^ w → le_value (le_bytes w v) ≡ v
le_value_bytes w v h = le_back w v h

-- what `to_le_bytes` of 32 bits gives
pub four_bytes : (v : ℕ) → v % 256 ∷ (v / 256 % 256 ∷ (v / 65536 % 256 ∷ (v / 16777216 % 256 ∷ []))) ≡ le_bytes 4 v
four_bytes v =
    let a : v / 65536 ≡ v / 256 / 256 = omega arith in
    let b : v / 16777216 ≡ v / 256 / 256 / 256 = omega arith in
    rw (a, b)

-- a part byte by byte
part_more : (w at : ℕ) (c : List ℕ) → at < length c → part (suc w) at c ≡ get_or c at 0 ∷ part w (at + 1) c
part_more w at c h = ap (take (suc w)) (drop_more c at 0 h)

pub part_2 : (at : ℕ) (c : List ℕ) → at + 2 ≤ length c → part 2 at c ≡ get_or c at 0 ∷ (get_or c (at + 1) 0 ∷ [])
part_2 at c fits =
    part_more 1 at c (omega arith) ∙ ap (λ l. get_or c at 0 ∷ l) (part_more 0 (at + 1) c (omega arith))

pub part_4 : (at : ℕ) (c : List ℕ) → at + 4 ≤ length c → part 4 at c ≡ get_or c at 0 ∷ (get_or c (at + 1) 0 ∷ (get_or c (at + 2) 0 ∷ (get_or c (at + 3) 0 ∷ [])))
part_4 at c fits =
    let one : at + 1 + 1 ≡ at + 2 = omega arith in
    let two : at + 2 + 1 ≡ at + 3 = omega arith in
    let first = part_more 3 at c (omega arith) in
    let second = part_more 2 (at + 1) c (omega arith) in
    let last = part_2 (at + 2) c (omega arith) in
    first ∙ ap (λ l. get_or c at 0 ∷ l) (rw one at second ∙ ap (λ l. get_or c (at + 1) 0 ∷ l) (rw two at last))
