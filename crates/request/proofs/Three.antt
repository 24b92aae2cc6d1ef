-- Three bytes at a place.
use Rattle.std.proofs.Common.{◌≡◌, ℕ, ◌+◌, ◌≤◌, List, [], ◌∷◌, length, get_or, take, ap, ◌∙◌, arith}
use Rattle.std.proofs.lemmas.List.{drop_more}
use Rattle.fields.specs.Words.{part}
use Rattle.fields.proofs.Numbers.{part_2}

pub part_3 : (at : ℕ) (c : List ℕ) → at + 3 ≤ length c → part 3 at c ≡ get_or c at 0 ∷ (get_or c (at + 1) 0 ∷ (get_or c (at + 2) 0 ∷ []))
part_3 at c fits =
    let one : at + 1 + 1 ≡ at + 2 = omega arith in
    let rest = part_2 (at + 1) c (omega arith) in
    ap (take 3) (drop_more c at 0 (omega arith)) ∙ ap (λ l. get_or c at 0 ∷ l) (rw one at rest)
