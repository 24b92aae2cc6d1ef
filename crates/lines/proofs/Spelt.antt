-- A word that has the bytes of a name, one by one, is that name.
use Rattle.std.proofs.Common.{◌≡◌, ℕ, ◌+◌, List, [], ◌∷◌, length, get_or, drop, ap, ◌∙◌, arith}
use Rattle.std.proofs.lemmas.List.{at_drop_more, drop_all}

abbrev pub Spells : ℕ → List ℕ → List ℕ → Type 0
Spells i w [] = Unit {0}
Spells i w (x ∷ xs) = (get_or w i 0 ≡ x) × Spells (i + 1) w xs

spelt_from : (i : ℕ) (w name : List ℕ) → length w ≡ i + length name → Spells i w name → drop i w ≡ name
spelt_from i w [] long same = drop_all i w (omega arith)
spelt_from i w (x ∷ xs) long same =
    let rest : drop (i + 1) w ≡ xs = spelt_from (i + 1) w xs (omega arith) same.1 in
    at_drop_more (λ (l : List ℕ). l) w i 0 (omega arith) ∙ ap (λ (y : ℕ). y ∷ drop (i + 1) w) same.0 ∙ ap (λ (l : List ℕ). x ∷ l) rest

pub spelt : (w name : List ℕ) → length w ≡ length name → Spells 0 w name → w ≡ name
spelt w name long same = spelt_from 0 w name (omega arith) same
