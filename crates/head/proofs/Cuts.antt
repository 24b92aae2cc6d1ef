-- A list cut into pieces that stand one behind another.
use Rattle.std.proofs.Common.{◌≡◌, ℕ, ◌+◌, ◌≤◌, List, ◌++◌, length, take, drop, sym, ap, ◌∙◌, inl, inr, arith}
use Rattle.std.proofs.lemmas.List.{take_at, drop_at, drop-drop, take-append-drop, length-take, length-drop, get_or-take, get_or-drop, get_or_past}
use Rattle.std.proofs.lemmas.Bool.{cases_lt}
use Rattle.fields.specs.Words.{part}
use Rattle.head.proofs.Bytes.{Small}

pub piece : (n w : ℕ) (c p q : List ℕ) → drop n c ≡ p ++ q → length p ≡ w → part w n c ≡ p
piece n w c p q e long = ap (take w) e ∙ take_at p q w long

pub behind : (n w : ℕ) (c p q : List ℕ) → drop n c ≡ p ++ q → length p ≡ w → drop (n + w) c ≡ q
behind n w c p q e long = sym (drop-drop w n c) ∙ ap (drop w) e ∙ drop_at p q w long

pub cut : (n w : ℕ) (c : List ℕ) → part w n c ++ drop (n + w) c ≡ drop n c
cut n w c = ap (λ l. part w n c ++ l) (sym (drop-drop w n c)) ∙ take-append-drop w (drop n c)

pub length_part : (n w : ℕ) (c : List ℕ) → n + w ≤ length c → length (part w n c) ≡ w
length_part n w c fits = length-take w (drop n c) ∙ omega (arith, length-drop n c)

pub small_part : (n w : ℕ) (c : List ℕ) → Small c → Small (part w n c)
small_part n w c small i =
    elim (cases_lt i w) [
      | inl below ↦ rw (get_or-take w (drop n c) i 0 below, get_or-drop n c i 0) (small (n + i))
      | inr above ↦ rw (get_or_past (part w n c) i 0 (omega (arith, length-take w (drop n c)))) (omega arith)
    ]
