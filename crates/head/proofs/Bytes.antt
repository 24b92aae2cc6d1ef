-- Numbers and zeros in bytes.
use Rattle.std.proofs.Common.{◌≡◌, ℕ, suc, ◌+◌, ◌*◌, ◌/◌, ◌%◌, ◌<◌, ◌≤◌, true, eqb, List, [], ◌∷◌, length, get_or, replicate, refl, ap, ◌∙◌, arith}
use Rattle.std.proofs.lemmas.Bool.{eqb-true, and_parts}
use Rattle.fields.specs.Words.{le_value, le_bytes, word}
use Rattle.fields.proofs.Numbers.{part_2, part_4}
use Rattle.head.specs.Order.{all_zero}

abbrev pub Small : List ℕ → Type 0
Small bs = (i : ℕ) → get_or bs i 0 < 256

low : (x v : ℕ) → x < 256 → (x + 256 * v) % 256 ≡ x
low x v h = omega arith

high : (x v : ℕ) → x < 256 → (x + 256 * v) / 256 ≡ v
high x v h = omega arith

one_back : (n x v : ℕ) → x < 256 → le_bytes (suc n) (x + 256 * v) ≡ x ∷ le_bytes n v
one_back n x v h = ap (λ y. y ∷ le_bytes n ((x + 256 * v) / 256)) (low x v h) ∙ ap (λ y. x ∷ le_bytes n y) (high x v h)

two_back : (x y : ℕ) → x < 256 → y < 256 → le_bytes 2 (x + 256 * (y + 256 * 0)) ≡ x ∷ y ∷ []
two_back x y a b = one_back 1 x (y + 256 * 0) a ∙ ap (λ l. x ∷ l) (one_back 0 y 0 b)

four_back : (x y z w : ℕ) → x < 256 → y < 256 → z < 256 → w < 256 → le_bytes 4 (x + 256 * (y + 256 * (z + 256 * (w + 256 * 0)))) ≡ x ∷ y ∷ z ∷ w ∷ []
four_back x y z w a b c d =
    one_back 3 x (y + 256 * (z + 256 * (w + 256 * 0))) a ∙ ap (λ l. x ∷ l) (one_back 2 y (z + 256 * (w + 256 * 0)) b) ∙ ap (λ l. x ∷ y ∷ l) (two_back z w c d)

-- a number that was read is written as the bytes that it was read from
pub word_2_back : (at : ℕ) (c : List ℕ) → at + 2 ≤ length c → Small c → le_bytes 2 (word 2 at c) ≡ get_or c at 0 ∷ get_or c (at + 1) 0 ∷ []
unfolding word
word_2_back at c fits small = ap (λ l. le_bytes 2 (le_value l)) (part_2 at c fits) ∙ two_back _ _ (small at) (small (at + 1))

pub word_4_back : (at : ℕ) (c : List ℕ) → at + 4 ≤ length c → Small c → le_bytes 4 (word 4 at c) ≡ get_or c at 0 ∷ get_or c (at + 1) 0 ∷ get_or c (at + 2) 0 ∷ get_or c (at + 3) 0 ∷ []
unfolding word
word_4_back at c fits small =
    ap (λ l. le_bytes 4 (le_value l)) (part_4 at c fits) ∙ four_back _ _ _ _ (small at) (small (at + 1)) (small (at + 2)) (small (at + 3))

pub word_4_small : (at : ℕ) (c : List ℕ) → at + 4 ≤ length c → Small c → word 4 at c < 4294967296
unfolding word
word_4_small at c fits small =
    omega (arith, ap le_value (part_4 at c fits), small at, small (at + 1), small (at + 2), small (at + 3))

pub all_zero_lem : (bs : List ℕ) (n : ℕ) → length bs ≡ n → all_zero bs ≡ true → bs ≡ replicate n 0
all_zero_lem bs n long h = zeros bs h ∙ ap (λ k. replicate k 0) long
  where
    zeros : (xs : List ℕ) → all_zero xs ≡ true → xs ≡ replicate (length xs) 0
    zeros [] e = refl
    zeros (x ∷ xs) e =
        let parts = and_parts (eqb x 0) (all_zero xs) e in
        let first : x ≡ 0 = eqb-true x 0 parts.0 in
        let rest : xs ≡ replicate (length xs) 0 = zeros xs parts.1 in
        ap (λ y. y ∷ xs) first ∙ ap (λ l. 0 ∷ l) rest
