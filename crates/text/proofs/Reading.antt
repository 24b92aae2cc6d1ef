-- Digits read one by one, and a number read back.
use Rattle.std.proofs.Common.{◌≡◌, ℕ, zero, suc, ◌+◌, ◌-◌, ◌*◌, ◌<◌, ◌≤◌, min, true, ◌&&◌, List, [], ◌∷◌, ◌++◌, map, length, get_or, drop, replicate, Ok, refl, ap, ◌∙◌, arith}
use Rattle.std.specs.Char.{is_ascii_digit}
use Rattle.std.specs.Int.Digits.{digits_of, AllBelowBase, number_from_digits_after}
use Rattle.std.proofs.lemmas.Int.Digits.{all_below_base_digits_of, number_digits_of}
use Rattle.std.proofs.lemmas.List.{length-append, length-map, length-replicate, at_drop_more}
use Rattle.std.proofs.lemmas.Bool.{and_from}
use Rattle.std.proofs.lemmas.Bool.Decides.{nat_tests}
use Rattle.text.specs.Figures.{lower_digit, padded, digits_text}
use Rattle.text.specs.Numerals.{all_digits, value_after, value_of, number_read, NumbersReadBack}

-- past the limit more digits change nothing
pub capped_same : (limit a b : ℕ) (cs : List ℕ) → min limit a ≡ min limit b → min limit (value_after a cs) ≡ min limit (value_after b cs)
capped_same limit a b [] e = e
capped_same limit a b (c ∷ cs) e =
    let next : min limit (a * 10 + (c - 48)) ≡ min limit (b * 10 + (c - 48)) = omega arith in
    capped_same limit (a * 10 + (c - 48)) (b * 10 + (c - 48)) cs next

module _ (word : List ℕ) (i : ℕ) (within : i < length word) where
  pub digits_more : is_ascii_digit (get_or word i 0) ≡ true → all_digits (drop i word) ≡ all_digits (drop (i + 1) word)
  digits_more good =
      let step : all_digits (drop i word) ≡ (is_ascii_digit (get_or word i 0) && all_digits (drop (i + 1) word)) = at_drop_more all_digits word i 0 within in
      rw good at step

  pub capped_more : (limit value : ℕ) → min limit (value_after value (drop i word)) ≡ min limit (value_after (min limit (value * 10 + (get_or word i 0 - 48))) (drop (i + 1) word))
  capped_more limit value =
      let next = value * 10 + (get_or word i 0 - 48) in
      ap (λ (n : ℕ). min limit n) (at_drop_more (value_after value) word i 0 within) ∙ capped_same limit next (min limit next) (drop (i + 1) word) (omega arith)

digit_is : (d : ℕ) → d < 10 → (is_ascii_digit (lower_digit d) ≡ true) × (lower_digit d - 48 ≡ d)
digit_is d small = (grind (arith, nat_tests), grind (arith, nat_tests))

all_digits_lem : (ds : List ℕ) → AllBelowBase 10 ds → all_digits (map lower_digit ds) ≡ true
all_digits_lem [] small = refl
all_digits_lem (d ∷ ds) small = and_from (is_ascii_digit (lower_digit d)) (all_digits (map lower_digit ds)) (digit_is d small.0).0 (all_digits_lem ds small.1)

value_is : (v : ℕ) (ds : List ℕ) → AllBelowBase 10 ds → value_after v (map lower_digit ds) ≡ number_from_digits_after 10 v ds
value_is v [] small = refl
value_is v (d ∷ ds) small =
    ap (λ (x : ℕ). value_after (v * 10 + x) (map lower_digit ds)) (digit_is d small.0).1 ∙ value_is (v * 10 + d) ds small.1

under_zeros : (k : ℕ) (ds : List ℕ) → AllBelowBase 10 ds → AllBelowBase 10 (replicate k 0 ++ ds)
under_zeros zero ds small = small
under_zeros (suc k) ds small = (omega arith, under_zeros k ds small)

number_zeros : (k : ℕ) (ds : List ℕ) → number_from_digits_after 10 0 (replicate k 0 ++ ds) ≡ number_from_digits_after 10 0 ds
number_zeros zero ds = refl
number_zeros (suc k) ds = number_zeros k ds

read_is : (max n : ℕ) (word : List ℕ) → 0 < length word → all_digits word ≡ true → value_of word ≡ n → n ≤ max → number_read max word ≡ Ok n
unfolding number_read
read_is max n word some digits value low = grind (arith, nat_tests)

pub reads_back : NumbersReadBack
unfolding digits_text
reads_back width n max wide low =
    let ds = digits_of 10 n in
    let small : AllBelowBase 10 (padded width ds) = under_zeros (width - length ds) ds (all_below_base_digits_of 10 n (omega arith)) in
    let long : 0 < length (map lower_digit (padded width ds)) = rw length-map (rw length-append (rw length-replicate (omega arith))) in
    read_is max n (map lower_digit (padded width ds)) long (all_digits_lem (padded width ds) small) (value_is 0 (padded width ds) small ∙ number_zeros (width - length ds) ds ∙ number_digits_of 10 n (omega arith)) low
