-- A number's digits, one by one from the lowest.
use Rattle.std.proofs.Common.{◌≡◌, ℕ, ◌+◌, ◌-◌, ◌/◌, ◌%◌, ◌<◌, ◌≤◌, List, [], ◌∷◌, ◌++◌, map, reverse, length, take, drop, replicate, sym, refl, ap, ◌∙◌, subst, ⊎_elim, arith}
use native.Mathlib.Nat.{zero-div, zero-mod}
use Rattle.std.specs.Int.Digits.{digits_of}
use Rattle.std.proofs.lemmas.Int.Digits.{digits_of_step}
use Rattle.std.proofs.lemmas.List.{append-nil, append_assoc, map-append, length_push, replicate_more, reverse-append, take_at, drop_at}
use Rattle.std.proofs.lemmas.Bool.{cases_lt}
use Rattle.text.specs.Figures.{lower_digit, padded, digits_text}

padded_push : (width : ℕ) (ds : List ℕ) (d : ℕ) → padded width (ds ++ d ∷ []) ≡ padded (width - 1) ds ++ d ∷ []
padded_push width ds d =
    let fewer : width - length (ds ++ d ∷ []) ≡ width - 1 - length ds = omega (arith, length_push ds d) in
    rw fewer (sym (append_assoc (replicate (width - 1 - length ds) 0) ds (d ∷ [])))

abbrev zeros : ℕ → List ℕ
zeros n = replicate n 0

zeros_push : (a b c : ℕ) → a ≡ b + 1 → c ≡ b → zeros a ++ [] ≡ (zeros c ++ []) ++ 0 ∷ []
zeros_push a b c more same =
    append-nil (zeros a) ∙ ap zeros more ∙ sym (replicate_more b 0) ∙ ap (λ (n : ℕ). zeros n ++ 0 ∷ []) (sym same) ∙ ap (λ (l : List ℕ). l ++ 0 ∷ []) (sym (append-nil (zeros c)))

padded_none : (width : ℕ) → 0 < width → padded width [] ≡ padded (width - 1) [] ++ 0 ∷ []
padded_none width some = zeros_push (width - 0) (width - 1) (width - 1 - 0) (omega arith) (omega arith)

-- the last digit is what the base leaves
abbrev Step : ℕ → ℕ → ℕ → Type 0
Step base width n = digits_text base width n ≡ digits_text base (width - 1) (n / base) ++ lower_digit (n % base) ∷ []

step_some : (base width n : ℕ) → 2 ≤ base → 0 < n → Step base width n
unfolding digits_text
step_some base width n two some =
    rw (digits_of_step base n two some, padded_push width (digits_of base (n / base)) (n % base)) (map-append lower_digit (padded (width - 1) (digits_of base (n / base))) (n % base ∷ []))

step_none : (base width : ℕ) → 0 < width → Step base width 0
unfolding digits_text
step_none base width wide =
    rw (zero-div, zero-mod) (ap (λ (l : List ℕ). map lower_digit l) (padded_none width wide) ∙ map-append lower_digit (padded (width - 1) []) (0 ∷ []))

digits_text_step : (base width n : ℕ) → 2 ≤ base → 0 < n + width → Step base width n
digits_text_step base width n two some =
    ⊎_elim (λ more. step_some base width n two more) (λ none. let z : 0 ≡ n = omega arith in subst (Step base width) z (step_none base width (omega arith))) (cases_lt 0 n)

pub digits_text_none : (base : ℕ) → digits_text base 0 0 ≡ []
unfolding digits_text
digits_text_none base = refl

-- behind what was there stand the lowest digits, the lowest first; the others are those of rest
pub record Written (before after : List ℕ) (base width number missing rest : ℕ) : Type 0 where
  pub low : List ℕ
  pub is : after ≡ before ++ low
  pub whole : digits_text base missing rest ++ reverse low ≡ digits_text base width number

pub written_more : {before after next : List ℕ} {base width number missing rest : ℕ} → 2 ≤ base → 0 < rest + missing → next ≡ after ++ lower_digit (rest % base) ∷ [] → Written before after base width number missing rest → Written before next base width number (missing - 1) (rest / base)
written_more {before} {after} {next} {base} {width} {number} {missing} {rest} two some pushed w =
    let d = lower_digit (rest % base) ∷ [] in
    record {
      low = w.low ++ d;
      is = pushed ∙ ap (λ (l : List ℕ). l ++ d) w.is ∙ append_assoc before w.low d;
      whole = ap (λ (l : List ℕ). digits_text base (missing - 1) (rest / base) ++ l) (reverse-append w.low d) ∙ sym (append_assoc (digits_text base (missing - 1) (rest / base)) d (reverse w.low)) ∙ ap (λ (l : List ℕ). l ++ reverse w.low) (sym (digits_text_step base missing rest two some)) ∙ w.whole;
    }

pub written_all : {before after : List ℕ} {base width number missing rest : ℕ} (start : ℕ) → start ≡ length before → missing ≡ 0 → rest ≡ 0 → Written before after base width number missing rest → take start after ++ reverse (drop start after) ≡ before ++ digits_text base width number
written_all {before} {after} {base} {width} {number} start long none last w =
    let front : take start after ≡ before = ap (λ (l : List ℕ). take start l) w.is ∙ take_at before w.low start (sym long) in
    let back : drop start after ≡ w.low = ap (λ (l : List ℕ). drop start l) w.is ∙ drop_at before w.low start (sym long) in
    let spelt : reverse w.low ≡ digits_text base width number = rw (none, last, digits_text_none base) at w.whole in
    cc
