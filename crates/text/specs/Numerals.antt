-- Decimal numbers: what a word means, and how a number is written.
use Rattle.std.specs.Prelude.{◌≡◌, ℕ, ◌+◌, ◌-◌, ◌*◌, ◌<◌, ◌≤◌, Bool, true, cond, ◌&&◌, List, [], ◌∷◌, length, Ok, Err, Result, ◌==◌, nat_le}
use Rattle.std.specs.Char.{is_ascii_digit}
use Rattle.text.specs.declared.number.NumberFault.{NumberFault}
use Rattle.text.specs.declared.number.NumberFault.TheVariants.{NotDecimal, TooLarge}
use Rattle.text.specs.Figures.{digits_text}

abbrev pub all_digits : List ℕ → Bool
all_digits [] = true
all_digits (c ∷ cs) = is_ascii_digit c && all_digits cs

-- the number that digits write behind the number that was written before them
abbrev pub value_after : ℕ → List ℕ → ℕ
value_after value [] = value
value_after value (c ∷ cs) = value_after (value * 10 + (c - 48)) cs

abbrev pub value_of : List ℕ → ℕ
value_of word = value_after 0 word

abbrev up_to : ℕ → ℕ → Result ℕ NumberFault
up_to max value = cond (nat_le value max) (Ok value) (Err TooLarge)

unfoldable pub number_read : ℕ → List ℕ → Result ℕ NumberFault
number_read max word =
    cond (length word == 0) (Err NotDecimal) (cond (all_digits word) (up_to max (value_of word)) (Err NotDecimal))

-- with at least so many digits
abbrev pub decimal_text : ℕ → ℕ → List ℕ
decimal_text width number = digits_text 10 width number

-- a number that was written is read back
abbrev pub NumbersReadBack : Type 0
NumbersReadBack = (width number max : ℕ) → 0 < width → number ≤ max → number_read max (decimal_text width number) ≡ Ok number
