-- How a number is spelt by digits.
use Rattle.std.specs.Prelude.{ℕ, ◌+◌, ◌-◌, cond, List, ◌++◌, map, length, replicate, nat_lt}
use Rattle.std.specs.Int.Digits.{digits_of}

-- 0 to 9, then a, b and so on
abbrev pub lower_digit : ℕ → ℕ
lower_digit value = cond (nat_lt value 10) (48 + value) (87 + value)

-- 0 to 9, then A, B and so on
abbrev pub upper_digit : ℕ → ℕ
upper_digit value = cond (nat_lt value 10) (48 + value) (55 + value)

-- zeros in front, up to a width
abbrev pub padded : ℕ → List ℕ → List ℕ
padded width digits = replicate (width - length digits) 0 ++ digits

-- the number in a base, the highest digit first, with no zero in front but for the width
unfoldable pub digits_text : ℕ → ℕ → ℕ → List ℕ
digits_text base width number = map lower_digit (padded width (digits_of base number))
