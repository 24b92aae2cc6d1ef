-- Bytes as pairs of digits: what a line means, and how bytes are written.
use Rattle.std.specs.Prelude.{◌≡◌, ℕ, ◌+◌, ◌*◌, ◌/◌, ◌%◌, ◌<◌, Bool, true, false, cond, ◌&&◌, List, [], ◌∷◌, ◌++◌, map, Some, None, Ok, Err, Option, Result, nat_lt}
use Rattle.std.specs.List.{flat_map, filter}
use Rattle.std.specs.Char.{digit_value}
use Rattle.std.specs.Int.Digits.{AllBelowBase}
use Rattle.text.specs.declared.hex.HexFault.{HexFault}
use Rattle.text.specs.declared.hex.HexFault.TheVariants.{NotHex, OddDigits, NoMemory}
use Rattle.text.specs.Figures.{upper_digit}
use Rattle.text.specs.Lines.{of_kind}

-- what a line has besides blanks
abbrev pub solid_of : List ℕ → List ℕ
solid_of line = filter (of_kind false) line

-- each is a hex digit, in either case
abbrev pub all_hex : List ℕ → Bool
all_hex [] = true
all_hex (c ∷ cs) = nat_lt (digit_value c) 16 && all_hex cs

abbrev pub on_first : ℕ → Result (List ℕ) HexFault → Result (List ℕ) HexFault
on_first byte (Ok bytes) = Ok (byte ∷ bytes)
on_first byte (Err fault) = Err fault

-- two values to a byte
abbrev pub paired : List ℕ → Result (List ℕ) HexFault
paired [] = Ok []
paired (high ∷ []) = Err OddDigits
paired (high ∷ low ∷ more) = on_first (high * 16 + low) (paired more)

unfoldable pub hex_read : List ℕ → Result (List ℕ) HexFault
hex_read line = cond (all_hex (solid_of line)) (paired (map digit_value (solid_of line))) (Err NotHex)

-- the bytes that are done and the digit of an open pair, after one more digit
abbrev pub taken : List ℕ → Option ℕ → ℕ → List ℕ × Option ℕ
taken done None low = (done, Some low)
taken done (Some high) low = (done ++ (high * 16 + low) ∷ [], None)

-- and at the end
abbrev pub whole : List ℕ → Option ℕ → Result (List ℕ) HexFault
whole done None = Ok done
whole done (Some high) = Err OddDigits

abbrev pub Value : Option ℕ → Type 0
Value None = Unit {0}
Value (Some high) = high < 16

-- a refusal is what reading the line gives, unless memory ran out
abbrev pub Refuses : Result (List ℕ) HexFault → HexFault → Type 0
Refuses meant NotHex = meant ≡ Err NotHex
Refuses meant OddDigits = meant ≡ Err OddDigits
Refuses meant NoMemory = Unit {0}

abbrev pub pair_text : ℕ → List ℕ
pair_text byte = upper_digit (byte / 16) ∷ upper_digit (byte % 16) ∷ []

-- a separator between two pairs
unfoldable pub pairs_text : ℕ → List ℕ → List ℕ
pairs_text separator [] = []
pairs_text separator (b ∷ bs) = pair_text b ++ flat_map (λ c. separator ∷ pair_text c) bs

abbrev pub hex_text : List ℕ → List ℕ
hex_text bytes = pairs_text 32 bytes

-- bytes that were written are read back
abbrev pub BytesReadBack : Type 0
BytesReadBack = (bytes : List ℕ) → AllBelowBase 256 bytes → hex_read (hex_text bytes) ≡ Ok bytes
