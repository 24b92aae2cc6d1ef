-- Numbers in lists of bytes.
use Rattle.std.specs.Prelude.{ℕ, zero, suc, ◌+◌, ◌*◌, ◌/◌, ◌%◌, List, [], ◌∷◌, reverse, take, drop}

-- The bytes of a list from a place on, as many as a width says.
abbrev pub part : ℕ → ℕ → List ℕ → List ℕ
part width at bytes = take width (drop at bytes)

-- The number that bytes stand for, and the bytes of a number, least significant byte first.
abbrev pub le_value : List ℕ → ℕ
le_value [] = 0
le_value (b ∷ bs) = b + 256 * le_value bs

abbrev pub le_bytes : ℕ → ℕ → List ℕ
le_bytes zero v = []
le_bytes (suc width) v = v % 256 ∷ le_bytes width (v / 256)

-- The same, most significant byte first.
abbrev pub be_value : List ℕ → ℕ
be_value bs = le_value (reverse bs)

abbrev pub be_bytes : ℕ → ℕ → List ℕ
be_bytes width v = reverse (le_bytes width v)

-- The number of so many bytes at a place: least significant byte first, and most significant byte first.
unfoldable pub word : ℕ → ℕ → List ℕ → ℕ
word width at bytes = le_value (part width at bytes)

unfoldable pub big_word : ℕ → ℕ → List ℕ → ℕ
big_word width at bytes = be_value (part width at bytes)
