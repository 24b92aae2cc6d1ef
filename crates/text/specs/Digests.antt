-- The digest of a byte string: FNV-1a with 64 bits.
use Rattle.std.specs.Prelude.{ℕ, ◌*◌, ◌%◌, ◌^◌, List, fold, bit_xor}
use Rattle.text.specs.Figures.{digits_text}

abbrev pub mixed : ℕ → ℕ → ℕ
mixed hash byte = (bit_xor hash byte * 1099511628211) % 2 ^ 64

abbrev pub digest_of : List ℕ → ℕ
digest_of bytes = fold mixed 14695981039346656037 bytes

-- sixteen hex digits
abbrev pub digest_text : ℕ → List ℕ
digest_text value = digits_text 16 16 value
