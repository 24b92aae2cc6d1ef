-- The checksum that a checked image keeps beside each block.
use Rattle.std.specs.Prelude.{ℕ, ◌+◌, ◌*◌, ◌%◌, List, [], ◌∷◌}

-- Bytes, each times its place plus one, from place i on.
abbrev pub weighted : ℕ → List ℕ → ℕ
weighted i [] = 0
weighted i (b ∷ bs) = (i + 1) * b + weighted (i + 1) bs

abbrev pub checksum_of : ℕ → List ℕ → ℕ
checksum_of n content = (n + 1 + weighted 0 content) % 65521
