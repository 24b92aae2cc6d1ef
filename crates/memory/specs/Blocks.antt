-- What a block memory means: a list of blocks.
use Rattle.std.specs.Prelude.{◌≡◌, ℕ, ◌+◌, List, [], ◌∷◌, length, take, Some, None, Option}

-- A block has a content, or it is corrupt: its content cannot be told.
pub data Block : Type 0 where
  sound : List ℕ → Block
  corrupt : Block

-- The content of a sound block; of a corrupt one, what there was before.
abbrev pub content_or : List ℕ → Block → List ℕ
content_or old (sound content) = content
content_or old corrupt = old

-- The number of the first corrupt block of a list, numbered from i on.
abbrev pub corrupt_from : ℕ → List Block → Option ℕ
corrupt_from i [] = None
corrupt_from i (corrupt ∷ bs) = Some i
corrupt_from i (sound content ∷ bs) = corrupt_from (i + 1) bs

-- The lowest corrupt block below a number. Only blocks that exist are looked at.
abbrev pub lowest_corrupt : ℕ → List Block → Option ℕ
lowest_corrupt below bs = corrupt_from 0 (take below bs)

-- Every content has 510 bytes.
abbrev pub WholeBlock : Block → Type 0
WholeBlock (sound content) = length content ≡ 510
WholeBlock corrupt = Unit {0}

abbrev pub Whole : List Block → Type 0
Whole [] = Unit {0}
Whole (b ∷ bs) = WholeBlock b × Whole bs
