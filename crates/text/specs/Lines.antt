-- A line and its words.
use Rattle.std.specs.Prelude.{ℕ, Bool, true, false, cond, not, ◌||◌, List, [], ◌∷◌, ◌++◌, length, take, drop, Some, None, Option, ◌==◌, slice_index}
use Rattle.std.specs.List.{flat_map, prefix_len}

-- a space or a tab
abbrev pub blank : ℕ → Bool
blank c = c == 32 || c == 9

-- blank, or not
abbrev pub of_kind : Bool → ℕ → Bool
of_kind true c = blank c
of_kind false c = not (blank c)

unfoldable pub past_blanks : List ℕ → List ℕ
past_blanks line = drop (prefix_len blank line) line

-- what stands before the first blank, and the rest
unfoldable pub split_word : List ℕ → Option (List ℕ × List ℕ)
split_word bytes =
    cond (length bytes == 0) None (Some (take (prefix_len (of_kind false) bytes) bytes, drop (prefix_len (of_kind false) bytes) bytes))

-- the first word of a line, and the rest of the line
abbrev pub cut_word : List ℕ → Option (List ℕ × List ℕ)
cut_word line = split_word (past_blanks line)

-- nothing but blanks, or `#` behind them
abbrev pub is_comment : List ℕ → Bool
is_comment line = length (past_blanks line) == 0 || slice_index (past_blanks line) 0 == 35

-- a word that ends here, if there is one
abbrev pub ended : List ℕ → List (List ℕ)
ended [] = []
ended (c ∷ cs) = (c ∷ cs) ∷ []

-- the words of a line of which a word's beginning was read
abbrev pub words_after : List ℕ → List ℕ → List (List ℕ)
words_after begun [] = ended begun
words_after begun (c ∷ cs) = cond (blank c) (ended begun ++ words_after [] cs) (words_after (begun ++ c ∷ []) cs)

unfoldable pub words_of : List ℕ → List (List ℕ)
words_of line = words_after [] line

-- a space between two
unfoldable pub spaced : List (List ℕ) → List ℕ
spaced [] = []
spaced (w ∷ ws) = w ++ flat_map (λ v. 32 ∷ v) ws

-- how a line is shown: `> ` and its words
abbrev pub echo_of : List ℕ → List ℕ
echo_of line = (62 ∷ 32 ∷ []) ++ spaced (words_of line)
