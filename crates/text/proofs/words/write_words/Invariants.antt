use Rattle.std.proofs.Common.{◌≡◌, ◌∷◌, ◌++◌, length, vec_items}
use Rattle.std.specs.List.{flat_map}
use Rattle.text.specs.Lines.{words_of}
use Rattle.text.proofs.words.write_words.Given as goal

abbrev pub invariant-loop-word : goal.invariant-loop-word
invariant-loop-word l = vec_items l.out ++ flat_map (λ v. 32 ∷ v) (words_of l.rest) ≡ vec_items l.initial.out ++ flat_map (λ v. 32 ∷ v) (words_of l.initial.rest)

abbrev pub decreases-loop-word : goal.decreases-loop-word
decreases-loop-word l = length l.rest
