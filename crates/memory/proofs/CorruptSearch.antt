-- The search for the lowest corrupt block.
use Rattle.std.proofs.Common.{◌≡◌, ℕ, zero, suc, ◌+◌, ◌<◌, ◌≤◌, min, List, [], ◌∷◌, length, get_or, take, Option, Some, None, MatchOption, refl, sym, ap, ◌∙◌, arith}
use Rattle.memory.specs.Blocks.{Block, sound, corrupt, corrupt_from, lowest_corrupt}

abbrev IsSound : Block → Type 0
IsSound (sound content) = Unit {0}
IsSound corrupt = ⊥

sound_is : (b : Block) (content : List ℕ) → b ≡ sound content → IsSound b
sound_is (sound d) content e = tt
sound_is corrupt content e = let z : ◌≡◌ {A = ℕ} 0 1 = cc in absurd (omega arith)

first_is : (i below : ℕ) (bs : List Block) (j : ℕ) → j < below → j < length bs → get_or bs j corrupt ≡ corrupt → ((k : ℕ) → k < j → IsSound (get_or bs k corrupt)) → corrupt_from i (take below bs) ≡ Some (i + j)
first_is i zero bs j b l e before = absurd (omega arith)
first_is i (suc n) [] j b l e before = absurd (omega arith)
first_is i (suc n) (corrupt ∷ bs) zero b l e before = ap Some (omega arith)
first_is i (suc n) (corrupt ∷ bs) (suc j) b l e before = absurd (before 0 (omega arith))
first_is i (suc n) (sound c ∷ bs) zero b l e before = let z : ◌≡◌ {A = ℕ} 0 1 = cc in absurd (omega arith)
first_is i (suc n) (sound c ∷ bs) (suc j) b l e before =
    first_is (i + 1) n bs j (omega arith) (omega arith) e (λ k h. before (suc k) (omega arith)) ∙ ap Some (omega arith)

none_is : (i below : ℕ) (bs : List Block) → ((k : ℕ) → k < below → k < length bs → IsSound (get_or bs k corrupt)) → corrupt_from i (take below bs) ≡ None
none_is i zero bs all = refl
none_is i (suc n) [] all = refl
none_is i (suc n) (corrupt ∷ bs) all = absurd (all 0 (omega arith) (omega arith))
none_is i (suc n) (sound c ∷ bs) all = none_is (i + 1) n bs (λ k b l. all (suc k) (omega arith) (omega arith))

-- what `find` over the numbers below a bound gives
pub lowest_is : (bs : List Block) (content : ℕ → List ℕ) (below end : ℕ) → end ≡ min below (length bs) → (r : Option ℕ) → MatchOption r ((k : ℕ) → 0 ≤ k → k < end → get_or bs k corrupt ≡ sound (content k)) (λ i. (0 ≤ i) × (i < end) × (get_or bs i corrupt ≡ corrupt) × ((k : ℕ) → 0 ≤ k → k < i → get_or bs k corrupt ≡ sound (content k))) → r ≡ lowest_corrupt below bs
lowest_is bs content below end e None all = sym (none_is 0 below bs (λ k b l. sound_is _ _ (all k (omega arith) (omega arith))))
lowest_is bs content below end e (Some i) found =
    sym (first_is 0 below bs i (omega (arith, found.1)) (omega (arith, found.1)) found.2 (λ k h. sound_is _ _ (found.3 k (omega arith) h)) ∙ ap Some (omega arith))
