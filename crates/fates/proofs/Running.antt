-- What happens in two stretches, one after the other.
use Rattle.std.proofs.Common.{◌≡◌, List, [], ◌∷◌, ◌++◌, refl}
use Rattle.fates.specs.Stagings.{Happening, Memory, after, run, Account, noted, kept}

pub run_append : (m : Memory) (xs ys : List Happening) → run m (xs ++ ys) ≡ run (run m xs) ys
run_append m [] ys = refl
run_append m (h ∷ xs) ys = run_append (after m h) xs ys

pub kept_append : (a : Account) (xs ys : List Happening) → kept a (xs ++ ys) ≡ kept (kept a xs) ys
kept_append a [] ys = refl
kept_append a (h ∷ xs) ys = kept_append (noted a h) xs ys
