-- Lists of bytes with other bytes in place of some.
use Rattle.std.specs.Prelude.{◌≡◌, ℕ, ◌+◌, ◌≤◌, ◌⊎◌, List, ◌++◌, length, take, drop}
use Rattle.fields.specs.Words.{part}

-- The old bytes with new ones from a place on.
unfoldable pub patch : ℕ → List ℕ → List ℕ → List ℕ
patch at new old = take at old ++ (new ++ drop (at + length new) old)

-- The old bytes with new ones at their front.
unfoldable pub overlay : List ℕ → List ℕ → List ℕ
overlay new old = new ++ drop (length new) old

-- What changed is just the part of the new bytes: it now is those, each part beside it is as it was, and the length is too.
pub record Replaces (at : ℕ) (new old now : List ℕ) : Type 0 where
  pub long : length now ≡ length old
  pub there : part (length new) at now ≡ new
  pub beside : (width from : ℕ) → (from + width ≤ at) ⊎ (at + length new ≤ from) → part width from now ≡ part width from old
