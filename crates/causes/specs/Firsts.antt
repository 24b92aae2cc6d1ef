-- Of the causes that a call may be refused for, the first in their order that is possible.
use Rattle.std.specs.Prelude.{◌≡◌, ℕ, ◌⊎◌, List, [], ◌∷◌, Ok, Err, Result}
use Rattle.refusals.specs.declared.cause.Cause.{Cause}
use Rattle.refusals.specs.Causes.{cause_number}

-- A cause, and when it is possible, with the place that is told of it.
abbrev pub Ground : Type 1
Ground = Cause × (ℕ → Type 0)

abbrev pub Possible : Ground → Type 0
Possible g = (place : ℕ) × (g.1 place)

abbrev pub Impossible : Ground → Type 0
Impossible g = (place : ℕ) → g.1 place → ⊥

-- A cause with its place stands in the order and is possible, and nothing that stands before it is.
abbrev pub FirstIn : List Ground → Cause → ℕ → Type 0
FirstIn [] c place = ⊥
FirstIn (g ∷ gs) c place = ((c ≡ g.0) × g.1 place) ⊎ (Impossible g × FirstIn gs c place)

-- Something in the order is possible; nothing is.
abbrev pub SomeIn : List Ground → Type 0
SomeIn [] = ⊥
SomeIn (g ∷ gs) = Possible g ⊎ SomeIn gs

abbrev pub NoneIn : List Ground → Type 0
NoneIn [] = Unit {0}
NoneIn (g ∷ gs) = Impossible g × NoneIn gs

-- A refusal tells the first that is possible. If something is possible the call is refused, and if nothing is it is accepted.
pub record FirstTold {X F : Type 0} (cause_of : F → Cause) (place_of : F → ℕ) (order : List Ground) (answer : Result X F) : Type 0 where
  pub told : (e : F) → answer ≡ Err e → FirstIn order (cause_of e) (place_of e)
  pub refused : SomeIn order → (e : F) × (answer ≡ Err e)
  pub accepted : NoneIn order → (x : X) × (answer ≡ Ok x)

-- The numbers of the causes, in order.
abbrev pub numbers_of : List Ground → List ℕ
numbers_of [] = []
numbers_of (g ∷ gs) = cause_number g.0 ∷ numbers_of gs
