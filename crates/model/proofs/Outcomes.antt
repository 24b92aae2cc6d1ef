-- Outcomes told apart: an answer is no refusal, something is not nothing, and what two equal answers hold is equal.
use Rattle.std.proofs.Common.{◌≡◌, ℕ, Bool, true, false, cond, eqb, List, [], ◌∷◌, Some, None, Ok, Err, Option, Result, sym, refl, arith}
use Rattle.std.proofs.lemmas.Bool.{eqb-true}
use Rattle.numbers.specs.Names.{first_with}

pub never : {X E : Type 0} {x : X} {e : E} → ◌≡◌ {A = Result X E} (Ok x) (Err e) → ⊥
never h = let z : ◌≡◌ {A = ℕ} 0 1 = cc in omega arith

pub missing : {X : Type 0} {x : X} → ◌≡◌ {A = Option X} (Some x) None → ⊥
missing h = let z : ◌≡◌ {A = ℕ} 0 1 = cc in omega arith

pub ok_same : {X E : Type 0} {x y : X} → ◌≡◌ {A = Result X E} (Ok x) (Ok y) → x ≡ y
ok_same h = cc

pub some_same : {X : Type 0} {x y : X} → ◌≡◌ {A = Option X} (Some x) (Some y) → x ≡ y
some_same h = cc

-- a name that was found by a number has it
pub first_right : {X : Type 0} (number : X → ℕ) (n : ℕ) (xs : List X) (x : X) → first_with number n xs ≡ Some x → number x ≡ n
first_right number n [] x h = absurd (missing (sym h))
first_right number n (y ∷ ys) x h = go (eqb (number y) n) refl h (first_right number n ys x)
  where
    go : (b : Bool) → eqb (number y) n ≡ b → cond b (Some y) (first_with number n ys) ≡ Some x → (first_with number n ys ≡ Some x → number x ≡ n) → number x ≡ n
    go true e k rest = let same : y ≡ x = cc in rw (← same) (eqb-true (number y) n e)
    go false e k rest = rest k
