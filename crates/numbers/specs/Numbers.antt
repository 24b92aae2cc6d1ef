-- A number that was tried as a name.
use Rattle.std.specs.Prelude.{◌≡◌, ℕ, Option, Result, ok_or}
use Rattle.std.specs.Result.{result_ok}
use Rattle.numbers.specs.declared.number.UnknownNumber.{UnknownNumber}
use Rattle.numbers.specs.Names.{Reads}

-- It gives the name that has it, or tells itself; and what was found has it, and a name that has it was found.
pub record Numbered {X : Type 0} (number : X → ℕ) (numbered : ℕ → Option X) (n : ℕ) (r : Result X UnknownNumber) : Type 0 where
  pub equation : r ≡ ok_or (numbered n) (record { 0 = n })
  pub reads : Reads number n (result_ok r)
