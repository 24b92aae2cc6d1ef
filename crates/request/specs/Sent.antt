-- The bytes that ask for something, and what it means that they are read right.
use Rattle.std.specs.Prelude.{◌≡◌, ℕ, ◌<◌, List, ◌∷◌, ◌++◌, length, Ok, Result}
use Rattle.fields.specs.Words.{be_bytes}
use Rattle.numbers.specs.declared.service.Service.TheVariants.{FullRead, PartialRead, FullWrite, PartialWrite}
use Rattle.numbers.specs.Names.{service_number}
use Rattle.refusals.specs.declared.fault.ServiceFault.{ServiceFault}
use Rattle.request.specs.Asks.{Ask, full_read, partial_read, full_write, partial_write}
use Rattle.request.specs.Answers.{with_check}

abbrev pub request_bytes : Ask → List ℕ
request_bytes (full_read table) = service_number FullRead ∷ be_bytes 2 table
request_bytes (partial_read table offset count) = service_number PartialRead ∷ (be_bytes 2 table ++ (be_bytes 3 offset ++ be_bytes 2 count))
request_bytes (full_write table content) = service_number FullWrite ∷ (be_bytes 2 table ++ (be_bytes 2 (length content) ++ with_check content))
request_bytes (partial_write table offset content) = service_number PartialWrite ∷ (be_bytes 2 table ++ (be_bytes 3 offset ++ (be_bytes 2 (length content) ++ with_check content)))

-- Each number fits the bytes that a request has for it.
abbrev pub Fitting : Ask → Type 0
Fitting (full_read table) = table < 65536
Fitting (partial_read table offset count) = (table < 65536) × (offset < 16777216) × (count < 65536)
Fitting (full_write table content) = (table < 65536) × (length content < 65536)
Fitting (partial_write table offset content) = (table < 65536) × (offset < 16777216) × (length content < 65536)

-- Bytes that ask for something are read as that, and bytes that are read as something are just those that ask for it.
pub record ReadRight (bs : List ℕ) (read : Result Ask ServiceFault) : Type 0 where
  pub sent : (a : Ask) → Fitting a → bs ≡ request_bytes a → read ≡ Ok a
  pub only : (a : Ask) → read ≡ Ok a → bs ≡ request_bytes a
