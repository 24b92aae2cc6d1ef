-- What the parts of a line say.
use Rattle.std.specs.Prelude.{◌≡◌, ℕ, Bool, true, false, cond, List, is_some, Ok, Err, Result}
use Rattle.std.specs.Borrow.{Bor}
use Rattle.std.specs.Option.{ok_or}
use Rattle.text.specs.declared.hex.HexFault.{HexFault}
use Rattle.text.specs.declared.hex.HexFault.TheVariants as hex
use Rattle.text.specs.declared.number.NumberFault.{NumberFault}
use Rattle.text.specs.Lines.{cut_word}
use Rattle.text.specs.Numerals.{number_read}
use Rattle.text.specs.Pairs.{hex_read}
use Rattle.lines.specs.declared.complaint.Complaint.{Complaint}
use Rattle.lines.specs.declared.complaint.Complaint.TheVariants as complaint

-- Of a part and the rest of the line, the values.
abbrev pub rested : {X Y E : Type 0} → (X → Y) → Result (X × Bor (List ℕ)) E → Result (Y × List ℕ) E
rested f (Ok p) = Ok (f p.0, p.1.now)
rested f (Err e) = Err e

-- The second result, if there is a first.
abbrev pub and_then : {X Y E : Type 0} → Result X E → (X → Result Y E) → Result Y E
and_then (Ok x) f = f x
and_then (Err e) f = Err e

abbrev pub word_said : List ℕ → Result (List ℕ × List ℕ) Complaint
word_said line = ok_or (cut_word line) complaint.MissingWord

abbrev pub counted : Result ℕ NumberFault → Result ℕ Complaint
counted (Ok n) = Ok n
counted (Err e) = Err (complaint.Number e)

abbrev pub number_said : ℕ → List ℕ → Result (ℕ × List ℕ) Complaint
number_said max line = and_then (word_said line) (λ w. and_then (counted (number_read max w.0)) (λ n. Ok (n, w.1)))

abbrev pub end_said : List ℕ → Result (Unit {0}) Complaint
end_said line = cond (is_some (cut_word line)) (Err complaint.SurplusWord) (Ok tt)

abbrev pub last_number_said : ℕ → List ℕ → Result ℕ Complaint
last_number_said max line = and_then (number_said max line) (λ n. and_then (end_said n.1) (λ _. Ok n.0))

abbrev pub hexed : Result (List ℕ) HexFault → Result (List ℕ) Complaint
hexed (Ok bytes) = Ok bytes
hexed (Err e) = Err (complaint.Hex e)

abbrev pub bytes_said : List ℕ → Result (List ℕ) Complaint
bytes_said line = hexed (hex_read line)

-- The one complaint that a line is not to blame for.
abbrev pub short_of_memory : Complaint → Bool
short_of_memory complaint.UnknownCommand = false
short_of_memory complaint.UnknownMake = false
short_of_memory complaint.MissingWord = false
short_of_memory complaint.SurplusWord = false
short_of_memory (complaint.Number e) = false
short_of_memory (complaint.Hex hex.NotHex) = false
short_of_memory (complaint.Hex hex.OddDigits) = false
short_of_memory (complaint.Hex hex.NoMemory) = true
short_of_memory complaint.NoBytes = false
short_of_memory complaint.TooManyBytes = false
short_of_memory complaint.NoImage = false
short_of_memory complaint.OutsideImage = false
short_of_memory complaint.Started = false
short_of_memory complaint.NotStarted = false
short_of_memory complaint.NoMemory = true

-- What was read is what the line says, unless memory ran short.
abbrev pub Meets : {X Y : Type 0} → (X → Y) → Result X Complaint → Result Y Complaint → Type 0
Meets f (Ok x) said = said ≡ Ok (f x)
Meets f (Err e) said = short_of_memory e ≡ false → said ≡ Err e
