-- What stands for the whole calendar.
use Rattle.std.specs.Prelude.{◌≡◌, ℕ, ◌*◌, ◌<◌, List, length, Option}
use Rattle.std.specs.Option.{SomeIff}
use Rattle.calendar.specs.declared.DateTime.{DateTime}
use Rattle.calendar.specs.Calendar.{seconds_in_all, before_year, second_of, date_of, Real, Names, bytes_of, of_bytes}

-- Seconds of the range and real date-times go to one another and back, one to one, and so do date-times and their six bytes.
pub record Laws : Type 0 where
  pub range : before_year 100 * 86400 ≡ seconds_in_all
  pub names : (s : ℕ) → s < seconds_in_all → Names s (date_of s)
  pub there_and_back : (s : ℕ) → s < seconds_in_all → second_of (date_of s) ≡ s
  pub within : (t : DateTime) → Real t → second_of t < seconds_in_all
  pub back_and_there : (t : DateTime) → Real t → date_of (second_of t) ≡ t
  pub from_bytes : (t : DateTime) → of_bytes (bytes_of t) ≡ t
  pub to_bytes : (b : List ℕ) → length b ≡ 6 → bytes_of (of_bytes b) ≡ b

-- A second that was made a date-time, and a second again: the same one, and nothing exactly outside the range.
abbrev pub SecondBack : ℕ → Option ℕ → Type 0
SecondBack s r = SomeIff r (s < seconds_in_all) s

-- A date-time that was made a second, and a date-time again: the same one, and nothing exactly if it is not real.
abbrev pub DateBack : DateTime → Option DateTime → Type 0
DateBack t r = SomeIff r (Real t) t
