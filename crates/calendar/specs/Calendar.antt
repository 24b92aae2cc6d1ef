-- The calendar of the years 2000 to 2099, which are numbered 0 to 99, and its seconds, counted from 2000-01-01 00:00:00 as 0.
use Rattle.std.specs.Prelude.{◌≡◌, ℕ, zero, suc, ◌+◌, ◌-◌, ◌*◌, ◌/◌, ◌%◌, ◌<◌, ◌≤◌, Bool, cond, ◌&&◌, List, [], ◌∷◌, take, Some, None, Option, ◌==◌, nat_le, nat_lt, slice_index}
use Rattle.calendar.specs.declared.DateTime.{DateTime}

-- A hundred years, 25 of them leap years: 36525 days of 86400 seconds.
abbrev pub seconds_in_all : ℕ
seconds_in_all = 3155760000

-- Sunday is 0. Day 0, which is 2000-01-01, was a Saturday.
abbrev pub weekday_of : ℕ → ℕ
weekday_of day = (day + 6) % 7

-- From 2000 to 2099 a year is a leap year exactly if 4 divides it: 2000 is one, since 400 divides it, and no other century falls in the range.
abbrev pub leap_year : ℕ → Bool
leap_year y = y % 4 == 0

-- The lengths of the twelve months, by whether the year is a leap year.
abbrev pub month_lengths : Bool → List ℕ
month_lengths leap = 31 ∷ cond leap 29 28 ∷ 31 ∷ 30 ∷ 31 ∷ 30 ∷ 31 ∷ 31 ∷ 30 ∷ 31 ∷ 30 ∷ 31 ∷ []

abbrev pub sum : List ℕ → ℕ
sum [] = 0
sum (n ∷ ns) = n + sum ns

abbrev pub year_length : ℕ → ℕ
year_length y = sum (month_lengths (leap_year y))

-- The length of a month. Months are counted from 1.
abbrev pub month_length : Bool → ℕ → ℕ
month_length leap m = slice_index (month_lengths leap) (m - 1)

-- The days of a year before a month of it.
abbrev pub before_month : Bool → ℕ → ℕ
before_month leap m = sum (take (m - 1) (month_lengths leap))

-- The days before a year.
abbrev pub before_year : ℕ → ℕ
before_year zero = 0
before_year (suc y) = before_year y + year_length y

-- The day number of a date: 2000-01-01 is day 0.
abbrev pub day_of : ℕ → ℕ → ℕ → ℕ
day_of y m d = before_year y + before_month (leap_year y) m + (d - 1)

-- The second of a date-time.
abbrev pub second_of : DateTime → ℕ
second_of t = ((day_of t.year t.month t.day * 24 + t.hour) * 60 + t.minute) * 60 + t.second

-- A day that the calendar has.
pub record RealDay (y m d : ℕ) : Type 0 where
  pub year : y < 100
  pub month : (1 ≤ m) × (m ≤ 12)
  pub day : (1 ≤ d) × (d ≤ month_length (leap_year y) m)

-- A date-time that the calendar has.
pub record Real (t : DateTime) : Type 0 where
  pub date : RealDay t.year t.month t.day
  pub hour : t.hour < 24
  pub minute : t.minute < 60
  pub second : t.second < 60

-- The same as a test.
abbrev pub is_real : DateTime → Bool
is_real t =
    nat_lt t.year 100 && (nat_le 1 t.month && (nat_le t.month 12 && (nat_le 1 t.day && (nat_le t.day (month_length (leap_year t.year) t.month) && (nat_lt t.hour 24 && (nat_lt t.minute 60 && nat_lt t.second 60))))))

abbrev pub second_if_real : DateTime → Option ℕ
second_if_real t = cond (is_real t) (Some (second_of t)) None

-- t is the date-time of the second s: a real one, which counts s, and the only one that does.
pub record Names (s : ℕ) (t : DateTime) : Type 0 where
  pub real : Real t
  pub counts : second_of t ≡ s
  pub only : (u : DateTime) → Real u → second_of u ≡ s → u ≡ t

-- What is answered for the second s: its date-time in the range, and none exactly outside of it.
abbrev pub DateOf : ℕ → Option DateTime → Type 0
DateOf s None = seconds_in_all ≤ s
DateOf s (Some t) = (s < seconds_in_all) × Names s t

-- One length more was counted off.
abbrev pub one_more : ℕ × ℕ → ℕ × ℕ
one_more p = (suc p.0, p.1)

-- Counts whole lengths of a list off from n, one after another: how many there were, and what is left of n.
unfoldable pub count_off : List ℕ → ℕ → ℕ × ℕ
count_off [] n = (0, n)
count_off (x ∷ xs) n = cond (nat_lt n x) (0, n) (one_more (count_off xs (n - x)))

-- The lengths of n years from the year y on.
unfoldable pub year_lengths : ℕ → ℕ → List ℕ
year_lengths y zero = []
year_lengths y (suc n) = year_length y ∷ year_lengths (suc y) n

-- The date-time of a second: whole years are counted off from its day number, then whole months from what is left.
unfoldable pub date_of : ℕ → DateTime
date_of s =
    let year : ℕ × ℕ = count_off (year_lengths 0 100) (s / 86400) in
    let month : ℕ × ℕ = count_off (month_lengths (leap_year year.0)) year.1 in
    record { year = year.0; month = month.0 + 1; day = month.1 + 1; hour = s / 3600 % 24; minute = s / 60 % 60; second = s % 60 }

abbrev pub date_if_in_range : ℕ → Option DateTime
date_if_in_range s = cond (nat_lt s seconds_in_all) (Some (date_of s)) None

-- A date-time in six bytes.
abbrev pub bytes_of : DateTime → List ℕ
bytes_of t = t.year ∷ t.month ∷ t.day ∷ t.hour ∷ t.minute ∷ t.second ∷ []

abbrev pub of_bytes : List ℕ → DateTime
of_bytes b =
    record { year = slice_index b 0; month = slice_index b 1; day = slice_index b 2; hour = slice_index b 3; minute = slice_index b 4; second = slice_index b 5 }

abbrev pub dated : ℕ → ℕ → ℕ → ℕ → ℕ → ℕ → DateTime
dated y m d h n s = record { year = y; month = m; day = d; hour = h; minute = n; second = s }
