-- Single dates and seconds, for the proofs that want them.
use Rattle.std.proofs.Common.{◌≡◌, ◌/◌, false, refl, arith}
use Rattle.calendar.specs.Calendar.{second_of, weekday_of, date_of, count_off, year_lengths, Real, is_real, dated}

pub march_2000 : second_of (dated 0 3 1 0 0 0) ≡ 5184000
march_2000 = refl

pub leap_day_2024 : second_of (dated 24 2 29 12 30 0) ≡ 762525000
leap_day_2024 = refl

pub date_of_leap_day_2024 : date_of 762525000 ≡ dated 24 2 29 12 30 0
unfolding date_of count_off year_lengths
date_of_leap_day_2024 = refl

pub thursday : weekday_of (762525000 / 86400) ≡ 4
thursday = refl

pub no_leap_day_2001 : Real (dated 1 2 29 0 0 0) → ⊥
no_leap_day_2001 p = omega arith

pub test_of_no_leap_day_2001 : is_real (dated 1 2 29 0 0 0) ≡ false
test_of_no_leap_day_2001 = refl
