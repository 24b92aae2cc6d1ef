-- Counting off gives the date-time of each second of the range; each real date-time has its second; six bytes and back.
use Rattle.std.proofs.Common.{◌≡◌, ℕ, zero, suc, ◌+◌, ◌-◌, ◌/◌, ◌%◌, ◌<◌, ◌≤◌, ltb, List, [], ◌∷◌, length, get_or, take, sym, refl, ap, ◌∙◌, zero-add, arith}
use Rattle.std.proofs.lemmas.List.FromFn.{fill_by_all}
use Rattle.std.proofs.lemmas.Bool.{ltb-true, ltb-false, cond_both}
use Rattle.calendar.specs.declared.DateTime.{DateTime}
use Rattle.calendar.specs.Calendar.{seconds_in_all, leap_year, month_lengths, sum, year_length, before_year, second_of, Real, Names, one_more, count_off, year_lengths, date_of, dated}
use Rattle.calendar.specs.Laws.{Laws}
use Rattle.calendar.proofs.Count.{before_year_lem, in_year, names}

-- n falls into a list of lengths at the place p.0, with p.1 left over.
pub record Falls (xs : List ℕ) (n : ℕ) (p : ℕ × ℕ) : Type 0 where
  pub inside : p.0 < length xs
  pub below : p.1 < get_or xs p.0 0
  pub whole : sum (take p.0 xs) + p.1 ≡ n

further : (x : ℕ) (xs : List ℕ) (n : ℕ) (p : ℕ × ℕ) → x ≤ n → Falls xs (n - x) p → Falls (x ∷ xs) n (one_more p)
further x xs n p h f = record { inside = omega arith; below = f.below; whole = omega arith }

pub counted : (xs : List ℕ) (n : ℕ) → n < sum xs → Falls xs n (count_off xs n)
unfolding count_off
counted [] n h = absurd (omega arith)
counted (x ∷ xs) n h =
    cond_both (ltb n x) (0, n) (one_more (count_off xs (n - x))) (λ p. Falls (x ∷ xs) n p)
    (λ e. record { inside = omega arith; below = ltb-true n x e; whole = omega arith })
    (λ e. let le : x ≤ n = ltb-false n x e in further x xs n _ le (counted xs (n - x) (omega arith)))

years_length : (y n : ℕ) → length (year_lengths y n) ≡ n
unfolding year_lengths
years_length y zero = refl
years_length y (suc n) = ap suc (years_length (suc y) n)

year_at : (y n k : ℕ) → k < n → get_or (year_lengths y n) k 0 ≡ year_length (y + k)
unfolding year_lengths
year_at y zero k h = absurd (omega arith)
year_at y (suc n) zero h = ap year_length (omega arith)
year_at y (suc n) (suc k) h = year_at (suc y) n k (omega arith) ∙ ap year_length (omega arith)

years_before : (y n k : ℕ) → k < n → before_year y + sum (take k (year_lengths y n)) ≡ before_year (y + k)
unfolding year_lengths
years_before y zero k h = absurd (omega arith)
years_before y (suc n) zero h = let same : before_year y ≡ before_year (y + 0) = ap before_year (omega arith) in omega arith
years_before y (suc n) (suc k) h =
    let more : before_year (suc y) + sum (take k (year_lengths (suc y) n)) ≡ before_year (y + suc k) =
    years_before (suc y) n k (omega arith) ∙ ap before_year (omega arith) in omega arith

years_sum : sum (year_lengths 0 100) ≡ 36525
unfolding year_lengths
years_sum = refl

-- Where a day number falls among the hundred years.
year_place : (n : ℕ) (p : ℕ × ℕ) → Falls (year_lengths 0 100) n p → (p.0 < 100) × (p.1 < year_length p.0) × (before_year p.0 + p.1 ≡ n)
year_place n p f =
    let inside : p.0 < 100 = omega (arith, years_length 0 100) in
    let length : get_or (year_lengths 0 100) p.0 0 ≡ year_length p.0 = year_at 0 100 p.0 inside ∙ ap year_length (zero-add p.0) in
    let before : 0 + sum (take p.0 (year_lengths 0 100)) ≡ before_year p.0 = years_before 0 100 p.0 inside ∙ ap before_year (zero-add p.0) in
    (inside, omega arith, omega arith)

from_places : (s : ℕ) (y m : ℕ × ℕ) → s < seconds_in_all → Falls (year_lengths 0 100) (s / 86400) y → Falls (month_lengths (leap_year y.0)) y.1 m → Names s (dated y.0 (m.0 + 1) (m.1 + 1) (s / 3600 % 24) (s / 60 % 60) (s % 60))
from_places s y m h f g =
    let year = year_place (s / 86400) y f in
    let back : m.0 + 1 - 1 ≡ m.0 = omega arith in
    names
    (record { date = record { year = year.0; month = (omega arith, omega arith); day = (omega arith, rw back (omega arith)) }; hour = omega arith; minute = omega arith; second = omega arith })
    (rw back (omega arith))

-- What counting off gives is the date-time of the second.
pub dates : (s : ℕ) → s < seconds_in_all → Names s (date_of s)
unfolding date_of
dates s h =
    let f = counted (year_lengths 0 100) (s / 86400) (omega (arith, years_sum)) in
    from_places s _ _ h f (counted _ _ (year_place _ _ f).1)

pub in_range : (t : DateTime) → Real t → second_of t < seconds_in_all
in_range t p = omega (arith, before_year_lem (suc t.year), in_year t.year t.month t.day p.date)

pub second_of_date : (s : ℕ) → s < seconds_in_all → second_of (date_of s) ≡ s
second_of_date s h = (dates s h).counts

pub date_of_second : (t : DateTime) → Real t → date_of (second_of t) ≡ t
date_of_second t p = sym ((dates (second_of t) (in_range t p)).only t p refl)

-- Whatever names a second is what counting off gives.
pub named : (s : ℕ) (t : DateTime) → s < seconds_in_all → Names s t → t ≡ date_of s
named s t h p = (dates s h).only t p.real p.counts

pub laws : Laws
laws =
    record { range = refl; names = dates; there_and_back = second_of_date; within = in_range; back_and_there = date_of_second; from_bytes = λ t. refl; to_bytes = λ b h. sym (fill_by_all (λ i. get_or b i 0) b 6 0 h (λ k l. refl)) }
