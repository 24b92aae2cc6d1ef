-- The days before a year in one formula, and that no two real date-times count one second.
use Rattle.std.proofs.Common.{◌≡◌, ℕ, zero, suc, ◌+◌, ◌-◌, ◌*◌, ◌/◌, ◌<◌, List, [], ◌∷◌, get_or, take, sym, refl, ap, ◌∙◌, arith}
use Rattle.std.proofs.lemmas.Bool.Decides.{nat_tests}
use Rattle.calendar.specs.declared.DateTime.{DateTime}
use Rattle.calendar.specs.Calendar.{leap_year, month_lengths, sum, year_length, before_month, before_year, day_of, second_of, RealDay, Real, Names, dated}

year_more : (y : ℕ) → (y * 1461 + 3) / 4 + year_length y ≡ (suc y * 1461 + 3) / 4
year_more y = grind (arith, nat_tests)

-- Four years have 1461 days, and the first of them is the long one.
pub before_year_lem : (y : ℕ) → before_year y ≡ (y * 1461 + 3) / 4
before_year_lem zero = refl
before_year_lem (suc y) = ap (λ n. n + year_length y) (before_year_lem y) ∙ year_more y

-- The sum up to a place of a list of lengths, with a number below the length there, tells the place and the number.
same_place : (xs : List ℕ) (i j a b : ℕ) → a < get_or xs i 0 → b < get_or xs j 0 → sum (take i xs) + a ≡ sum (take j xs) + b → (i ≡ j) × (a ≡ b)
same_place [] i j a b ha hb e = absurd (omega arith)
same_place (x ∷ xs) zero zero a b ha hb e = (refl, omega arith)
same_place (x ∷ xs) zero (suc j) a b ha hb e = absurd (omega arith)
same_place (x ∷ xs) (suc i) zero a b ha hb e = absurd (omega arith)
same_place (x ∷ xs) (suc i) (suc j) a b ha hb e =
    let h : (i ≡ j) × (a ≡ b) = same_place xs i j a b ha hb (omega arith) in (ap suc h.0, h.1)

below_sum : (xs : List ℕ) (i a : ℕ) → a < get_or xs i 0 → sum (take i xs) + a < sum xs
below_sum [] i a h = absurd (omega arith)
below_sum (x ∷ xs) zero a h = omega arith
below_sum (x ∷ xs) (suc i) a h = omega (arith, below_sum xs i a h)

pub in_year : (y m d : ℕ) → RealDay y m d → before_month (leap_year y) m + (d - 1) < year_length y
in_year y m d p = below_sum (month_lengths (leap_year y)) (m - 1) (d - 1) (omega arith)

same_year : (y z n m : ℕ) → n < year_length y → m < year_length z → before_year y + n ≡ before_year z + m → y ≡ z
same_year y z n m h k e = let p = before_year_lem y in let q = before_year_lem z in grind (arith, nat_tests)

same_day : (y m d z n e : ℕ) → RealDay y m d → RealDay z n e → day_of y m d ≡ day_of z n e → (y ≡ z) × (m ≡ n) × (d ≡ e)
same_day y m d z n e p q h =
    let year : y ≡ z = same_year y z _ _ (in_year y m d p) (in_year z n e q) (omega arith) in
    let place : (m - 1 ≡ n - 1) × (d - 1 ≡ e - 1) =
    same_place (month_lengths (leap_year z)) _ _ _ _ (rw (← year) (omega arith)) (omega arith)
    (omega (arith, ap before_year year, ap (λ x. before_month (leap_year x) m) year)) in
    (year, omega arith, omega arith)

same_fields : (y m d h n s y' m' d' h' n' s' : ℕ) → (y ≡ y') × (m ≡ m') × (d ≡ d') → h ≡ h' → n ≡ n' → s ≡ s' → dated y m d h n s ≡ dated y' m' d' h' n' s'
same_fields y m d h n s y' m' d' h' n' s' day p q r = cc

pub unique : (t u : DateTime) → Real t → Real u → second_of t ≡ second_of u → t ≡ u
unique t u p q h =
    same_fields _ _ _ _ _ _ _ _ _ _ _ _ (same_day _ _ _ _ _ _ p.date q.date (omega arith)) (omega arith) (omega arith) (omega arith)

-- A real date-time that counts a second is the date-time of it.
pub names : {s : ℕ} {t : DateTime} → Real t → second_of t ≡ s → Names s t
names {s} {t} p h = record { real = p; counts = h; only = λ u q k. unique u t q p (k ∙ sym h) }
