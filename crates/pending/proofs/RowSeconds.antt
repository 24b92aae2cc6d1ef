-- The seconds of well-formed rows.
use Rattle.std.proofs.Common.{◌≡◌, ℕ, ◌<◌, true, Some, sym, refl, subst, arith}
use Rattle.std.proofs.lemmas.Bool.{ltb-true, eqb-true, cond-true, false≢true}
use Rattle.std.proofs.lemmas.Bool.Decides.{nat_tests}
use Rattle.calendar.specs.declared.DateTime.{DateTime}
use Rattle.calendar.specs.Calendar.{seconds_in_all, second_of, Real, is_real, second_if_real, dated}
use Rattle.calendar.proofs.Whole.{in_range}
use Rattle.pending.specs.declared.trigger.Trigger.{Trigger}
use Rattle.pending.specs.declared.trigger.Trigger.TheVariants.{Absolute, Relative, OnCommand}
use Rattle.pending.specs.declared.trigger.Due.{Due}
use Rattle.pending.specs.declared.trigger.Due.TheVariants.{At, ByCommand}
use Rattle.pending.specs.Triggers.{is_well_formed, is_second, second_agrees, due_of, second_of_due}
use Rattle.pending.specs.Rows.{due_agrees}

-- a date-time that passes the test is real
pub real : (t : DateTime) → is_real t ≡ true → Real t
real t h = grind (arith, nat_tests)

-- a second that agrees with a well-formed trigger is one of the calendar
pub agreed_second : (t : Trigger) (s : ℕ) → is_well_formed t ≡ true → second_agrees t s ≡ true → s < seconds_in_all
agreed_second (Absolute y m d h n) s w a =
    let date : DateTime = dated y m d h n 0 in
    let named : second_if_real date ≡ Some (second_of date) = cond-true _ _ _ w in
    let same : second_of date ≡ s = eqb-true (second_of date) s (subst (λ o. is_second o s ≡ true) named a) in
    let inside : second_of date < seconds_in_all = in_range date (real date w) in
    omega arith
agreed_second (Relative a b c d e) s w h = ltb-true s seconds_in_all h
agreed_second OnCommand s w h = let zero : s ≡ 0 = eqb-true s 0 h in omega arith

-- when a row is due follows from its trigger and its second
pub due_back : (t : Trigger) (d : Due) → due_agrees t d ≡ true → due_of t (second_of_due d) ≡ d
due_back (Absolute y m d h n) (At s) e = refl
due_back (Absolute y m d h n) ByCommand e = absurd (false≢true e)
due_back (Relative a b c d e) (At s) h = refl
due_back (Relative a b c d e) ByCommand h = absurd (false≢true h)
due_back OnCommand (At s) e = absurd (false≢true e)
due_back OnCommand ByCommand e = refl

pub due_second : (t : Trigger) (d : Due) → due_agrees t d ≡ true → second_agrees t (second_of_due d) ≡ true
due_second (Absolute y m d h n) (At s) e = e
due_second (Absolute y m d h n) ByCommand e = absurd (false≢true e)
due_second (Relative a b c d e) (At s) h = h
due_second (Relative a b c d e) ByCommand h = absurd (false≢true h)
due_second OnCommand (At s) e = absurd (false≢true e)
due_second OnCommand ByCommand e = refl

pub second_back : (t : Trigger) (s : ℕ) → second_agrees t s ≡ true → second_of_due (due_of t s) ≡ s
second_back (Absolute y m d h n) s e = refl
second_back (Relative a b c d e) s h = refl
second_back OnCommand s e = sym (eqb-true s 0 e)

pub due_agrees_lem : (t : Trigger) (s : ℕ) → second_agrees t s ≡ true → due_agrees t (due_of t s) ≡ true
due_agrees_lem (Absolute y m d h n) s e = e
due_agrees_lem (Relative a b c d e) s h = h
due_agrees_lem OnCommand s e = refl
