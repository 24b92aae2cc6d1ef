-- A staging has exactly one fate, and never waits past its second.
use Rattle.std.proofs.Common.{◌≡◌, ℕ, true, false, ◌⊎◌, List, [], ◌∷◌, sym, refl, ◌∙◌, inl, inr, arith}
use Rattle.std.proofs.lemmas.Bool.{cases_lt, le-leb, lt-leb}
use Rattle.pending.specs.declared.table.PendingTable.{PendingTable}
use Rattle.pending.specs.declared.trigger.Due.{Due}
use Rattle.pending.specs.declared.trigger.Due.TheVariants.{At, ByCommand}
use Rattle.fates.specs.Stagings.{due_by, Happening, staged, written, withdrew_all, withdrew, activated_all, activated, time_changed, Fate, waits, took_force, replaced, withdrawn}
use Rattle.fates.specs.Fates.{Reached, Ends, Quiet, FateIs, still, ended, passed, ExactlyOneFate, NeverLate}
use Rattle.fates.proofs.Settling.{same_or_not}

-- The clock has reached a second or it has not, and the test tells.
pub reached_or_not : (d : Due) (clock : ℕ) → Reached d clock ⊎ (Reached d clock → ⊥)
reached_or_not (At second) clock = elim (cases_lt clock second) [ inl lt ↦ inr (λ le. omega arith) | inr le ↦ inl le ]
reached_or_not ByCommand clock = inr (λ r. r)

pub reached_due : (d : Due) (clock : ℕ) → Reached d clock → due_by clock d ≡ true
reached_due (At second) clock r = le-leb second clock r
reached_due ByCommand clock r = absurd r

pub unreached_not_due : (d : Due) (clock : ℕ) → (Reached d clock → ⊥) → due_by clock d ≡ false
unreached_not_due (At second) clock n = elim (cases_lt clock second) [ inl lt ↦ lt-leb second clock lt | inr le ↦ absurd (n le) ]
unreached_not_due ByCommand clock n = refl

-- Nothing ends a wait in two ways, and nothing ends it in a wait.
pub ends_once : (t : PendingTable) (d : Due) (h : Happening) (f g : Fate) → Ends t d h f → Ends t d h g → f ≡ g
ends_once t d (staged u p) f g x y = x.1 ∙ sym y.1
ends_once t d (written u from bytes) f g x y = absurd x
ends_once t d withdrew_all f g x y = x ∙ sym y
ends_once t d (withdrew u) f g x y = x.1 ∙ sym y.1
ends_once t d activated_all f g x y = x ∙ sym y
ends_once t d (activated u) f g x y = x.1 ∙ sym y.1
ends_once t d (time_changed clock) f g x y = x.1 ∙ sym y.1

pub ends_not_waiting : (t : PendingTable) (d : Due) (h : Happening) → Ends t d h waits → ⊥
ends_not_waiting t d (staged u p) x = let z : ◌≡◌ {A = ℕ} 0 1 = cc x.1 in omega arith
ends_not_waiting t d (written u from bytes) x = x
ends_not_waiting t d withdrew_all x = let z : ◌≡◌ {A = ℕ} 0 1 = cc in omega arith
ends_not_waiting t d (withdrew u) x = let z : ◌≡◌ {A = ℕ} 0 1 = cc x.1 in omega arith
ends_not_waiting t d activated_all x = let z : ◌≡◌ {A = ℕ} 0 1 = cc in omega arith
ends_not_waiting t d (activated u) x = let z : ◌≡◌ {A = ℕ} 0 1 = cc x.1 in omega arith
ends_not_waiting t d (time_changed clock) x = let z : ◌≡◌ {A = ℕ} 0 1 = cc x.1 in omega arith

-- What happens ends a wait or leaves it.
pub ends_or_quiet : (t : PendingTable) (d : Due) (h : Happening) → ((f : Fate) × Ends t d h f) ⊎ Quiet t d h
ends_or_quiet t d (staged u p) = elim (same_or_not u t) [ inl y ↦ inl (replaced, (y, refl)) | inr n ↦ inr (λ f x. n x.0) ]
ends_or_quiet t d (written u from bytes) = inr (λ f x. x)
ends_or_quiet t d withdrew_all = inl (withdrawn, refl)
ends_or_quiet t d (withdrew u) = elim (same_or_not u t) [ inl y ↦ inl (withdrawn, (y, refl)) | inr n ↦ inr (λ f x. n x.0) ]
ends_or_quiet t d activated_all = inl (took_force, refl)
ends_or_quiet t d (activated u) = elim (same_or_not u t) [ inl y ↦ inl (took_force, (y, refl)) | inr n ↦ inr (λ f x. n x.0) ]
ends_or_quiet t d (time_changed clock) = elim (reached_or_not d clock) [ inl r ↦ inl (took_force, (r, refl)) | inr n ↦ inr (λ f x. n x.0) ]

pub same_fate : {t : PendingTable} {d : Due} {later : List Happening} {f g : Fate} → FateIs t d later f → FateIs t d later g → f ≡ g
same_fate still still = refl
same_fate {t} {d} (ended {h = h} x) (ended y) = ends_once t d h _ _ x y
same_fate (ended x) (passed n y) = absurd (n _ x)
same_fate (passed n x) (ended y) = absurd (n _ y)
same_fate (passed n x) (passed k y) = same_fate x y

pub some_fate : (t : PendingTable) (d : Due) (later : List Happening) → (f : Fate) × FateIs t d later f
some_fate t d [] = (waits, still)
some_fate t d (h ∷ later) =
    let rest = some_fate t d later in
    elim (ends_or_quiet t d h) [ inl x ↦ (x.0, ended x.1) | inr n ↦ (rest.0, passed n rest.1) ]

pub exactly_one_fate : ExactlyOneFate
exactly_one_fate t d later = let it = some_fate t d later in (it.0, it.1, λ g x. same_fate x it.1)

-- What waits in the end was left by all that happened.
pub waits_passed : {t : PendingTable} {d : Due} {h : Happening} {later : List Happening} → FateIs t d (h ∷ later) waits → Quiet t d h × FateIs t d later waits
waits_passed {t} {d} {h} (ended x) = absurd (ends_not_waiting t d h x)
waits_passed (passed n x) = (n, x)

pub never_late : NeverLate
never_late t second [] ys clock x = elim (cases_lt clock second) [ inl lt ↦ lt | inr le ↦ absurd ((waits_passed x).0 took_force (le, refl)) ]
never_late t second (h ∷ xs) ys clock x = never_late t second xs ys clock (waits_passed x).1
