-- What still waits once the waiting ones of a table that are meant have got their fate.
use Rattle.std.proofs.Common.{◌≡◌, Bool, true, false, cond, ◌⊎◌, List, [], ◌∷◌, map, sym, refl, ap, ◌∙◌, inl, inr}
use Rattle.std.proofs.lemmas.Bool.{cases_Bool, true≢false}
use Rattle.pending.specs.declared.table.PendingTable.{PendingTable}
use Rattle.pending.specs.declared.table.PendingTable.TheVariants.{Calendar, Outputs, Override}
use Rattle.pending.specs.declared.trigger.Due.{Due}
use Rattle.fates.specs.Stagings.{Pending, same, any_due, Fate, is_waiting, Staging, waiting_in, settled}

-- Tables told apart.
pub same_self : (t : PendingTable) → same t t ≡ true
same_self Calendar = refl
same_self Outputs = refl
same_self Override = refl

pub same_is : (t u : PendingTable) → same t u ≡ true → t ≡ u
same_is Calendar Calendar e = refl
same_is Calendar Outputs e = cc
same_is Calendar Override e = cc
same_is Outputs Calendar e = cc
same_is Outputs Outputs e = refl
same_is Outputs Override e = cc
same_is Override Calendar e = cc
same_is Override Outputs e = cc
same_is Override Override e = refl

pub same_flip : (t u : PendingTable) → same t u ≡ same u t
same_flip Calendar Calendar = refl
same_flip Calendar Outputs = refl
same_flip Calendar Override = refl
same_flip Outputs Calendar = refl
same_flip Outputs Outputs = refl
same_flip Outputs Override = refl
same_flip Override Calendar = refl
same_flip Override Outputs = refl
same_flip Override Override = refl

pub same_or_not : (t u : PendingTable) → (t ≡ u) ⊎ (t ≡ u → ⊥)
same_or_not t u = elim (cases_Bool (same t u)) [
  | inl y ↦ inl (same_is t u y)
  | inr n ↦ inr (λ e. true≢false (sym (same_self u) ∙ ap (λ v. same v u) (sym e) ∙ n))
]

pub not_same : (t u : PendingTable) → (t ≡ u → ⊥) → same u t ≡ false
not_same t u other = elim (cases_Bool (same u t)) [ inl y ↦ absurd (other (sym (same_is u t y))) | inr n ↦ n ]

-- Those that are not meant.
abbrev pub unmeant : (Due → Bool) → List Pending → List Pending
unmeant test [] = []
unmeant test (p ∷ ps) = cond (test p.due) (unmeant test ps) (p ∷ unmeant test ps)

pub none_unmeant : (ps : List Pending) → unmeant any_due ps ≡ []
none_unmeant [] = refl
none_unmeant (p ∷ ps) = none_unmeant ps

-- Of the table itself those wait on that are not meant.
own_one : (test : Due → Bool) (t : PendingTable) (f : Fate) → is_waiting f ≡ false → (s : Staging) (ss now : List Staging) →
    waiting_in t now ≡ unmeant test (waiting_in t ss) → waiting_in t (settled test t f s ∷ now) ≡ unmeant test (waiting_in t (s ∷ ss))
own_one test t f over s ss now rest = go (is_waiting s.fate) (same s.table t) (test s.pending.due) refl refl refl
  where
    go : (w i d : Bool) → is_waiting s.fate ≡ w → same s.table t ≡ i → test s.pending.due ≡ d →
        waiting_in t (settled test t f s ∷ now) ≡ unmeant test (waiting_in t (s ∷ ss))
    go false i d ew ei ed = simp (ew, rest)
    go true false d ew ei ed = simp (ew, ei, rest)
    go true true false ew ei ed = simp (ew, ei, ed, rest)
    go true true true ew ei ed = simp (ew, ei, ed, over, rest)

pub waiting_own : (test : Due → Bool) (t : PendingTable) (f : Fate) → is_waiting f ≡ false → (ss : List Staging) →
    waiting_in t (map (settled test t f) ss) ≡ unmeant test (waiting_in t ss)
waiting_own test t f over [] = refl
waiting_own test t f over (s ∷ ss) = own_one test t f over s ss (map (settled test t f) ss) (waiting_own test t f over ss)

-- Of any other table all do.
other_one : (test : Due → Bool) (t : PendingTable) (f : Fate) → is_waiting f ≡ false → (u : PendingTable) → same u t ≡ false → (s : Staging) (ss now : List Staging) →
    waiting_in u now ≡ waiting_in u ss → waiting_in u (settled test t f s ∷ now) ≡ waiting_in u (s ∷ ss)
other_one test t f over u other s ss now rest = go (is_waiting s.fate) (same s.table t) (test s.pending.due) refl refl refl
  where
    go : (w i d : Bool) → is_waiting s.fate ≡ w → same s.table t ≡ i → test s.pending.due ≡ d →
        waiting_in u (settled test t f s ∷ now) ≡ waiting_in u (s ∷ ss)
    go false i d ew ei ed = simp (ew, rest)
    go true false d ew ei ed = simp (ew, ei, rest)
    go true true false ew ei ed = simp (ew, ei, ed, rest)
    go true true true ew ei ed =
        let apart : same s.table u ≡ false = ap (λ v. same v u) (same_is s.table t ei) ∙ same_flip t u ∙ other in
        simp (ew, ei, ed, over, apart, rest)

pub waiting_other : (test : Due → Bool) (t : PendingTable) (f : Fate) → is_waiting f ≡ false → (u : PendingTable) → same u t ≡ false → (ss : List Staging) →
    waiting_in u (map (settled test t f) ss) ≡ waiting_in u ss
waiting_other test t f over u other [] = refl
waiting_other test t f over u other (s ∷ ss) = other_one test t f over u other s ss (map (settled test t f) ss) (waiting_other test t f over u other ss)
