-- What one happening does to one staging of the account.
use Rattle.std.proofs.Common.{◌≡◌, Bool, true, false, ◌⊎◌, List, [], ◌∷◌, ◌++◌, map, sym, refl, ap, ◌∙◌, inl, inr, append-nil}
use Rattle.std.proofs.lemmas.List.{map-id}
use Rattle.std.proofs.lemmas.Bool.{cases_Bool}
use Rattle.pending.specs.declared.table.PendingTable.{PendingTable}
use Rattle.pending.specs.declared.table.PendingTable.TheVariants.{Calendar, Outputs, Override}
use Rattle.pending.specs.declared.trigger.Due.{Due}
use Rattle.fates.specs.Stagings.{Happening, staged, written, withdrew_all, withdrew, activated_all, activated, time_changed, same, in_order, any_due, due_by, Fate, waits, took_force, replaced, withdrawn, is_waiting, Staging, Account, settled, noted}
use Rattle.fates.specs.Fates.{Ends, Quiet}
use Rattle.fates.proofs.Settling.{same_self, same_or_not, not_same}
use Rattle.fates.proofs.OneFate.{reached_or_not, reached_due, unreached_not_due}

abbrev pub with_fate : Staging → Fate → Staging
with_fate s f = record { table = s.table; pending = s.pending; fate = f }

-- Each staging turns into this, and these are new.
abbrev pub turned : Happening → Staging → Staging
turned (staged t p) s = settled any_due t replaced s
turned (written t from bytes) s = s
turned withdrew_all s = in_order (λ t. settled any_due t withdrawn) s
turned (withdrew t) s = settled any_due t withdrawn s
turned activated_all s = in_order (λ t. settled any_due t took_force) s
turned (activated t) s = settled any_due t took_force s
turned (time_changed clock) s = in_order (λ t. settled (due_by clock) t took_force) s

abbrev pub added : Happening → List Staging
added (staged t p) = record { table = t; pending = p; fate = waits } ∷ []
added (written t from bytes) = []
added withdrew_all = []
added (withdrew t) = []
added activated_all = []
added (activated t) = []
added (time_changed clock) = []

map_in_order : {X : Type 0} (f : PendingTable → X → X) (xs : List X) → map (f Override) (map (f Outputs) (map (f Calendar) xs)) ≡ map (in_order f) xs
map_in_order f [] = refl
map_in_order f (x ∷ xs) = ap (λ ys. in_order f x ∷ ys) (map_in_order f xs)

pub noted_turned : (a : Account) (h : Happening) → (noted a h).stagings ≡ map (turned h) a.stagings ++ added h
noted_turned a (staged t p) = refl
noted_turned a (written t from bytes) = sym (append-nil _ ∙ map-id a.stagings)
noted_turned a withdrew_all = map_in_order (λ t. settled any_due t withdrawn) a.stagings ∙ sym (append-nil _)
noted_turned a (withdrew t) = sym (append-nil _)
noted_turned a activated_all = map_in_order (λ t. settled any_due t took_force) a.stagings ∙ sym (append-nil _)
noted_turned a (activated t) = sym (append-nil _)
noted_turned a (time_changed clock) = map_in_order (λ t. settled (due_by clock) t took_force) a.stagings ∙ sym (append-nil _)

-- One that waits no more stays as it is.
over_settled : (test : Due → Bool) (t : PendingTable) (f : Fate) (s : Staging) → is_waiting s.fate ≡ false → settled test t f s ≡ s
over_settled test t f s over = simp over

over_in_order : (test : Due → Bool) (f : Fate) (s : Staging) → is_waiting s.fate ≡ false → in_order (λ t. settled test t f) s ≡ s
over_in_order test f s over = simp over

pub over_stays : (h : Happening) (s : Staging) → is_waiting s.fate ≡ false → turned h s ≡ s
over_stays (staged t p) s over = over_settled any_due t replaced s over
over_stays (written t from bytes) s over = refl
over_stays withdrew_all s over = over_in_order any_due withdrawn s over
over_stays (withdrew t) s over = over_settled any_due t withdrawn s over
over_stays activated_all s over = over_in_order any_due took_force s over
over_stays (activated t) s over = over_settled any_due t took_force s over
over_stays (time_changed clock) s over = over_in_order (due_by clock) took_force s over

-- One that waits gets its fate if its table is named and it is meant.
named : (test : Due → Bool) (t : PendingTable) (f : Fate) (s : Staging) → is_waiting s.fate ≡ true → t ≡ s.table → test s.pending.due ≡ true →
    settled test t f s ≡ with_fate s f
named test t f s waiting e meant = let own : same s.table t ≡ true = rw e (same_self s.table) in simp (waiting, own, meant)

unnamed : (test : Due → Bool) (t : PendingTable) (f : Fate) (s : Staging) → (t ≡ s.table → ⊥) → settled test t f s ≡ s
unnamed test t f s other =
    let apart : same s.table t ≡ false = not_same t s.table other in
    elim (cases_Bool (is_waiting s.fate)) [ inl y ↦ simp (y, apart) | inr n ↦ simp n ]

meant_in_order : (test : Due → Bool) (f : Fate) → is_waiting f ≡ false → (s : Staging) → is_waiting s.fate ≡ true → test s.pending.due ≡ true →
    in_order (λ t. settled test t f) s ≡ with_fate s f
meant_in_order test f over s waiting meant = go s.table refl
  where
    go : (t : PendingTable) → s.table ≡ t → in_order (λ u. settled test u f) s ≡ with_fate s f
    go Calendar e = simp (waiting, e, meant, over)
    go Outputs e = simp (waiting, e, meant, over)
    go Override e = simp (waiting, e, meant)

unmeant_in_order : (test : Due → Bool) (f : Fate) (s : Staging) → is_waiting s.fate ≡ true → test s.pending.due ≡ false →
    in_order (λ t. settled test t f) s ≡ s
unmeant_in_order test f s waiting unmeant = go s.table refl
  where
    go : (t : PendingTable) → s.table ≡ t → in_order (λ u. settled test u f) s ≡ s
    go Calendar e = simp (waiting, e, unmeant)
    go Outputs e = simp (waiting, e, unmeant)
    go Override e = simp (waiting, e, unmeant)

-- What happens leaves a waiting staging as it is, or ends its wait and says how.
abbrev pub LeftOrEnded : Happening → Staging → Type 0
LeftOrEnded h s =
    (Quiet s.table s.pending.due h × (turned h s ≡ s)) ⊎ ((f : Fate) × Ends s.table s.pending.due h f × (turned h s ≡ with_fate s f))

pub left_or_ended : (h : Happening) (s : Staging) → is_waiting s.fate ≡ true → LeftOrEnded h s
left_or_ended (staged t p) s waiting = elim (same_or_not t s.table) [
  | inl e ↦ inr (replaced, (e, refl), named any_due t replaced s waiting e refl)
  | inr n ↦ inl ((λ f x. n x.0), unnamed any_due t replaced s n)
]
left_or_ended (written t from bytes) s waiting = inl ((λ f x. x), refl)
left_or_ended withdrew_all s waiting = inr (withdrawn, refl, meant_in_order any_due withdrawn refl s waiting refl)
left_or_ended (withdrew t) s waiting = elim (same_or_not t s.table) [
  | inl e ↦ inr (withdrawn, (e, refl), named any_due t withdrawn s waiting e refl)
  | inr n ↦ inl ((λ f x. n x.0), unnamed any_due t withdrawn s n)
]
left_or_ended activated_all s waiting = inr (took_force, refl, meant_in_order any_due took_force refl s waiting refl)
left_or_ended (activated t) s waiting = elim (same_or_not t s.table) [
  | inl e ↦ inr (took_force, (e, refl), named any_due t took_force s waiting e refl)
  | inr n ↦ inl ((λ f x. n x.0), unnamed any_due t took_force s n)
]
left_or_ended (time_changed clock) s waiting = elim (reached_or_not s.pending.due clock) [
  | inl r ↦ inr (took_force, (r, refl), meant_in_order (due_by clock) took_force refl s waiting (reached_due s.pending.due clock r))
  | inr n ↦ inl ((λ f x. n x.0), unmeant_in_order (due_by clock) took_force s waiting (unreached_not_due s.pending.due clock n))
]
