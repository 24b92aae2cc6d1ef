-- A staging that takes force does so whole, and in time.
use Rattle.std.proofs.Common.{◌≡◌, ℕ, ◌<◌, Bool, true, false, cond, List, [], ◌∷◌, ◌++◌, sym, refl, ap, ◌∙◌, inl, inr, arith}
use Rattle.std.proofs.lemmas.Bool.{cases_Bool, leb-false}
use Rattle.pending.specs.declared.table.PendingTable.{PendingTable}
use Rattle.pending.specs.declared.table.PendingTable.TheVariants.{Calendar, Outputs, Override}
use Rattle.pending.specs.declared.trigger.Due.{Due}
use Rattle.pending.specs.declared.trigger.Due.TheVariants.{At}
use Rattle.fates.specs.Stagings.{Pending, Happening, staged, written, withdrew_all, withdrew, activated_all, activated, time_changed, same, in_order, any_due, due_by, Seen, empty, waiting, Memory, forced_if, forced, after, run, took_force, replaced, withdrawn}
use Rattle.fates.specs.Fates.{Ends, Quiet, Every, none, more, TakesForceWhole, InTime}
use Rattle.fates.proofs.Settling.{same_self, not_same}
use Rattle.fates.proofs.OneFate.{reached_due, unreached_not_due}
use Rattle.fates.proofs.Running.{run_append}

-- What memory shows of one table, and what becomes of that where the table takes force if it is meant.
abbrev pub shown_of : PendingTable → Memory → Seen × List ℕ
shown_of t m = (m.rows t, m.tables t)

abbrev pub forced_shown : (Due → Bool) → Seen × List ℕ → Seen × List ℕ
forced_shown test (empty, bytes) = (empty, bytes)
forced_shown test (waiting p, bytes) = cond (test p.due) (empty, p.bytes) (waiting p, bytes)

pub forced_own : (test : Due → Bool) (t : PendingTable) (m : Memory) → shown_of t (forced test t m) ≡ forced_shown test (shown_of t m)
forced_own test t m = go (m.rows t) refl
  where
    go : (r : Seen) → m.rows t ≡ r → shown_of t (forced_if test t r m) ≡ forced_shown test (r, m.tables t)
    go empty e = ap (λ x. (x, m.tables t)) e
    go (waiting p) e = elim (cases_Bool (test p.due)) [
      | inl y ↦ rw (y, same_self t)
      | inr n ↦ rw n (ap (λ x. (x, m.tables t)) e)
    ]

pub forced_other : (test : Due → Bool) (t u : PendingTable) (m : Memory) → same t u ≡ false → shown_of t (forced test u m) ≡ shown_of t m
forced_other test t u m other = go (m.rows u)
  where
    go : (r : Seen) → shown_of t (forced_if test u r m) ≡ shown_of t m
    go empty = refl
    go (waiting p) = elim (cases_Bool (test p.due)) [ inl y ↦ rw (y, other) | inr n ↦ rw n ]

-- Where all take force that are meant, each does as if alone.
pub forced_in_order : (test : Due → Bool) (t : PendingTable) (m : Memory) → shown_of t (in_order (forced test) m) ≡ forced_shown test (shown_of t m)
forced_in_order test Calendar m =
    forced_other test Calendar Override (forced test Outputs (forced test Calendar m)) refl
    ∙ forced_other test Calendar Outputs (forced test Calendar m) refl ∙ forced_own test Calendar m
forced_in_order test Outputs m =
    forced_other test Outputs Override (forced test Outputs (forced test Calendar m)) refl
    ∙ forced_own test Outputs (forced test Calendar m) ∙ ap (forced_shown test) (forced_other test Outputs Calendar m refl)
forced_in_order test Override m =
    forced_own test Override (forced test Outputs (forced test Calendar m))
    ∙ ap (forced_shown test) (forced_other test Override Outputs (forced test Calendar m) refl ∙ forced_other test Override Calendar m refl)

-- What leaves a wait leaves its row.
pub quiet_keeps : (m : Memory) (t : PendingTable) (p : Pending) (h : Happening) → m.rows t ≡ waiting p → Quiet t p.due h → (after m h).rows t ≡ waiting p
quiet_keeps m t p (staged u q) row n = rw (not_same u t (λ e. n replaced (e, refl))) row
quiet_keeps m t p (written u from bytes) row n = row
quiet_keeps m t p withdrew_all row n = absurd (n withdrawn refl)
quiet_keeps m t p (withdrew u) row n = rw (not_same u t (λ e. n withdrawn (e, refl))) row
quiet_keeps m t p activated_all row n = absurd (n took_force refl)
quiet_keeps m t p (activated u) row n = ap (λ x. x.0) (forced_other any_due t u m (not_same u t (λ e. n took_force (e, refl)))) ∙ row
quiet_keeps m t p (time_changed clock) row n =
    let early : due_by clock p.due ≡ false = unreached_not_due p.due clock (λ r. n took_force (r, refl)) in
    let stays : forced_shown (due_by clock) (waiting p, m.tables t) ≡ (waiting p, m.tables t) = rw early in
    ap (λ x. x.0) (forced_in_order (due_by clock) t m ∙ ap (λ r. forced_shown (due_by clock) (r, m.tables t)) row ∙ stays)

pub quiets_keep : (m : Memory) (t : PendingTable) (p : Pending) (hs : List Happening) → m.rows t ≡ waiting p → Every (Quiet t p.due) hs → (run m hs).rows t ≡ waiting p
quiets_keep m t p [] row none = row
quiets_keep m t p (h ∷ hs) row (more n ns) = quiets_keep (after m h) t p hs (quiet_keeps m t p h row n) ns

-- What activates it brings all its bytes, and empties its row.
pub forced_whole : (m : Memory) (t : PendingTable) (p : Pending) (h : Happening) → m.rows t ≡ waiting p → Ends t p.due h took_force → shown_of t (after m h) ≡ (empty, p.bytes)
forced_whole m t p (staged u q) row x = absurd (other_fate x.1)
  where
    other_fate : took_force ≡ replaced → ⊥
    other_fate e = let z : ◌≡◌ {A = ℕ} 0 1 = cc in omega arith
forced_whole m t p (written u from bytes) row x = absurd x
forced_whole m t p withdrew_all row x = let z : ◌≡◌ {A = ℕ} 0 1 = cc in absurd (omega arith)
forced_whole m t p (withdrew u) row x = let e = x.1 in let z : ◌≡◌ {A = ℕ} 0 1 = cc in absurd (omega arith)
forced_whole m t p activated_all row x = forced_in_order any_due t m ∙ ap (λ r. forced_shown any_due (r, m.tables t)) row
forced_whole m t p (activated u) row x = rw x.0 (forced_own any_due t m ∙ ap (λ r. forced_shown any_due (r, m.tables t)) row)
forced_whole m t p (time_changed clock) row x =
    let due : due_by clock p.due ≡ true = reached_due p.due clock x.0 in
    forced_in_order (due_by clock) t m ∙ ap (λ r. forced_shown (due_by clock) (r, m.tables t)) row ∙ rw due

pub takes_force_whole : TakesForceWhole
takes_force_whole m before t p quiet h ns x =
    let from = after (run m before) (staged t p) in
    let row : from.rows t ≡ waiting p = rw (same_self t) in
    let to = run from quiet in
    let all : run m (before ++ staged t p ∷ quiet ++ h ∷ []) ≡ after to h =
    run_append m (before ++ staged t p ∷ quiet) (h ∷ []) ∙ ap (λ k. after k h) (run_append m before (staged t p ∷ quiet)) in
    let shown = forced_whole to t p h (quiets_keep from t p quiet row ns) x in
    (ap (λ k. k.tables t) all ∙ ap (λ z. z.1) shown, ap (λ k. k.rows t) all ∙ ap (λ z. z.0) shown)

-- What waits on at a change of time is not due yet.
pub waits_in_time : (m : Memory) (clock : ℕ) (t : PendingTable) (p : Pending) (second : ℕ) → (after m (time_changed clock)).rows t ≡ waiting p → p.due ≡ At second → clock < second
waits_in_time m clock t p second row due = go (m.rows t) (sym (ap (λ x. x.0) (forced_in_order (due_by clock) t m)) ∙ row)
  where
    go : (r : Seen) → (forced_shown (due_by clock) (r, m.tables t)).0 ≡ waiting p → clock < second
    go empty e = let z : ◌≡◌ {A = ℕ} 0 1 = cc in absurd (omega arith)
    go (waiting q) e = elim (cases_Bool (due_by clock q.due)) [
      | inl y ↦ (let gone = rw y at e in let z : ◌≡◌ {A = ℕ} 0 1 = cc in absurd (omega arith))
      | inr n ↦ (
          let stays = rw n at e in
          let it : q ≡ p = cc in
          let early : due_by clock (At second) ≡ false = sym (ap (due_by clock) (ap (λ w. w.due) it ∙ due)) ∙ n in
          leb-false second clock early)
    ]

pub in_time : InTime
in_time m before clock t p second row due =
    waits_in_time (run m before) clock t p second (sym (ap (λ (k : Memory). k.rows t) (run_append m before (time_changed clock ∷ []))) ∙ row) due
