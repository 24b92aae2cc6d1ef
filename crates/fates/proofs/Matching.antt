-- Whatever happens, memory and account stay together.
use Rattle.std.proofs.Common.{◌≡◌, Bool, true, false, cond, ◌&&◌, List, [], ◌∷◌, ◌++◌, map, sym, refl, ap, ◌∙◌, ap₂, inl, inr, append-nil}
use Rattle.std.proofs.lemmas.Bool.{cases_Bool}
use Rattle.fields.specs.Patches.{patch}
use Rattle.pending.specs.declared.table.PendingTable.{PendingTable}
use Rattle.pending.specs.declared.table.PendingTable.TheVariants.{Calendar, Outputs, Override}
use Rattle.pending.specs.declared.trigger.Due.{Due}
use Rattle.fates.specs.Stagings.{Pending, Happening, staged, written, withdrew_all, withdrew, activated_all, activated, time_changed, same, put_at, any_due, due_by, Seen, empty, waiting, Memory, forced_if, forced, emptied, after, Fate, waits, took_force, replaced, withdrawn, is_waiting, Staging, Account, waiting_in, settled, settle, put_all, force_in, noted, listed, Agrees}
use Rattle.fates.specs.Fates.{StaysMatched}
use Rattle.fates.proofs.Settling.{same_is, same_flip, unmeant, none_unmeant, waiting_own, waiting_other}

-- One table takes force, if it is meant.
pub forced_agrees : (test : Due → Bool) (t : PendingTable) (m : Memory) (a : Account) → Agrees m a → Agrees (forced test t m) (force_in test t a)
forced_agrees test t m a ag = go (m.rows t) refl
  where
    others : (u : PendingTable) → same u t ≡ false → waiting_in u (map (settled test t took_force) a.stagings) ≡ listed (m.rows u)
    others u other = waiting_other test t took_force refl u other a.stagings ∙ ag.rows u

    own : (r : Seen) → m.rows t ≡ r → (u : PendingTable) → same u t ≡ true →
        waiting_in u (map (settled test t took_force) a.stagings) ≡ unmeant test (listed r)
    own r e u y =
        ap (λ v. waiting_in v (map (settled test t took_force) a.stagings)) (same_is u t y)
        ∙ waiting_own test t took_force refl a.stagings ∙ ap (unmeant test) (ag.rows t ∙ ap listed e)

    go : (r : Seen) → m.rows t ≡ r → Agrees (forced_if test t r m) (force_in test t a)
    go empty e = record {
      rows = λ u. elim (cases_Bool (same u t)) [
        | inl y ↦ own empty e u y ∙ ap listed (sym (ap m.rows (same_is u t y) ∙ e))
        | inr n ↦ others u n
      ];
      tables = λ u. ag.tables u ∙ ap (λ ps. put_all test t ps a.tables u) (sym (ag.rows t ∙ ap listed e));
    }
    go (waiting p) e =
        let force : put_all test t (waiting_in t a.stagings) a.tables ≡ cond (test p.due) (put_at t p.bytes a.tables) a.tables =
        ap (λ ps. put_all test t ps a.tables) (ag.rows t ∙ ap listed e) in
        elim (cases_Bool (test p.due)) [
          | inl y ↦ rw y (record {
            rows = λ u. elim (cases_Bool (same u t)) [
              | inl i ↦ rw i (own (waiting p) e u i ∙ rw y)
              | inr n ↦ rw n (others u n)
            ];
            tables = λ u. ap (cond (same u t) p.bytes) (ag.tables u) ∙ ap (λ f. f u) (sym (rw y at force));
          })
          | inr n ↦ rw n (record {
            rows = λ u. elim (cases_Bool (same u t)) [
              | inl i ↦ own (waiting p) e u i ∙ rw n (ap listed (sym (ap m.rows (same_is u t i) ∙ e)))
              | inr o ↦ others u o
            ];
            tables = λ u. ag.tables u ∙ ap (λ f. f u) (sym (rw n at force));
          })
        ]

-- Of a table that is settled whole nothing waits.
none_waiting : (t : PendingTable) (f : Fate) → is_waiting f ≡ false → (u : PendingTable) → same u t ≡ true → (ss : List Staging) → waiting_in u (map (settled any_due t f) ss) ≡ []
none_waiting t f over u y ss =
    ap (λ v. waiting_in v (map (settled any_due t f) ss)) (same_is u t y) ∙ waiting_own any_due t f over ss ∙ none_unmeant (waiting_in t ss)

pub emptied_agrees : (t : PendingTable) (m : Memory) (a : Account) → Agrees m a → Agrees (emptied t m) (settle any_due t withdrawn a)
emptied_agrees t m a ag = record {
  rows = λ u. elim (cases_Bool (same u t)) [
    | inl y ↦ rw y (none_waiting t withdrawn refl u y a.stagings)
    | inr n ↦ rw n (waiting_other any_due t withdrawn refl u n a.stagings ∙ ag.rows u)
  ];
  tables = ag.tables;
}

-- A new staging comes last.
last_one : (u : PendingTable) (s : Staging) (ss : List Staging) (new : Staging) → waiting_in u (ss ++ new ∷ []) ≡ waiting_in u ss ++ waiting_in u (new ∷ []) →
    waiting_in u (s ∷ (ss ++ new ∷ [])) ≡ waiting_in u (s ∷ ss) ++ waiting_in u (new ∷ [])
last_one u s ss new rest = elim (cases_Bool (is_waiting s.fate && same s.table u)) [ inl y ↦ simp (y, rest) | inr n ↦ simp (n, rest) ]

waiting_last : (u : PendingTable) (ss : List Staging) (new : Staging) → waiting_in u (ss ++ new ∷ []) ≡ waiting_in u ss ++ waiting_in u (new ∷ [])
waiting_last u [] new = refl
waiting_last u (s ∷ ss) new = last_one u s ss new (waiting_last u ss new)

pub staged_agrees : (t : PendingTable) (p : Pending) (m : Memory) (a : Account) → Agrees m a → Agrees (after m (staged t p)) (noted a (staged t p))
staged_agrees t p m a ag = record {
  rows = λ u. waiting_last u (map (settled any_due t replaced) a.stagings) (record { table = t; pending = p; fate = waits }) ∙ elim (cases_Bool (same u t)) [
    | inl y ↦ rw (none_waiting t replaced refl u y a.stagings, y, same_flip t u ∙ y)
    | inr n ↦ rw (n, same_flip t u ∙ n) (append-nil _ ∙ waiting_other any_due t replaced refl u n a.stagings ∙ ag.rows u)
  ];
  tables = ag.tables;
}

-- One step, and all.
pub after_agrees : (m : Memory) (a : Account) (h : Happening) → Agrees m a → Agrees (after m h) (noted a h)
after_agrees m a (staged t p) ag = staged_agrees t p m a ag
after_agrees m a (written t from bytes) ag = record { rows = ag.rows; tables = λ u. ap₂ (cond (same u t)) (ap (patch from bytes) (ag.tables t)) (ag.tables u) }
after_agrees m a withdrew_all ag = emptied_agrees Override _ _ (emptied_agrees Outputs _ _ (emptied_agrees Calendar m a ag))
after_agrees m a (withdrew t) ag = emptied_agrees t m a ag
after_agrees m a activated_all ag = forced_agrees any_due Override _ _ (forced_agrees any_due Outputs _ _ (forced_agrees any_due Calendar m a ag))
after_agrees m a (activated t) ag = forced_agrees any_due t m a ag
after_agrees m a (time_changed clock) ag =
    forced_agrees (due_by clock) Override _ _ (forced_agrees (due_by clock) Outputs _ _ (forced_agrees (due_by clock) Calendar m a ag))

pub stays_matched : StaysMatched
stays_matched m a [] ag = ag
stays_matched m a (h ∷ hs) ag = stays_matched (after m h) (noted a h) hs (after_agrees m a h ag)
