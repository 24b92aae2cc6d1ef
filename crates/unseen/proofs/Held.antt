-- Which slots are held after an entry: those that were, and the one that it went to.
use Rattle.std.proofs.Common.{◌≡◌, ℕ, zero, suc, ◌+◌, ◌-◌, ◌%◌, ◌<◌, ◌≤◌, min, Bool, true, false, ◌||◌, eqb, ◌≢◌, sym, refl, ap, ◌∙◌, inl, inr, arith}
use native.Mathlib.Nat.{add-mod_right}
use Rattle.std.proofs.lemmas.Bool.{cases_eq, cases_lt, cases_Bool, eqb-true, both_ways}
use Rattle.logs.specs.declared.log.Log.{Log}
use Rattle.logs.specs.declared.head.LogHead.{LogHead}
use Rattle.logs.specs.Heads.{appended, acknowledged, cleared}
use Rattle.logs.specs.Tables.{lies_in, is_held}
use Rattle.logs.proofs.Ages.{lies_true, lies_false}

lies_some : (size slot from k : ℕ) → lies_in size slot from k ≡ true → (s : ℕ) × (from ≤ s) × (s < from + k) × (s % size ≡ slot)
lies_some size slot from zero h = let z : ◌≡◌ {A = ℕ} 0 1 = cc in absurd (omega arith)
lies_some size slot from (suc k) h = go (eqb (from % size) slot) refl h (lies_some size slot (from + 1) k)
  where
    go : (b : Bool) → eqb (from % size) slot ≡ b → (b || lies_in size slot (from + 1) k) ≡ true → (lies_in size slot (from + 1) k ≡ true → (s : ℕ) × (from + 1 ≤ s) × (s < from + 1 + k) × (s % size ≡ slot)) →
        (s : ℕ) × (from ≤ s) × (s < from + suc k) × (s % size ≡ slot)
    go true e l rest = (from, omega arith, omega arith, eqb-true _ _ e)
    go false e l rest = let r = rest l in (r.0, omega (arith, r.1), omega (arith, r.2), r.3)

-- a held entry of a log that holds no more than its room and than was recorded
abbrev pub Counted : Log → LogHead → Type 0
Counted log h = (h.held ≤ log.size) × (h.held ≤ h.total)

pub held_entry : (log : Log) (h : LogHead) (slot : ℕ) → is_held log h slot ≡ true → (s : ℕ) × (h.total - h.held ≤ s) × (s < h.total - h.held + min h.held h.total) × (s % log.size ≡ slot)
unfolding is_held
held_entry log h slot is = lies_some log.size slot (h.total - h.held) (min h.held h.total) is

pub entry_held : (log : Log) (h : LogHead) (slot s : ℕ) → h.total - h.held ≤ s → s < h.total - h.held + min h.held h.total → s % log.size ≡ slot → is_held log h slot ≡ true
unfolding is_held
entry_held log h slot s low high at = lies_true log.size slot (h.total - h.held) (min h.held h.total) s low high at

pub appended_counted : (log : Log) (h : LogHead) → Counted log h → Counted log (appended log h)
appended_counted log h c = (omega arith, omega (arith, c.1))

-- after an entry: the slot that it went to, or one that was held
pub held_before : (log : Log) (h : LogHead) (slot : ℕ) → Counted log h → is_held log (appended log h) slot ≡ true → slot ≢ h.total % log.size → is_held log h slot ≡ true
held_before log h slot c is other =
    let x = held_entry log (appended log h) slot is in
    let s = x.0 in
    let old : s ≢ h.total = λ e. other (sym x.3 ∙ ap (λ n. n % log.size) e) in
    let early : s < h.total = elim (cases_eq s h.total) [ inl e ↦ absurd (old e) | inr ne ↦ omega (arith, x.1, x.2, c.0, c.1) ] in
    entry_held log h slot s (omega (arith, x.1, x.2, c.0, c.1)) (omega (arith, x.1, x.2, c.0, c.1)) x.3

-- what was held is held, and so is the new slot
pub held_after : (log : Log) (h : LogHead) (slot : ℕ) → 0 < log.size → Counted log h → is_held log h slot ≡ true → is_held log (appended log h) slot ≡ true
held_after log h slot some c is =
    let x = held_entry log h slot is in
    let s = x.0 in
    elim (cases_lt s (h.total + 1 - min (h.held + 1) log.size)) [
      | inl lt ↦
          let gone : h.total ≡ s + log.size = omega (arith, x.1, x.2, c.0, c.1) in
          entry_held log (appended log h) slot h.total (omega (arith, c.0, c.1)) (omega (arith, c.0, c.1)) (ap (λ n. n % log.size) gone ∙ add-mod_right s log.size ∙ x.3)
      | inr le ↦ entry_held log (appended log h) slot s (omega (arith, c.0, c.1)) (omega (arith, x.1, x.2, c.0, c.1)) x.3
    ]

pub new_held : (log : Log) (h : LogHead) → 0 < log.size → Counted log h → is_held log (appended log h) (h.total % log.size) ≡ true
new_held log h some c = entry_held log (appended log h) _ h.total (omega (arith, c.0, c.1)) (omega (arith, c.0, c.1)) refl

pub unheld_before : (log : Log) (h : LogHead) (slot : ℕ) → 0 < log.size → Counted log h → is_held log (appended log h) slot ≡ false → (is_held log h slot ≡ false) × (slot ≢ h.total % log.size)
unheld_before log h slot some c is = (
  elim (cases_Bool (is_held log h slot)) [ inl e ↦ absurd (both_ways (is_held log (appended log h) slot) is (held_after log h slot some c e)) | inr e ↦ e ],
  λ e. both_ways (is_held log (appended log h) slot) is (ap (is_held log (appended log h)) e ∙ new_held log h some c),
)

-- a cleared log holds nothing, and acknowledging leaves what is held
pub cleared_none : (log : Log) (h : LogHead) (slot : ℕ) → is_held log (cleared h) slot ≡ false
unfolding is_held
cleared_none log h slot = lies_false log.size slot (h.total - 0) (min 0 h.total) (λ s low high at. omega arith)

pub acknowledged_same : (log : Log) (count : ℕ) (h : LogHead) (slot : ℕ) → is_held log (acknowledged count h) slot ≡ is_held log h slot
unfolding is_held
acknowledged_same log count h slot = refl
