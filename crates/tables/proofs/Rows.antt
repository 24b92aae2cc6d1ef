-- The rows of the pending status.
use Rattle.std.proofs.Common.{◌≡◌, ℕ, zero, suc, ◌+◌, ◌*◌, ◌<◌, true, List, [], ◌∷◌, ◌++◌, length, get_or, filter, replicate, refl, ◌∙◌, arith}
use Rattle.std.proofs.lemmas.List.{length-append}
use Rattle.std.proofs.lemmas.Bool.{cond_both}
use Rattle.calendar.specs.Calendar.{date_of, bytes_of}
use Rattle.fields.specs.Words.{le_bytes}
use Rattle.fields.specs.Patches.{patch}
use Rattle.records.proofs.Fills.{patch_all, patch_fill}
use Rattle.head.specs.declared.head.Activation.{Activation}
use Rattle.pending.specs.declared.trigger.Trigger.{Trigger}
use Rattle.pending.specs.declared.trigger.Trigger.TheVariants.{Absolute, Relative, OnCommand}
use Rattle.pending.specs.declared.row.Row.{Row}
use Rattle.pending.specs.declared.row.Row.TheVariants.{Empty, Waiting}
use Rattle.pending.specs.declared.table.PendingTable.{PendingTable}
use Rattle.pending.specs.declared.table.PendingTable.TheVariants.{Calendar}
use Rattle.head.specs.declared.head.Head.{Head}
use Rattle.model.specs.States.{row_of}
use Rattle.pending.specs.Triggers.{parts_of}
use Rattle.pending.specs.Rows.{is_waiting, row_plan_bytes}
use Rattle.pending.specs.Tables.{table_number, table_index, all_tables}
use Rattle.model.specs.Tables.{activation_date, waiting_in, row_shown}

length_parts : (t : Trigger) → length (parts_of t) ≡ 5
length_parts (Absolute year month day hour minute) = refl
length_parts (Relative weeks days hours minutes seconds) = refl
length_parts OnCommand = refl

pub length_row_plan : (row : Row) → length (row_plan_bytes row) ≡ 6
length_row_plan Empty = refl
length_row_plan (Waiting plan due) = omega (arith, length_parts plan.trigger)

pub length_row_shown : (t : PendingTable) (row : Row) → length (row_shown t row) ≡ 8
length_row_shown t Empty = refl
length_row_shown t (Waiting plan due) = rw length-append (omega (arith, length_parts plan.trigger))

pub waiting_shown : (t : PendingTable) (row : Row) → is_waiting row ≡ true → row_plan_bytes row ++ le_bytes 2 (table_number t) ≡ row_shown t row
waiting_shown t Empty w = let z : ◌≡◌ {A = ℕ} 0 1 = cc in absurd (omega arith)
waiting_shown t (Waiting plan due) w = refl

-- as many rows wait as pass the test
pub waiting_passed : (rows : List Row) → length (filter is_waiting rows) ≡ waiting_in rows
waiting_passed [] = refl
waiting_passed (Empty ∷ rows) = omega (arith, waiting_passed rows)
waiting_passed (Waiting plan due ∷ rows) = omega (arith, waiting_passed rows)

-- the first rows put into their places
abbrev pub rows_put : ℕ → Head → List ℕ → List ℕ
rows_put zero h bytes = bytes
rows_put (suc i) h bytes = patch (7 + 8 * i) (row_shown (get_or all_tables i Calendar) (row_of (get_or all_tables i Calendar) h)) (rows_put i h bytes)

pub one_row_put : (i : ℕ) (h : Head) (t : PendingTable) (bytes old new shown : List ℕ) (row : Row) (place : ℕ) → t ≡ get_or all_tables i Calendar → i < 3 → place ≡ table_index t → row ≡ row_of t h → shown ≡ row_shown t row → old ≡ rows_put i h bytes → new ≡ patch (7 + 8 * place) shown old → new ≡ rows_put (i + 1) h bytes
one_row_put zero h t bytes old new shown row place is below at same as_row before put = rw (put, as_row, same, at, is, before) refl
one_row_put (suc zero) h t bytes old new shown row place is below at same as_row before put = rw (put, as_row, same, at, is, before) refl
one_row_put (suc (suc zero)) h t bytes old new shown row place is below at same as_row before put = rw (put, as_row, same, at, is, before) refl
one_row_put (suc (suc (suc i))) h t bytes old new shown row place is below at same as_row before put = absurd (omega arith)

-- the date, the count and the rows, one behind another
pub status_written : (date first second third old d f s t m₁ m₂ m₃ m₄ m₅ : List ℕ) (count n : ℕ) → length date ≡ 6 → length first ≡ 8 → length second ≡ 8 → length third ≡ 8 → length old ≡ 31 →
    d ≡ date → n ≡ count → f ≡ first → s ≡ second → t ≡ third →
    m₁ ≡ patch 0 d old → m₂ ≡ patch 6 (n ∷ []) m₁ → m₃ ≡ patch 7 f m₂ → m₄ ≡ patch 15 s m₃ → m₅ ≡ patch 23 t m₄ → m₅ ≡ date ++ (count ∷ (first ++ (second ++ (third ++ []))))
status_written date first second third old d f s t m₁ m₂ m₃ m₄ m₅ count n ld lf ls lt lo ed en ef es et e₁ e₂ e₃ e₄ e₅ =
    let pieces : List (List ℕ) = date ∷ (count ∷ []) ∷ first ∷ second ∷ third ∷ [] in
    let p₁ : 0 + length date ≡ 6 = omega arith in
    let p₂ : 0 + length date + 1 ≡ 7 = omega arith in
    let p₃ : 0 + length date + 1 + length first ≡ 15 = omega arith in
    let p₄ : 0 + length date + 1 + length first + length second ≡ 23 = omega arith in
    let chain : m₅ ≡ patch_all 0 pieces old = cc in
    let size : length (date ++ (count ∷ (first ++ (second ++ (third ++ []))))) ≡ length old = rw (length-append, length-append, length-append, length-append) (omega arith) in
    chain ∙ patch_fill pieces old size

pub length_activation_date : (a : Activation) → length (activation_date a) ≡ 6
length_activation_date a = cond_both a.happened (bytes_of (date_of a.second)) (replicate 6 0) (λ (l : List ℕ). length l ≡ 6) (λ _. refl) (λ _. refl)
