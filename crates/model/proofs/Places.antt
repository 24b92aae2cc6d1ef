-- Where the tables that can be staged and the logs lie.
use Rattle.std.proofs.Common.{◌≡◌, ℕ, ◌+◌, ◌-◌, ◌<◌, ◌≤◌, ◌≢◌, ◌⊎◌, List, length, get_or, sym, refl, ap, ◌∙◌, inl, inr, arith, rules}
use Rattle.std.proofs.lemmas.List.{places, same_lists, get_or-set_same, get_or-set_other}
use Rattle.std.proofs.lemmas.Bool.{cases_eq}
use Rattle.fields.specs.Words.{part}
use Rattle.fields.specs.Patches.{patch}
use Rattle.numbers.specs.declared.log.LogName.{LogName}
use Rattle.numbers.specs.declared.log.LogName.TheVariants.{History, SelfReads, LoadProfile}
use Rattle.numbers.specs.Names.{log_number}
use Rattle.pending.specs.declared.row.Row.{Row}
use Rattle.pending.specs.declared.row.Row.TheVariants.{Empty}
use Rattle.pending.specs.declared.table.PendingTable.{PendingTable}
use Rattle.pending.specs.declared.table.PendingTable.TheVariants.{Calendar, Outputs, Override}
use Rattle.pending.specs.Tables.{table_index, all_tables}
use Rattle.logs.specs.Slots.{Fitting}
use Rattle.directory.specs.Geometry.{log_place, staged_length, current_block, pending_block}
use Rattle.head.specs.declared.head.Head.{Head}
use Rattle.model.specs.States.{row_of, set_row}
use Rattle.model.proofs.Keeping.{history_fits, self_reads_fit, profile_fits}

-- the three tables that can be staged, by their rows
pub index_low : (t : PendingTable) → table_index t < 3
index_low Calendar = omega arith
index_low Outputs = omega arith
index_low Override = omega arith

by_index : (t : PendingTable) → (current_block t ≡ 2 + table_index t) × (pending_block t ≡ 5 + table_index t) × (get_or all_tables (table_index t) Calendar ≡ t)
by_index Calendar = (refl, refl, refl)
by_index Outputs = (refl, refl, refl)
by_index Override = (refl, refl, refl)

-- such a table is in one of blocks 2 to 4, what waits for it in one of blocks 5 to 7
pub current_place : (t : PendingTable) → (1 < current_block t) × (current_block t < 5)
current_place t = let at = (by_index t).0 in let low = index_low t in (omega arith, omega arith)

pub pending_place : (t : PendingTable) → (4 < pending_block t) × (pending_block t < 8)
pending_place t = let at = (by_index t).1 in let low = index_low t in (omega arith, omega arith)

pub staged_short : (t : PendingTable) → staged_length t ≤ 510
staged_short Calendar = omega arith
staged_short Outputs = omega arith
staged_short Override = omega arith

-- two of them are one, or they lie apart
pub record ApartTables (t u : PendingTable) : Type 0 where
  pub rows : table_index t ≢ table_index u
  pub currents : current_block t ≢ current_block u
  pub pendings : pending_block t ≢ pending_block u

pub which_table : (t u : PendingTable) → (t ≡ u) ⊎ ApartTables t u
which_table t u =
    elim (cases_eq (table_index t) (table_index u)) [
      | inl e ↦ inl (sym (by_index t).2 ∙ ap (λ k. get_or all_tables k Calendar) e ∙ (by_index u).2)
      | inr ne ↦ inr (record { rows = ne; currents = λ e. ne (omega (arith, (by_index t).0, (by_index u).0)); pendings = λ e. ne (omega (arith, (by_index t).1, (by_index u).1)) })
    ]

pub row_own : (t : PendingTable) (row : Row) (h : Head) → length h.rows ≡ 3 → row_of t (set_row t row h) ≡ row
row_own t row h three = get_or-set_same h.rows (table_index t) row Empty (omega (arith, index_low t))

pub row_other : (t u : PendingTable) (row : Row) (h : Head) → ApartTables u t → row_of u (set_row t row h) ≡ row_of u h
row_other t u row h apart = get_or-set_other h.rows (table_index t) (table_index u) row Empty apart.rows

-- the three logs
pub log_low : (name : LogName) → log_number name - 1 < 3
log_low History = omega arith
log_low SelfReads = omega arith
log_low LoadProfile = omega arith

pub log_fits : (name : LogName) → Fitting (log_place name)
log_fits History = history_fits
log_fits SelfReads = self_reads_fit
log_fits LoadProfile = profile_fits

-- bytes that are patched in within the front of a block
pub part_patch_within : (w from : ℕ) (new old : List ℕ) → from + length new ≤ w → w ≤ length old → part w 0 (patch from new old) ≡ patch from new (part w 0 old)
unfolding patch
part_patch_within w from new old fits short = same_lists _ _ (search (rules, places)) (λ k d h. grind (arith, places))
