-- The tables that can be staged, in directory order.
use Rattle.std.specs.Prelude.{◌≡◌, ℕ, cond, List, [], ◌∷◌, Some, None, Option, ◌==◌}
use Rattle.pending.specs.declared.table.PendingTable.{PendingTable}
use Rattle.pending.specs.declared.table.PendingTable.TheVariants.{Calendar, Outputs, Override}

abbrev pub table_number : PendingTable → ℕ
table_number Calendar = 54
table_number Outputs = 2053
table_number Override = 2095

abbrev pub table_index : PendingTable → ℕ
table_index Calendar = 0
table_index Outputs = 1
table_index Override = 2

abbrev pub all_tables : List PendingTable
all_tables = Calendar ∷ Outputs ∷ Override ∷ []

abbrev pub first_with : ℕ → List PendingTable → Option PendingTable
first_with number [] = None
first_with number (t ∷ ts) = cond (number == table_number t) (Some t) (first_with number ts)

-- The table that has a number.
abbrev pub table_of : ℕ → Option PendingTable
table_of number = first_with number all_tables

-- The number of a table, from which the table can be found again.
pub record IsNumberOf (table : PendingTable) (number : ℕ) : Type 0 where
  pub value : number ≡ table_number table
  pub back : table_of number ≡ Some table
