-- What a table may be used for.
use Rattle.std.specs.Prelude.{ℕ, Bool, true, false, cond, ◌&&◌, Ok, Err, Result, nat_le}
use Rattle.numbers.specs.declared.service.Service.{Service}
use Rattle.numbers.specs.declared.service.Service.TheVariants.{FullRead, PartialRead, FullWrite, PartialWrite}
use Rattle.refusals.specs.declared.fault.ServiceFault.{ServiceFault}
use Rattle.refusals.specs.declared.fault.ServiceFault.TheVariants.{NoSuchUse, BadPart}
use Rattle.directory.specs.declared.entry.Access.{Access}
use Rattle.directory.specs.declared.entry.Access.TheVariants as access
use Rattle.directory.specs.declared.entry.Access.TheVariants.{Read, ReadWrite}
use Rattle.directory.specs.declared.entry.Source.{Source}
use Rattle.directory.specs.declared.entry.Source.TheVariants.{Computed, Initiate, Utility, Staged, Pending, Log}
use Rattle.directory.specs.declared.entry.TableEntry.{TableEntry}
use Rattle.directory.specs.Tables.{find_table}

abbrev pub is_read : Service → Bool
is_read FullRead = true
is_read PartialRead = true
is_read FullWrite = false
is_read PartialWrite = false

abbrev pub is_full_write : Service → Bool
is_full_write FullRead = false
is_full_write PartialRead = false
is_full_write FullWrite = true
is_full_write PartialWrite = false

-- Which services a use has.
abbrev pub allows : Access → Service → Bool
allows Read s = is_read s
allows ReadWrite s = true
allows access.FullWrite s = is_full_write s
allows access.Pending s = cond (is_read s) true (is_full_write s)

abbrev pub use_verdict : TableEntry → Service → Result TableEntry ServiceFault
use_verdict t s = cond (allows t.access s) (Ok t) (Err NoSuchUse)

-- A table for a service: first whether there is such a table, then whether it has this use.
abbrev pub usable : Result TableEntry ServiceFault → Service → Result TableEntry ServiceFault
usable (Ok t) s = use_verdict t s
usable (Err e) s = Err e

abbrev pub table_for : ℕ → Service → Result TableEntry ServiceFault
table_for n s = usable (find_table n) s

-- A whole content has as many bytes as the table, and what starts a procedure has at least three.
abbrev pub least : ℕ → Source → ℕ
least length (Computed view) = length
least length Initiate = 3
least length Utility = length
least length (Staged table) = length
least length (Pending table) = length
least length (Log log) = length

abbrev pub count_verdict : TableEntry → ℕ → Result (Unit {0}) ServiceFault
count_verdict t count = cond (nat_le (least t.length t.source) count && nat_le count t.length) (Ok tt) (Err BadPart)
