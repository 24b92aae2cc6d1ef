-- The directory, and the table that a number names.
use Rattle.std.specs.Prelude.{◌≡◌, ℕ, ◌+◌, ◌-◌, ◌≤◌, cond, List, [], ◌∷◌, Some, None, Ok, Err, Option, Result, ◌==◌, nat_lt}
use Rattle.std.specs.List.{find}
use Rattle.numbers.specs.declared.log.LogName.TheVariants.{History, SelfReads, LoadProfile}
use Rattle.refusals.specs.declared.fault.ServiceFault.{ServiceFault}
use Rattle.refusals.specs.declared.fault.ServiceFault.TheVariants.{UnknownTable}
use Rattle.pending.specs.declared.table.PendingTable.TheVariants.{Calendar, Outputs, Override}
use Rattle.directory.specs.declared.entry.View.TheVariants.{PendingStatus, Response, Registers, Clock}
use Rattle.directory.specs.declared.entry.Access.{Access}
use Rattle.directory.specs.declared.entry.Access.TheVariants as access
use Rattle.directory.specs.declared.entry.Access.TheVariants.{Read, ReadWrite}
use Rattle.directory.specs.declared.entry.Source.{Source}
use Rattle.directory.specs.declared.entry.Source.TheVariants.{Computed, Initiate, Utility, Staged, Pending, Log}
use Rattle.directory.specs.declared.entry.TableEntry.{TableEntry}
use Rattle.logs.specs.Tables.{table_length}
use Rattle.directory.specs.Geometry.{log_place}

abbrev pub entry : ℕ → ℕ → Option ℕ → Option ℕ → Access → Source → TableEntry
entry number length block pending access source = record { number = number; length = length; block = block; pending = pending; access = access; source = source }

-- Number, length, block or first block, pending block, use, and where the bytes come from.
abbrev pub directory : List TableEntry
directory =
    entry 4 31 None None Read (Computed PendingStatus)
    ∷ (entry 6 40 (Some 1) None ReadWrite Utility
    ∷ (entry 7 9 None None access.FullWrite Initiate
    ∷ (entry 8 4 None None Read (Computed Response)
    ∷ (entry 23 20 None None Read (Computed Registers)
    ∷ (entry 26 634 (Some 10) None Read (Log SelfReads)
    ∷ (entry 52 6 None None Read (Computed Clock)
    ∷ (entry 54 120 (Some 2) (Some 5) ReadWrite (Staged Calendar)
    ∷ (entry 64 7402 (Some 12) None Read (Log LoadProfile)
    ∷ (entry 74 1030 (Some 8) None Read (Log History)
    ∷ (entry 2053 60 (Some 3) (Some 6) ReadWrite (Staged Outputs)
    ∷ (entry 2095 16 (Some 4) (Some 7) ReadWrite (Staged Override)
    ∷ [])))))))))))

-- The bytes that a source has. A block has 510, and a pending table six trigger bytes more.
abbrev pub room : Source → ℕ
room (Computed PendingStatus) = 31
room (Computed Response) = 4
room (Computed Registers) = 20
room (Computed Clock) = 6
room Initiate = 9
room Utility = 510
room (Staged table) = 510
room (Pending table) = 516
room (Log log) = table_length (log_place log)

abbrev pub Inside : TableEntry → Type 0
Inside t = t.length ≤ room t.source

-- What a table that was found by a number meets.
abbrev pub FoundInside : ℕ → TableEntry → Type 0
FoundInside n t = Inside t × (t.number ≡ n)

abbrev pub lookup : List TableEntry → ℕ → Option TableEntry
lookup ts n = find (λ t. t.number == n) ts

-- A staged table has a pending twin under a number of its own, six bytes longer.
abbrev pub twin_from : ℕ → ℕ → Option ℕ → Source → Option TableEntry
twin_from n length pending (Computed view) = None
twin_from n length pending Initiate = None
twin_from n length pending Utility = None
twin_from n length pending (Staged table) = Some (entry n (length + 6) None pending access.Pending (Pending table))
twin_from n length pending (Pending table) = None
twin_from n length pending (Log log) = None

abbrev pub twin_of : ℕ → TableEntry → Option TableEntry
twin_of n t = twin_from n t.length t.pending t.source

abbrev pub twin_if : ℕ → Option TableEntry → Option TableEntry
twin_if n None = None
twin_if n (Some t) = twin_of n t

-- The table of a number: below 4096 a listed one, from there on the twin of a listed one.
abbrev pub numbered_by : (ℕ → Option TableEntry) → ℕ → Option TableEntry
numbered_by look n = cond (nat_lt n 4096) (look n) (twin_if n (look (n - 4096)))

unfoldable pub listed : ℕ → Option TableEntry
listed n = lookup directory n

abbrev pub numbered : ℕ → Option TableEntry
numbered n = numbered_by listed n

abbrev pub or_unknown : ℕ → Option TableEntry → Result TableEntry ServiceFault
or_unknown n None = Err (UnknownTable n)
or_unknown n (Some t) = Ok t

abbrev pub find_table : ℕ → Result TableEntry ServiceFault
find_table n = or_unknown n (numbered n)
