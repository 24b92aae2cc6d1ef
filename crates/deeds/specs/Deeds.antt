-- Deeds of the code as those of the plain meter, and what acting on one leans on.
use Rattle.std.specs.Prelude.{◌≡◌, ℕ, ◌+◌, ◌<◌, ◌≤◌, Bool, true, false, length, Some, None, Ok, Err, Option, Result}
use Rattle.numbers.specs.declared.service.Service.{Service}
use Rattle.refusals.specs.declared.fault.ServiceFault.{ServiceFault}
use Rattle.request.specs.declared.part.Part.{Part}
use Rattle.logs.specs.Tables.{table_length}
use Rattle.directory.specs.declared.entry.Access.TheVariants as access
use Rattle.directory.specs.declared.entry.Source.{Source}
use Rattle.directory.specs.declared.entry.Source.TheVariants.{Computed, Initiate, Utility, Staged, Pending, Log}
use Rattle.directory.specs.declared.entry.TableEntry.{TableEntry}
use Rattle.directory.specs.Geometry.{staged_length, current_block, log_place}
use Rattle.directory.specs.Tables.{room}
use Rattle.directory.specs.Uses.{allows}
use Rattle.model.specs.Requests as plain
use Rattle.deeds.specs.declared.deed.Deed.{Deed}
use Rattle.deeds.specs.declared.deed.Deed.TheVariants.{Read, Write, Stage, Call}

abbrev pub deed_of : Deed → plain.Deed
deed_of (Read table part) = plain.reading table part
deed_of (Write table from content) = plain.writing table from content.now
deed_of (Stage table pending content) = plain.staging table pending content.now
deed_of (Call content) = plain.calling content.now

abbrev pub decided_as : Result Deed ServiceFault → Result plain.Deed ServiceFault
decided_as (Ok d) = Ok (deed_of d)
decided_as (Err e) = Err e

abbrev pub writes : plain.Deed → Bool
writes (plain.reading t p) = false
writes (plain.writing t from bytes) = true
writes (plain.staging t table bytes) = true
writes (plain.calling bytes) = true

-- The bytes that a source has to show. What starts a procedure is never shown.
abbrev pub shown_length : Source → ℕ
shown_length (Computed view) = room (Computed view)
shown_length Initiate = 0
shown_length Utility = 40
shown_length (Staged table) = staged_length table
shown_length (Pending table) = staged_length table + 6
shown_length (Log name) = table_length (log_place name)

-- A table is written in the utility block, or in the block of a content in force, and has that length.
abbrev pub Home : Source → Option ℕ → ℕ → Type 0
Home (Computed view) block size = ⊥
Home Initiate block size = ⊥
Home Utility block size = (block ≡ Some 1) × (size ≡ 40)
Home (Staged table) block size = (block ≡ Some (current_block table)) × (size ≡ staged_length table)
Home (Pending table) block size = ⊥
Home (Log name) block size = ⊥

-- Blocks 1 to 7 have one table each, at their start.
abbrev pub OwnBlock : Option ℕ → Type 0
OwnBlock None = ⊥
OwnBlock (Some n) = (0 < n) × (n < 8)

pub record SafeRead (t : TableEntry) (p : Part) : Type 0 where
  pub inside : p.from + p.count ≤ t.length
  pub few : p.count ≤ 1024
  pub shown : t.length ≤ shown_length t.source

pub record SafeWrite (t : TableEntry) (from count : ℕ) : Type 0 where
  pub inside : from + count ≤ t.length
  pub short : t.length ≤ 510
  pub block : OwnBlock t.block
  pub home : Home t.source t.block t.length

-- What acting on a deed leans on.
abbrev pub Safe : plain.Deed → Type 0
Safe (plain.reading t p) = SafeRead t p
Safe (plain.writing t from bytes) = SafeWrite t from (length bytes)
Safe (plain.staging t table bytes) = length bytes ≡ staged_length table + 6
Safe (plain.calling bytes) = (3 ≤ length bytes) × (length bytes ≤ 9)

-- A table of the directory has its source's length, its block, and no other use than the source allows.
abbrev pub Suits : Source → TableEntry → Type 0
Suits (Computed view) t = (t.length ≡ room (Computed view)) × (t.access ≡ access.Read)
Suits Initiate t = (t.length ≡ 9) × (t.access ≡ access.FullWrite)
Suits Utility t = (t.block ≡ Some 1) × (t.length ≡ 40)
Suits (Staged table) t = (t.block ≡ Some (current_block table)) × (t.length ≡ staged_length table)
Suits (Pending table) t = (t.length ≡ staged_length table + 6) × (t.access ≡ access.Pending)
Suits (Log name) t = (t.length ≡ table_length (log_place name)) × (t.access ≡ access.Read)

pub record Usable (s : Service) (t : TableEntry) : Type 0 where
  pub suits : Suits t.source t
  pub allowed : allows t.access s ≡ true
