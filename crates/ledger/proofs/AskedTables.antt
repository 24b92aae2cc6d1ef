-- Which tables a request may write: the utility table, those that can be staged, their twins, and the table that calls procedures.
use Rattle.std.proofs.Common.{◌≡◌, ℕ, ◌+◌, ◌≤◌, true, false, List, length, Some, refl, subst, arith}
use Rattle.std.proofs.lemmas.Bool.{both_ways}
use Rattle.numbers.specs.declared.service.Service.TheVariants.{FullWrite, PartialWrite}
use Rattle.request.specs.Asks.{Ask, full_read, partial_read, full_write, partial_write, table_of, service_of}
use Rattle.pending.specs.declared.table.PendingTable.{PendingTable}
use Rattle.pending.specs.Tables.{table_number}
use Rattle.directory.specs.declared.entry.Source.{Source}
use Rattle.directory.specs.declared.entry.Source.TheVariants as source
use Rattle.directory.specs.declared.entry.TableEntry.{TableEntry}
use Rattle.directory.specs.Geometry.{staged_length, current_block}
use Rattle.directory.specs.Uses.{allows, least}
use Rattle.model.specs.Requests.{Deed, reading, writing, staging, calling, write_all}
use Rattle.model.proofs.FoundTables.{number_of, length_of, use_of, entry_of}
use Rattle.model.proofs.Accepting.{Fits}
use Rattle.ledger.specs.Meanings.{Written, reads_only, bytes_to}

-- what an ask writes
abbrev pub written_in : Ask → Written
written_in (full_read table) = reads_only
written_in (partial_read table offset count) = reads_only
written_in (full_write table bytes) = bytes_to table 0 bytes
written_in (partial_write table offset bytes) = bytes_to table offset bytes

-- where a write goes: into the utility table, or into a table that can be staged
pub data Goes (t : TableEntry) (from : ℕ) (x : List ℕ) : Type 0 where
  to_utility : t.number ≡ 6 → t.block ≡ Some 1 → from + length x ≤ 40 → Goes t from x
  to_table : (w : PendingTable) → t.number ≡ table_number w → t.block ≡ Some (current_block w) → from + length x ≤ staged_length w → Goes t from x

-- what an ask does
abbrev pub Does : Ask → Deed → Type 0
Does a (reading t p) = written_in a ≡ reads_only
Does a (writing t from x) = (written_in a ≡ bytes_to t.number from x) × Goes t from x
Does a (staging t w x) = (written_in a ≡ bytes_to t.number 0 x) × (t.number ≡ 4096 + table_number w) × (length x ≡ staged_length w + 6)
Does a (calling x) = written_in a ≡ bytes_to 7 0 x

all_does : (src : Source) (x : List ℕ) → allows (use_of src) FullWrite ≡ true → least (length_of src) src ≤ length x → length x ≤ length_of src → Does (full_write (number_of src) x) (write_all src (entry_of src) x)
all_does (source.Computed v) x u m n = absurd (both_ways false refl u)
all_does source.Initiate x u m n = refl
all_does source.Utility x u m n = (refl, to_utility refl refl (omega arith))
all_does (source.Staged w) x u m n = (refl, to_table w refl refl (omega arith))
all_does (source.Pending w) x u m n = (refl, refl, omega arith)
all_does (source.Log name) x u m n = absurd (both_ways false refl u)

part_goes : (src : Source) (from : ℕ) (x : List ℕ) → allows (use_of src) PartialWrite ≡ true → from + length x ≤ length_of src → Goes (entry_of src) from x
part_goes (source.Computed v) from x u n = absurd (both_ways false refl u)
part_goes source.Initiate from x u n = absurd (both_ways false refl u)
part_goes source.Utility from x u n = to_utility refl refl n
part_goes (source.Staged w) from x u n = to_table w refl refl n
part_goes (source.Pending w) from x u n = absurd (both_ways false refl u)
part_goes (source.Log name) from x u n = absurd (both_ways false refl u)

pub fits_does : (src : Source) (a : Ask) (d : Deed) → number_of src ≡ table_of a → allows (use_of src) (service_of a) ≡ true → Fits (entry_of src) a d → Does a d
fits_does src (full_read table) d number u f = rw f.0 refl
fits_does src (partial_read table offset count) d number u f = rw f.0 refl
fits_does src (full_write table bytes) d number u f =
    rw f.0 (subst (λ k. Does (full_write k bytes) (write_all src (entry_of src) bytes)) number (all_does src bytes u f.1 f.2))
fits_does src (partial_write table offset bytes) d number u f =
    rw f.0 (subst (λ k. Does (partial_write k offset bytes) (writing (entry_of src) offset bytes)) number (refl, part_goes src offset bytes u f.1))
