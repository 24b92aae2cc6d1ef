-- What an admitted deed puts where: a write lies within a table in force, and a staging is a whole table.
use Rattle.std.proofs.Common.{◌≡◌, ℕ, ◌+◌, ◌≤◌, true, false, List, length, Some, None, Option, refl, arith}
use Rattle.std.proofs.lemmas.Bool.{both_ways}
use Rattle.numbers.specs.declared.service.Service.TheVariants.{FullWrite, PartialWrite}
use Rattle.request.specs.Asks.{Ask, full_read, partial_read, full_write, partial_write, service_of}
use Rattle.directory.specs.declared.entry.Source.{Source}
use Rattle.directory.specs.declared.entry.Source.TheVariants as source
use Rattle.directory.specs.Geometry.{staged_length}
use Rattle.directory.specs.Uses.{allows, least}
use Rattle.model.specs.Requests.{Deed, reading, writing, staging, calling, write_all}
use Rattle.model.proofs.FoundTables as filed
use Rattle.model.proofs.Accepting.{Fits}
use Rattle.unseen.proofs.Placing.{InForce, utility, stageable, block_of, length_of}

-- so many bytes of a block are of a table in force
pub data Home (block : Option ℕ) (n : ℕ) : Type 0 where
  nowhere : block ≡ None → Home block n
  within : (q : InForce) → block ≡ Some (block_of q) → n ≤ length_of q → Home block n

abbrev pub SitedDeed : Deed → Type 0
SitedDeed (reading t p) = Unit {0}
SitedDeed (writing t from bytes) = Home t.block (from + length bytes)
SitedDeed (staging t table bytes) = length bytes ≡ staged_length table + 6
SitedDeed (calling bytes) = Unit {0}

part_home : (src : Source) (n : ℕ) → allows (filed.use_of src) PartialWrite ≡ true → n ≤ filed.length_of src → Home (filed.block_of src) n
part_home (source.Computed v) n u h = nowhere refl
part_home source.Initiate n u h = nowhere refl
part_home source.Utility n u h = within utility refl h
part_home (source.Staged t) n u h = within (stageable t) refl h
part_home (source.Pending t) n u h = nowhere refl
part_home (source.Log name) n u h = absurd (both_ways false refl u)

all_sited : (src : Source) (bytes : List ℕ) → allows (filed.use_of src) FullWrite ≡ true → least (filed.length_of src) src ≤ length bytes → length bytes ≤ filed.length_of src → SitedDeed (write_all src (filed.entry_of src) bytes)
all_sited (source.Computed v) bytes u low high = nowhere refl
all_sited source.Initiate bytes u low high = tt
all_sited source.Utility bytes u low high = within utility refl (omega arith)
all_sited (source.Staged t) bytes u low high = within (stageable t) refl (omega arith)
all_sited (source.Pending t) bytes u low high = omega arith
all_sited (source.Log name) bytes u low high = absurd (both_ways false refl u)

pub fits_sited : (src : Source) (a : Ask) (d : Deed) → allows (filed.use_of src) (service_of a) ≡ true → Fits (filed.entry_of src) a d → SitedDeed d
fits_sited src (full_read table) d u f = rw f.0 tt
fits_sited src (partial_read table offset count) d u f = rw f.0 tt
fits_sited src (full_write table bytes) d u f = rw f.0 (all_sited src bytes u f.1 f.2)
fits_sited src (partial_write table offset bytes) d u f = rw f.0 (part_home src (offset + length bytes) u f.1)
