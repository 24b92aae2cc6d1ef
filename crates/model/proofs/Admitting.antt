-- What the steps of a deed that a request is admitted to lean on.
use Rattle.std.proofs.Common.{◌≡◌, ℕ, ◌+◌, ◌<◌, ◌≤◌, true, false, List, length, Some, None, Option, refl, arith}
use Rattle.std.proofs.lemmas.Bool.{both_ways}
use Rattle.access.specs.Ready.{needed}
use Rattle.numbers.specs.declared.service.Service.TheVariants.{FullWrite, PartialWrite}
use Rattle.request.specs.Asks.{Ask, full_read, partial_read, full_write, partial_write, service_of}
use Rattle.directory.specs.declared.entry.Source.{Source}
use Rattle.directory.specs.declared.entry.Source.TheVariants as source
use Rattle.directory.specs.Uses.{allows}
use Rattle.model.specs.Requests.{Deed, reading, writing, staging, calling, write_all}
use Rattle.model.proofs.Places.{current_place, staged_short}
use Rattle.model.proofs.FoundTables.{length_of, block_of, use_of, entry_of}
use Rattle.model.proofs.Accepting.{Fits}

-- a table is in no block, or so many bytes of it lie within one that a meter needs and that is not block 0
abbrev pub Placed : Option ℕ → ℕ → Type 0
Placed None n = Unit {0}
Placed (Some b) n = (0 < b) × (b < needed) × (n ≤ 510)

abbrev pub Safe : Deed → Type 0
Safe (reading t p) = Unit {0}
Safe (writing t from bytes) = Placed t.block (from + length bytes)
Safe (staging t table bytes) = length bytes ≤ 516
Safe (calling bytes) = Unit {0}

-- what may be written in part lies where the tables in force do
part_placed : (src : Source) (n : ℕ) → allows (use_of src) PartialWrite ≡ true → n ≤ length_of src → Placed (block_of src) n
part_placed (source.Computed v) n u h = absurd (both_ways false refl u)
part_placed source.Initiate n u h = tt
part_placed source.Utility n u h = (omega arith, omega arith, omega arith)
part_placed (source.Staged t) n u h = (omega (arith, (current_place t).0), omega (arith, (current_place t).1), omega (arith, staged_short t))
part_placed (source.Pending t) n u h = tt
part_placed (source.Log name) n u h = absurd (both_ways false refl u)

all_safe : (src : Source) (bytes : List ℕ) → allows (use_of src) FullWrite ≡ true → length bytes ≤ length_of src → Safe (write_all src (entry_of src) bytes)
all_safe (source.Computed v) bytes u h = absurd (both_ways false refl u)
all_safe source.Initiate bytes u h = tt
all_safe source.Utility bytes u h = part_placed source.Utility (0 + length bytes) refl (omega arith)
all_safe (source.Staged t) bytes u h = part_placed (source.Staged t) (0 + length bytes) refl (omega arith)
all_safe (source.Pending t) bytes u h = omega (arith, staged_short t)
all_safe (source.Log name) bytes u h = absurd (both_ways false refl u)

pub fits_safe : (src : Source) (a : Ask) (d : Deed) → allows (use_of src) (service_of a) ≡ true → Fits (entry_of src) a d → Safe d
fits_safe src (full_read table) d u f = rw f.0 tt
fits_safe src (partial_read table offset count) d u f = rw f.0 tt
fits_safe src (full_write table bytes) d u f = rw f.0 (all_safe src bytes u f.2)
fits_safe src (partial_write table offset bytes) d u f = rw f.0 (part_placed src (offset + length bytes) u f.1)
