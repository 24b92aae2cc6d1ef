-- An answer is at most a code, a count, 1,024 bytes and a check.
use Rattle.std.proofs.Common.{◌≡◌, ℕ, ◌+◌, ◌≤◌, List, [], ◌∷◌, length, drop, Ok, Err, Result, arith}
use Rattle.std.proofs.lemmas.List.{length-append, length-take}
use Rattle.fields.specs.Words.{part}
use Rattle.numbers.specs.declared.procedure.ProcedureResult.{ProcedureResult}
use Rattle.request.specs.Answers.{check_byte, answer_bytes}
use Rattle.request.specs.Asks.{Ask, full_read, partial_read, full_write, partial_write}
use Rattle.directory.specs.declared.entry.Source.{Source}
use Rattle.directory.specs.declared.entry.Source.TheVariants as source
use Rattle.directory.specs.declared.entry.TableEntry.{TableEntry}
use Rattle.model.specs.States.{Meter}
use Rattle.model.specs.Tables.{table_bytes}
use Rattle.model.specs.Procedures.{Order, called}
use Rattle.model.specs.Requests.{Deed, reading, writing, staging, calling, write_all}
use Rattle.model.specs.Serving.{call_done, head_of, performed, admitted}
use Rattle.model.proofs.FoundTables.{entry_of}
use Rattle.model.proofs.Accepting.{Fits, accepted_from}
use Rattle.causes.specs.Leaving.{answer_room}

-- the parts that are read have room
abbrev Roomy : Deed → Type 0
Roomy (reading t p) = p.count ≤ 1024
Roomy (writing t from bytes) = Unit {0}
Roomy (staging t table bytes) = Unit {0}
Roomy (calling bytes) = Unit {0}

all_roomy : (src : Source) (t : TableEntry) (bytes : List ℕ) → Roomy (write_all src t bytes)
all_roomy (source.Computed v) t bytes = tt
all_roomy source.Initiate t bytes = tt
all_roomy source.Utility t bytes = tt
all_roomy (source.Staged table) t bytes = tt
all_roomy (source.Pending table) t bytes = tt
all_roomy (source.Log name) t bytes = tt

fits_roomy : (t : TableEntry) (a : Ask) (d : Deed) → Fits t a d → Roomy d
fits_roomy t (full_read table) d f = rw f.0 f.1
fits_roomy t (partial_read table offset count) d f = rw f.0 f.2
fits_roomy t (full_write table bytes) d f = rw f.0 (all_roomy t.source t bytes)
fits_roomy t (partial_write table offset bytes) d f = rw f.0 tt

-- the bytes of each deed
answer_size : (bytes : List ℕ) → length (answer_bytes bytes) ≡ length bytes + 4
answer_size bytes = omega (arith, length-append bytes (check_byte bytes ∷ []))

call_size : (m : Meter) (bytes : List ℕ) (r : Result Order ProcedureResult) → length (call_done m bytes r).bytes ≤ answer_room
call_size m bytes (Ok o) = omega arith
call_size m bytes (Err e) = omega arith

performed_size : (d : Deed) (m : Meter) → Roomy d → length (performed d m).bytes ≤ answer_room
unfolding performed
performed_size (reading t p) m few =
    let table = table_bytes t.source m.clock m.response (head_of m) m.blocks in
    omega (arith, answer_size (part p.count p.from table), length-take p.count (drop p.from table))
performed_size (writing t from bytes) m few = omega arith
performed_size (staging t table bytes) m few = omega arith
performed_size (calling bytes) m few = call_size m bytes (called bytes (head_of m))

pub admitted_size : (key : ℕ) (bytes : List ℕ) (m : Meter) (d : Deed) → admitted key bytes m ≡ Ok d → length (performed d m).bytes ≤ answer_room
admitted_size key bytes m d h = let x = accepted_from key bytes m d h in performed_size d m (fits_roomy (entry_of x.1) x.0 d x.3.fit)
