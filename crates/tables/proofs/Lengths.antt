-- What is asked for lies in what is shown.
use Rattle.std.proofs.Common.{◌≡◌, ℕ, ◌+◌, ◌-◌, ◌≤◌, Bool, true, false, cond, ◌||◌, eqb, ltb, ◌⊎◌, List, [], ◌∷◌, length, Some, None, Ok, Err, Option, Result, sym, refl, ap, inl, inr, arith}
use Rattle.std.specs.List.{AllByRecursion}
use Rattle.std.proofs.lemmas.Bool.{ltb-false, or_parts}
use Rattle.numbers.specs.declared.service.Service.{Service}
use Rattle.numbers.specs.declared.service.Service.TheVariants.{FullRead, PartialRead, FullWrite, PartialWrite}
use Rattle.refusals.specs.declared.fault.ServiceFault.{ServiceFault}
use Rattle.refusals.specs.declared.fault.ServiceFault.TheVariants.{NoSuchUse, BadPart}
use Rattle.directory.specs.declared.entry.Access.TheVariants as access
use Rattle.directory.specs.declared.entry.Source.{Source}
use Rattle.directory.specs.declared.entry.Source.TheVariants.{Computed, Initiate, Utility, Staged, Pending, Log}
use Rattle.directory.specs.declared.entry.TableEntry.{TableEntry}
use Rattle.directory.specs.Tables.{entry, directory, lookup, listed, twin_from, twin_of, twin_if, numbered, or_unknown, find_table}
use Rattle.directory.specs.Uses.{is_read, is_full_write, allows, usable, table_for, count_verdict}
use Rattle.directory.specs.Geometry.{staged_length}
use Rattle.pending.specs.declared.table.PendingTable.{PendingTable}
use Rattle.model.specs.Requests.{Deed, reading, writing, answerable, write_all, fitted, decided, key_verdict}
use Rattle.model.proofs.Outcomes.{never, missing, ok_same}
use Rattle.model.proofs.Accepting.{then_ok}
use Rattle.request.specs.declared.part.Part.{Part}
use Rattle.request.specs.Asks.{Ask, full_read, partial_read, full_write, partial_write, ask_in, table_of, service_of}
use Rattle.request.specs.Parts.{whole_part, part_verdict}
use Rattle.tables.specs.Lengths.{Shown, Answerable}

-- a found entry only starts procedures, or all its bytes are shown
abbrev Starts : TableEntry → Type 0
Starts t = (t.source ≡ Initiate) × (t.access ≡ access.FullWrite)

abbrev Whole : TableEntry → Type 0
Whole t = Starts t ⊎ Shown t

listed_whole : AllByRecursion Whole directory
listed_whole =
    (inr (omega arith), (inr (omega arith), (inl (refl, refl), (inr (omega arith), (inr (omega arith), (inr (omega arith), (inr (omega arith), (inr (omega arith), (inr (omega arith), (inr (omega arith), (inr (omega arith), (inr (omega arith), tt))))))))))))

lookup_whole : (ts : List TableEntry) (n : ℕ) (t : TableEntry) → AllByRecursion Whole ts → lookup ts n ≡ Some t → Whole t
lookup_whole [] n t all e = absurd (missing (sym e))
lookup_whole (x ∷ ts) n t all e = go (lookup_whole ts n t all.1) (eqb x.number n) e
  where
    go : (lookup ts n ≡ Some t → Whole t) → (b : Bool) → cond b (Some x) (lookup ts n) ≡ Some t → Whole t
    go later true f = let same : x ≡ t = cc in rw (← same) all.0
    go later false f = later f

twin_whole : (n : ℕ) (x t : TableEntry) → Whole x → twin_of n x ≡ Some t → Whole t
twin_whole n x t whole e = go x.source refl e
  where
    longer : (table : PendingTable) → x.source ≡ Staged table → Whole x → x.length ≤ staged_length table
    longer table is (inl starts) = let z : ◌≡◌ {A = ℕ} 0 1 = cc in absurd (omega arith)
    longer table is (inr shown) = rw is at shown

    go : (s : Source) → x.source ≡ s → twin_from n x.length x.pending s ≡ Some t → Whole t
    go (Computed view) is f = absurd (missing (sym f))
    go Initiate is f = absurd (missing (sym f))
    go Utility is f = absurd (missing (sym f))
    go (Staged table) is f =
        let fits : x.length ≤ staged_length table = longer table is whole in
        let same : entry n (x.length + 6) None x.pending access.Pending (Pending table) ≡ t = cc in
        rw (← same) (inr (omega arith))
    go (Pending table) is f = absurd (missing (sym f))
    go (Log name) is f = absurd (missing (sym f))

twin_if_lem : (n : ℕ) (o : Option TableEntry) (t : TableEntry) → ((x : TableEntry) → o ≡ Some x → Whole x) → twin_if n o ≡ Some t → Whole t
twin_if_lem n None t each e = absurd (missing (sym e))
twin_if_lem n (Some x) t each e = twin_whole n x t (each x refl) e

found_some : (n : ℕ) (o : Option TableEntry) (t : TableEntry) → or_unknown n o ≡ Ok t → o ≡ Some t
found_some n None t e = absurd (never (sym e))
found_some n (Some x) t e = let same : x ≡ t = cc in ap (λ y. Some y) same

found_whole : (n : ℕ) (t : TableEntry) → find_table n ≡ Ok t → Whole t
unfolding listed
found_whole n t e = go (ltb n 4096) (found_some n (numbered n) t e)
  where
    go : (b : Bool) → cond b (lookup directory n) (twin_if n (lookup directory (n - 4096))) ≡ Some t → Whole t
    go true f = lookup_whole directory n t listed_whole f
    go false f = twin_if_lem n (lookup directory (n - 4096)) t (λ x. lookup_whole directory (n - 4096) x listed_whole) f

used : (r : Result TableEntry ServiceFault) (s : Service) (t : TableEntry) → usable r s ≡ Ok t → (r ≡ Ok t) × (allows t.access s ≡ true)
used (Err f) s t e = absurd (never (sym e))
used (Ok x) s t e = go (allows x.access s) refl e
  where
    go : (b : Bool) → allows x.access s ≡ b → cond b (Ok x) (Err NoSuchUse) ≡ Ok t → (◌≡◌ {A = Result TableEntry ServiceFault} (Ok x) (Ok t)) × (allows t.access s ≡ true)
    go true is f = let same : x ≡ t = cc in (f, rw same at is)
    go false is f = absurd (never (sym f))

no_read_starts : (s : Service) → is_read s ≡ true → is_full_write s ≡ true → ⊥
no_read_starts FullRead reads writes = let z : ◌≡◌ {A = ℕ} 0 1 = cc in absurd (omega arith)
no_read_starts PartialRead reads writes = let z : ◌≡◌ {A = ℕ} 0 1 = cc in absurd (omega arith)
no_read_starts FullWrite reads writes = let z : ◌≡◌ {A = ℕ} 0 1 = cc in absurd (omega arith)
no_read_starts PartialWrite reads writes = let z : ◌≡◌ {A = ℕ} 0 1 = cc in absurd (omega arith)

-- a table that a read may use shows all its bytes
pub read_shown : (n : ℕ) (s : Service) (t : TableEntry) → is_read s ≡ true → table_for n s ≡ Ok t → Shown t
read_shown n s t reads e = go (found_whole n t (used (find_table n) s t e).0) (used (find_table n) s t e).1
  where
    go : Whole t → allows t.access s ≡ true → Shown t
    go (inr shown) allowed = shown
    go (inl starts) allowed = absurd (no_read_starts s reads (rw starts.1 at allowed))

-- what is decided can be answered
answerable_holds : (t : TableEntry) (p : Part) (d : Deed) → Shown t → p.from + p.count ≤ t.length → answerable t p ≡ Ok d → Answerable d
answerable_holds t p d shown within e = go (ltb 1024 p.count) refl e
  where
    go : (b : Bool) → ltb 1024 p.count ≡ b → cond b (Err BadPart) (Ok (reading t p)) ≡ Ok d → Answerable d
    go true is f = absurd (never (sym f))
    go false is f = let same : reading t p ≡ d = cc in rw (← same) (omega arith, ltb-false 1024 p.count is)

part_within : (from count size : ℕ) (p : Part) → part_verdict from count size ≡ Ok p → p.from + p.count ≤ size
part_within from count size p e = go (eqb count 0 || ltb size (from + count)) refl e
  where
    go : (b : Bool) → (eqb count 0 || ltb size (from + count)) ≡ b → cond b (Err BadPart) (Ok (record { from = from; count = count })) ≡ Ok p → p.from + p.count ≤ size
    go true is f = absurd (never (sym f))
    go false is f =
        let same : ◌≡◌ {A = Part} (record { from = from; count = count }) p = cc in
        rw (← same) (ltb-false size (from + count) (or_parts (eqb count 0) _ is).1)

write_answerable : (s : Source) (t : TableEntry) (bytes : List ℕ) → Answerable (write_all s t bytes)
write_answerable (Computed view) t bytes = tt
write_answerable Initiate t bytes = tt
write_answerable Utility t bytes = tt
write_answerable (Staged table) t bytes = tt
write_answerable (Pending table) t bytes = tt
write_answerable (Log name) t bytes = tt

fitted_answerable : (t : TableEntry) (a : Ask) (d : Deed) → table_for (table_of a) (service_of a) ≡ Ok t → fitted t a ≡ Ok d → Answerable d
fitted_answerable t (full_read table) d found e = answerable_holds t (whole_part t.length) d (read_shown table FullRead t refl found) (omega arith) e
fitted_answerable t (partial_read table offset count) d found e =
    let x = then_ok (part_verdict offset count t.length) (answerable t) d e in
    answerable_holds t x.0 d (read_shown table PartialRead t refl found) (part_within offset count t.length x.0 x.1) x.2
fitted_answerable t (full_write table bytes) d found e =
    let x = then_ok (count_verdict t (length bytes)) _ d e in
    let same : write_all t.source t bytes ≡ d = ok_same x.2 in
    rw (← same) (write_answerable t.source t bytes)
fitted_answerable t (partial_write table offset bytes) d found e =
    let x = then_ok (part_verdict offset (length bytes) t.length) _ d e in
    let same : writing t x.0.from bytes ≡ d = ok_same x.2 in
    rw (← same) tt

pub decided_answerable : (key : ℕ) (request : List ℕ) (d : Deed) → decided key request ≡ Ok d → Answerable d
decided_answerable key request d e =
    let asked = then_ok (ask_in request) _ d e in
    let a = asked.0 in
    let keyed = then_ok (key_verdict key a) _ d asked.2 in
    let found = then_ok (table_for (table_of a) (service_of a)) (λ t. fitted t a) d keyed.2 in
    fitted_answerable found.0 a d found.1 found.2
