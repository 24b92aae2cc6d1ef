-- A deed that fits a usable table is safe to act on.
use Rattle.std.proofs.Common.{◌≡◌, ℕ, ◌+◌, ◌≤◌, Bool, true, false, cond, ◌&&◌, ◌||◌, eqb, ltb, leb, List, length, IfOk, Some, Ok, Err, Result, sym, refl, ap, ◌∙◌, arith}
use Rattle.std.proofs.lemmas.Bool.{and_parts, leb-true, or_parts, ltb-false, both_ways}
use Rattle.numbers.specs.declared.service.Service.{Service}
use Rattle.numbers.specs.declared.service.Service.TheVariants.{FullRead, PartialRead, FullWrite, PartialWrite}
use Rattle.refusals.specs.declared.fault.ServiceFault.{ServiceFault}
use Rattle.refusals.specs.declared.fault.ServiceFault.TheVariants.{BadPart}
use Rattle.request.specs.declared.part.Part.{Part}
use Rattle.request.specs.Asks.{Ask, full_read, partial_read, full_write, partial_write, service_of}
use Rattle.request.specs.Parts.{whole_part, part_verdict}
use Rattle.pending.specs.declared.table.PendingTable.{PendingTable}
use Rattle.pending.specs.declared.table.PendingTable.TheVariants.{Calendar, Outputs, Override}
use Rattle.directory.specs.declared.entry.Access.{Access}
use Rattle.directory.specs.declared.entry.Access.TheVariants as access
use Rattle.directory.specs.declared.entry.Source.{Source}
use Rattle.directory.specs.declared.entry.Source.TheVariants as source
use Rattle.directory.specs.declared.entry.TableEntry.{TableEntry}
use Rattle.directory.specs.Geometry.{staged_length, current_block}
use Rattle.directory.specs.Uses.{is_read, is_full_write, allows, least, count_verdict, table_for}
use Rattle.model.specs.Requests.{Deed, reading, writing, answerable, write_all, fitted}
use Rattle.model.proofs.Accepting.{then_ok}
use Rattle.model.proofs.Outcomes.{never, ok_same}
use Rattle.deeds.specs.declared.deed.Deed as code
use Rattle.deeds.specs.Deeds.{deed_of, decided_as, shown_length, OwnBlock, SafeWrite, Safe, Suits, Usable}
use Rattle.deeds.proofs.Contents.{staged_short}
use Rattle.deeds.proofs.Listed.{found_usable}

-- what only may be read is not written, and what only may be written whole is not read
use_of_lem : {P : Type 0} (a b : Access) (s : Service) → a ≡ b → (allows b s ≡ true → P) → allows a s ≡ true → P
use_of_lem a b s e so allowed = so (ap (λ x. allows x s) (sym e) ∙ allowed)

read_or_write : {P : Type 0} (s : Service) → is_read s ≡ true → is_full_write s ≡ true → P
read_or_write FullRead r w = absurd (both_ways false refl w)
read_or_write PartialRead r w = absurd (both_ways false refl w)
read_or_write FullWrite r w = absurd (both_ways false refl r)
read_or_write PartialWrite r w = absurd (both_ways false refl r)

-- a table that may be read is as long as what its source shows
shown : (s : Service) (src : Source) (t : TableEntry) → Suits src t → allows t.access s ≡ true → is_read s ≡ true → t.length ≤ shown_length src
shown s (source.Computed view) t u a r = omega (arith, u.0)
shown s source.Initiate t u a r = use_of_lem t.access access.FullWrite s u.1 (λ w. read_or_write s r w) a
shown s source.Utility t u a r = omega (arith, u.1)
shown s (source.Staged w) t u a r = omega (arith, u.1)
shown s (source.Pending w) t u a r = omega (arith, u.0)
shown s (source.Log name) t u a r = omega (arith, u.0)

-- a table that is written is in a block of its own
own_current : (w : PendingTable) → OwnBlock (Some (current_block w))
own_current Calendar = (omega arith, omega arith)
own_current Outputs = (omega arith, omega arith)
own_current Override = (omega arith, omega arith)

utility_safe : (t : TableEntry) (from n : ℕ) → t.source ≡ source.Utility → t.block ≡ Some 1 → t.length ≡ 40 → from + n ≤ t.length → SafeWrite t from n
utility_safe t from n src at long fits =
    record { inside = fits; short = omega (arith, long); block = rw at (omega arith, omega arith); home = rw src (at, long) }

staged_safe : (w : PendingTable) (t : TableEntry) (from n : ℕ) → t.source ≡ source.Staged w → t.block ≡ Some (current_block w) → t.length ≡ staged_length w → from + n ≤ t.length → SafeWrite t from n
staged_safe w t from n src at long fits =
    record { inside = fits; short = omega (arith, long, staged_short w); block = rw at (own_current w); home = rw src (at, long) }

-- a full write
whole_safe : (src : Source) (t : TableEntry) (bytes : List ℕ) → t.source ≡ src → Suits src t → allows t.access FullWrite ≡ true → least t.length src ≤ length bytes → length bytes ≤ t.length → Safe (write_all src t bytes)
whole_safe (source.Computed view) t bytes e u a l m = use_of_lem t.access access.Read FullWrite u.1 (λ w. absurd (both_ways false refl w)) a
whole_safe source.Initiate t bytes e u a l m = (l, omega (arith, u.0))
whole_safe source.Utility t bytes e u a l m = utility_safe t 0 (length bytes) e u.0 u.1 (omega arith)
whole_safe (source.Staged w) t bytes e u a l m = staged_safe w t 0 (length bytes) e u.0 u.1 (omega arith)
whole_safe (source.Pending w) t bytes e u a l m = omega (arith, u.0)
whole_safe (source.Log name) t bytes e u a l m = use_of_lem t.access access.Read FullWrite u.1 (λ w. absurd (both_ways false refl w)) a

-- a partial write
part_safe : (src : Source) (t : TableEntry) (from n : ℕ) → t.source ≡ src → Suits src t → allows t.access PartialWrite ≡ true → from + n ≤ t.length → SafeWrite t from n
part_safe (source.Computed view) t from n e u a m = use_of_lem t.access access.Read PartialWrite u.1 (λ w. absurd (both_ways false refl w)) a
part_safe source.Initiate t from n e u a m = use_of_lem t.access access.FullWrite PartialWrite u.1 (λ w. absurd (both_ways false refl w)) a
part_safe source.Utility t from n e u a m = utility_safe t from n e u.0 u.1 m
part_safe (source.Staged w) t from n e u a m = staged_safe w t from n e u.0 u.1 m
part_safe (source.Pending w) t from n e u a m = use_of_lem t.access access.Pending PartialWrite u.1 (λ w. absurd (both_ways false refl w)) a
part_safe (source.Log name) t from n e u a m = use_of_lem t.access access.Read PartialWrite u.1 (λ w. absurd (both_ways false refl w)) a

-- what the verdicts on parts and counts say
counted : (t : TableEntry) (n : ℕ) (u : Unit {0}) → count_verdict t n ≡ Ok u → (least t.length t.source ≤ n) × (n ≤ t.length)
counted t n u h = go (leb (least t.length t.source) n && leb n t.length) refl h
  where
    go : (b : Bool) → (leb (least t.length t.source) n && leb n t.length) ≡ b → cond b (Ok tt) (Err BadPart) ≡ Ok u → (least t.length t.source ≤ n) × (n ≤ t.length)
    go true e k = let x = and_parts (leb (least t.length t.source) n) _ e in (leb-true _ n x.0, leb-true n t.length x.1)
    go false e k = absurd (never (sym k))

parted : (from count size : ℕ) (p : Part) → part_verdict from count size ≡ Ok p → (p.from + count ≤ size) × (p.count ≡ count)
parted from count size p h = go (eqb count 0 || ltb size (from + count)) refl h
  where
    go : (b : Bool) → (eqb count 0 || ltb size (from + count)) ≡ b → cond b (Err BadPart) (Ok (record { from = from; count = count })) ≡ Ok p → (p.from + count ≤ size) × (p.count ≡ count)
    go true e k = absurd (never (sym k))
    go false e k =
        let same : ◌≡◌ {A = Part} (record { from = from; count = count }) p = cc in
        (omega (arith, ap (λ (q : Part). q.from) same, ltb-false size (from + count) (or_parts (eqb count 0) _ e).1), ap (λ (q : Part). q.count) (sym same))

answerable_safe : (t : TableEntry) (p : Part) (d : Deed) → p.from + p.count ≤ t.length → t.length ≤ shown_length t.source → answerable t p ≡ Ok d → Safe d
answerable_safe t p d i l h = go (ltb 1024 p.count) refl h
  where
    go : (b : Bool) → ltb 1024 p.count ≡ b → cond b (Err BadPart) (Ok (reading t p)) ≡ Ok d → Safe d
    go true e k = absurd (never (sym k))
    go false e k = let same : reading t p ≡ d = ok_same k in rw (← same) (record { inside = i; few = omega (arith, ltb-false 1024 p.count e); shown = l })

fitted_safe : (t : TableEntry) (a : Ask) (d : Deed) → Usable (service_of a) t → fitted t a ≡ Ok d → Safe d
fitted_safe t (full_read table) d u h =
    answerable_safe t (whole_part t.length) d (omega arith) (shown FullRead t.source t u.suits u.allowed refl) h
fitted_safe t (partial_read table offset count) d u h =
    let x = then_ok (part_verdict offset count t.length) (answerable t) d h in
    let p = parted offset count t.length x.0 x.1 in
    answerable_safe t x.0 d (omega (arith, p.0, p.1)) (shown PartialRead t.source t u.suits u.allowed refl) x.2
fitted_safe t (full_write table bytes) d u h =
    let x = then_ok (count_verdict t (length bytes)) _ d h in
    let n = counted t (length bytes) x.0 x.1 in
    let same : write_all t.source t bytes ≡ d = ok_same x.2 in
    rw (← same) (whole_safe t.source t bytes refl u.suits u.allowed n.0 n.1)
fitted_safe t (partial_write table offset bytes) d u h =
    let x = then_ok (part_verdict offset (length bytes) t.length) _ d h in
    let same : writing t x.0.from bytes ≡ d = ok_same x.2 in
    rw (← same) (part_safe t.source t x.0.from (length bytes) refl u.suits u.allowed (parted offset (length bytes) t.length x.0 x.1).0)

-- what is found for a request and fits it
pub safe_to_act : (n : ℕ) (s : Service) (t : TableEntry) (a : Ask) (r : Result code.Deed ServiceFault) → ◌≡◌ {A = Result TableEntry ServiceFault} (Ok t) (table_for n s) → s ≡ service_of a → decided_as r ≡ fitted t a → IfOk r (λ d. Safe (deed_of d))
safe_to_act n s t a (Ok d) f same h =
    let found : Usable s t = found_usable n s (Ok t) f in
    fitted_safe t a (deed_of d) (rw same at found) (sym h)
safe_to_act n s t a (Err e) f same h = tt
