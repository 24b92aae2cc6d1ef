-- What an admitted request went through, and what it is admitted to.
use Rattle.std.proofs.Common.{◌≡◌, ℕ, ◌+◌, ◌≤◌, Bool, true, false, cond, ◌&&◌, ◌||◌, eqb, ltb, leb, List, length, Ok, Err, Result, sym, refl, ap, ◌∙◌, subst}
use Rattle.std.proofs.lemmas.Bool.{and_parts, leb-true, or_parts, ltb-false}
use Rattle.access.specs.Ready.{ready_verdict}
use Rattle.refusals.specs.declared.fault.ServiceFault.{ServiceFault}
use Rattle.refusals.specs.declared.fault.ServiceFault.TheVariants.{BadPart}
use Rattle.request.specs.Asks.{Ask, full_read, partial_read, full_write, partial_write, ask_in, table_of, service_of}
use Rattle.request.specs.declared.part.Part.{Part}
use Rattle.request.specs.Parts.{whole_part, part_verdict}
use Rattle.directory.specs.declared.entry.Source.{Source}
use Rattle.directory.specs.declared.entry.TableEntry.{TableEntry}
use Rattle.directory.specs.Tables.{find_table}
use Rattle.directory.specs.Uses.{allows, table_for, least, count_verdict}
use Rattle.model.specs.States.{Meter}
use Rattle.model.specs.Calls.{of_memory}
use Rattle.model.specs.Requests.{Deed, reading, writing, and_then, answerable, write_all, key_verdict, fitted, decided, content_verdict, present_verdict}
use Rattle.model.specs.Serving.{head_of, of_meter, limited, admitted}
use Rattle.model.proofs.FoundTables.{number_of, use_of, entry_of, found, used}
use Rattle.model.proofs.Outcomes.{never, ok_same}

-- where a chain does not refuse, none of its links does
pub then_ok : {X Y : Type 0} (v : Result X ServiceFault) (f : X → Result Y ServiceFault) (y : Y) → and_then v f ≡ Ok y → (x : X) × (v ≡ Ok x) × (f x ≡ Ok y)
then_ok (Ok x) f y h = (x, refl, h)
then_ok (Err e) f y h = absurd (never (sym h))

-- what is known of a request, its table and the deed that it is admitted to
pub record Accepted (m : Meter) (a : Ask) (t : TableEntry) (d : Deed) : Type 0 where
  pub allowed : allows t.access (service_of a) ≡ true
  pub fit : fitted t a ≡ Ok d
  pub right : content_verdict d m.clock m.blocks ≡ Ok tt
  pub present : present_verdict d m.response (head_of m) ≡ Ok tt
  pub limit : limited d m.blocks ≡ Ok tt

pub accepted : (key : ℕ) (bytes : List ℕ) (m : Meter) (d : Deed) → admitted key bytes m ≡ Ok d → (a : Ask) × (t : TableEntry) × (ask_in bytes ≡ Ok a) × (find_table (table_of a) ≡ Ok t) × Accepted m a t d
accepted key bytes m d h =
    let ready = then_ok (of_meter (of_memory (ready_verdict m.blocks))) _ d h in
    let deed = then_ok (decided key bytes) _ d ready.2 in
    let content = then_ok (content_verdict deed.0 m.clock m.blocks) _ d deed.2 in
    let present = then_ok (present_verdict deed.0 m.response (head_of m)) _ d content.2 in
    let limit = then_ok (limited deed.0 m.blocks) _ d present.2 in
    let same : deed.0 ≡ d = ok_same limit.2 in
    let asked = then_ok (ask_in bytes) _ deed.0 deed.1 in
    let a = asked.0 in
    let keyed = then_ok (key_verdict key a) _ deed.0 asked.2 in
    let table = then_ok (table_for (table_of a) (service_of a)) (λ t. fitted t a) deed.0 keyed.2 in
    let u = used (table_of a) (service_of a) table.0 table.1 in
    (a, table.0, asked.1, u.0, subst (λ x. Accepted m asked.0 table.0 x) same (record { allowed = u.1; fit = table.2; right = content.1; present = present.1; limit = limit.1 }))

-- what a request that fits its table is decided to do
abbrev pub Fits : TableEntry → Ask → Deed → Type 0
Fits t (full_read table) d = (d ≡ reading t (whole_part t.length)) × (t.length ≤ 1024)
Fits t (partial_read table offset count) d = (d ≡ reading t (record { from = offset; count = count })) × (offset + count ≤ t.length) × (count ≤ 1024)
Fits t (full_write table content) d = (d ≡ write_all t.source t content) × (least t.length t.source ≤ length content) × (length content ≤ t.length)
Fits t (partial_write table offset content) d = (d ≡ writing t offset content) × (offset + length content ≤ t.length)

answerable_fits : (t : TableEntry) (p : Part) (d : Deed) → answerable t p ≡ Ok d → (d ≡ reading t p) × (p.count ≤ 1024)
answerable_fits t p d h = go (ltb 1024 p.count) refl h
  where
    go : (b : Bool) → ltb 1024 p.count ≡ b → cond b (Err BadPart) (Ok (reading t p)) ≡ Ok d → (d ≡ reading t p) × (p.count ≤ 1024)
    go true e k = absurd (never (sym k))
    go false e k = (sym (ok_same k), ltb-false 1024 p.count e)

counted : (t : TableEntry) (n : ℕ) (u : Unit {0}) → count_verdict t n ≡ Ok u → (least t.length t.source ≤ n) × (n ≤ t.length)
counted t n u h = go (leb (least t.length t.source) n && leb n t.length) refl h
  where
    go : (b : Bool) → (leb (least t.length t.source) n && leb n t.length) ≡ b → cond b (Ok tt) (Err BadPart) ≡ Ok u → (least t.length t.source ≤ n) × (n ≤ t.length)
    go true e k = let parts = and_parts (leb (least t.length t.source) n) _ e in (leb-true _ _ parts.0, leb-true _ _ parts.1)
    go false e k = absurd (never (sym k))

parted : (from count size : ℕ) (p : Part) → part_verdict from count size ≡ Ok p → (p ≡ record { from = from; count = count }) × (from + count ≤ size)
parted from count size p h = go (eqb count 0 || ltb size (from + count)) refl h
  where
    go : (b : Bool) → (eqb count 0 || ltb size (from + count)) ≡ b → cond b (Err BadPart) (Ok (record { from = from; count = count })) ≡ Ok p → (p ≡ record { from = from; count = count }) × (from + count ≤ size)
    go true e k = absurd (never (sym k))
    go false e k = (sym (ok_same k), ltb-false size (from + count) (or_parts (eqb count 0) _ e).1)

pub fits : (t : TableEntry) (a : Ask) (d : Deed) → fitted t a ≡ Ok d → Fits t a d
fits t (full_read table) d h = answerable_fits t (whole_part t.length) d h
fits t (partial_read table offset count) d h =
    let x = then_ok (part_verdict offset count t.length) (answerable t) d h in
    let p = parted offset count t.length x.0 x.1 in
    let r = answerable_fits t x.0 d x.2 in
    (r.0 ∙ ap (reading t) p.0, p.1, subst (λ (q : Part). q.count ≤ 1024) p.0 r.1)
fits t (full_write table content) d h =
    let x = then_ok (count_verdict t (length content)) _ d h in
    let c = counted t (length content) x.0 x.1 in
    (sym (ok_same x.2), c.0, c.1)
fits t (partial_write table offset content) d h =
    let x = then_ok (part_verdict offset (length content) t.length) _ d h in
    let p = parted offset (length content) t.length x.0 x.1 in
    (sym (ok_same x.2) ∙ ap (λ (q : Part). writing t q.from content) p.0, p.1)

-- the same by the source of the table, which tells the rest of it
pub record Known (m : Meter) (a : Ask) (src : Source) (d : Deed) : Type 0 where
  pub number : number_of src ≡ table_of a
  pub allowed : allows (use_of src) (service_of a) ≡ true
  pub fit : Fits (entry_of src) a d
  pub right : content_verdict d m.clock m.blocks ≡ Ok tt
  pub present : present_verdict d m.response (head_of m) ≡ Ok tt
  pub limit : limited d m.blocks ≡ Ok tt

pub known : (m : Meter) (a : Ask) (t : TableEntry) (d : Deed) → find_table (table_of a) ≡ Ok t → Accepted m a t d → Known m a t.source d
known m a t d find acc =
    let f = found (table_of a) t find in
    record {
      number = f.1;
      allowed = ap (λ (u : TableEntry). allows u.access (service_of a)) (sym f.0) ∙ acc.allowed;
      fit = subst (λ u. Fits u a d) f.0 (fits t a d acc.fit);
      right = acc.right;
      present = acc.present;
      limit = acc.limit;
    }

pub accepted_from : (key : ℕ) (bytes : List ℕ) (m : Meter) (d : Deed) → admitted key bytes m ≡ Ok d → (a : Ask) × (src : Source) × (ask_in bytes ≡ Ok a) × Known m a src d
accepted_from key bytes m d h = let x = accepted key bytes m d h in (x.0, x.1.source, x.2, known m x.0 x.1 d x.3 x.4)
