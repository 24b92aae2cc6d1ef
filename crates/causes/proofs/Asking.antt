-- The verdicts on a request: its form, the key, the table and the part.
use Rattle.std.proofs.Common.{◌≡◌, ℕ, zero, suc, ◌+◌, ◌%◌, ◌<◌, ◌≤◌, Bool, true, false, cond, ◌&&◌, ◌||◌, eqb, ltb, leb, ◌⊎◌, List, [], ◌∷◌, length, get_or, drop, Some, None, Ok, Err, sum, Option, sym, refl, ap, ◌∙◌, subst, ap₂, subst₂, inl, inr, arith}
use Rattle.std.proofs.lemmas.Bool.{eqb-true, eqb-false, ltb-true, ltb-false, leb-true, leb-false, both_ways, and_parts, and_cases, or_parts, or_cases}
use Rattle.fields.specs.Words.{big_word}
use Rattle.numbers.specs.declared.service.Key.{Key}
use Rattle.numbers.specs.declared.service.Key.TheVariants.{Reader, Master}
use Rattle.numbers.specs.declared.service.Service.{Service}
use Rattle.numbers.specs.declared.service.Service.TheVariants.{FullRead, PartialRead, FullWrite, PartialWrite}
use Rattle.numbers.specs.Names.{service_number, service_numbered, key_number, key_numbered}
use Rattle.refusals.specs.declared.cause.Cause.TheVariants as cause
use Rattle.refusals.specs.declared.fault.ServiceFault.TheVariants as service
use Rattle.refusals.specs.Refusals.{service_cause, service_place}
use Rattle.request.specs.declared.part.Part.{Part}
use Rattle.request.specs.Asks.{Ask, full_read, partial_read, full_write, partial_write, whole, by_service, ask_in, table_of, service_of}
use Rattle.request.specs.Parts.{whole_part}
use Rattle.directory.specs.declared.entry.TableEntry.{TableEntry}
use Rattle.directory.specs.Tables.{numbered, or_unknown}
use Rattle.directory.specs.Uses.{allows, usable, least}
use Rattle.model.specs.Requests.{Deed, reading, writing, and_then, keyed_read, keyed_write, key_verdict, answerable, write_all, fitted}
use Rattle.model.proofs.Outcomes.{missing, ok_same, some_same, first_right}
use Rattle.causes.specs.Firsts.{Impossible}
use Rattle.causes.specs.Possible.{EmptyRequest, Calls, Shaped, Misshapen, UnknownService, Cleared, Uncleared, UnknownTable, NoSuchUse, Fits, BadPart}
use Rattle.causes.proofs.Firsts.{Judged, judged_if, judged_unless, judged_first, judged_later, judged_ok, judged_err}

-- a number that is a name's
service_right : (n : ℕ) (s : Service) → service_numbered n ≡ Some s → service_number s ≡ n
service_right n s h = first_right service_number n (FullRead ∷ (PartialRead ∷ (FullWrite ∷ (PartialWrite ∷ [])))) s h

service_named : (s : Service) → service_numbered (service_number s) ≡ Some s
service_named FullRead = refl
service_named PartialRead = refl
service_named FullWrite = refl
service_named PartialWrite = refl

some_byte : (n : ℕ) → eqb n 0 ≡ false → 0 < n
some_byte zero e = absurd (eqb-false 0 0 e refl)
some_byte (suc n) e = omega arith

-- the form of a request
module _ (bs : List ℕ) where
  called_so : (s : Service) → Calls bs s → service_numbered (get_or bs 0 0) ≡ Some s
  called_so s calls = ap service_numbered (sym calls) ∙ service_named s

  shape_judged : (s : Service) → service_numbered (get_or bs 0 0) ≡ Some s → (b : Bool) (ask : Ask) → (b ≡ true → Shaped s bs) → (b ≡ false → Shaped s bs → ⊥) →
      Judged service_cause service_place ((cause.Malformed, Misshapen bs) ∷ []) (cond b (Ok ask) (Err service.Malformed))
  shape_judged s is b ask right wrong =
      judged_unless service_cause service_place b service.Malformed ask (cause.Malformed, Misshapen bs)
      (λ e. (refl, (s, service_right (get_or bs 0 0) s is, wrong e, refl)))
      (λ e place h. h.2 (subst (λ x. Shaped x bs) (some_same (sym is ∙ called_so h.0 h.1)) (right e)))

  whole_right : (head count : ℕ) → whole head count bs ≡ true → (length bs ≡ head + count + 1) × (sum (drop head bs) % 256 ≡ 0)
  whole_right head count e =
      let parts = and_parts (eqb (length bs) (head + count + 1)) _ e in (eqb-true _ _ parts.0, eqb-true _ _ parts.1)

  whole_wrong : (head count : ℕ) → whole head count bs ≡ false → (length bs ≡ head + count + 1) × (sum (drop head bs) % 256 ≡ 0) → ⊥
  whole_wrong head count e (long, check) = go (and_cases (eqb (length bs) (head + count + 1)) _ e)
    where
      go : (eqb (length bs) (head + count + 1) ≡ false) ⊎ (eqb (sum (drop head bs) % 256) 0 ≡ false) → ⊥
      go (inl x) = eqb-false _ _ x long
      go (inr x) = eqb-false _ _ x check

  form_judged : (s : Service) → service_numbered (get_or bs 0 0) ≡ Some s → Judged service_cause service_place ((cause.Malformed, Misshapen bs) ∷ []) (by_service (Some s) bs)
  form_judged FullRead is = shape_judged FullRead is (eqb (length bs) 3) _ (λ e. eqb-true _ _ e) (λ e. eqb-false _ _ e)
  form_judged PartialRead is = shape_judged PartialRead is (eqb (length bs) 8) _ (λ e. eqb-true _ _ e) (λ e. eqb-false _ _ e)
  form_judged FullWrite is = shape_judged FullWrite is (whole 5 (big_word 2 3 bs) bs) _ (whole_right 5 (big_word 2 3 bs)) (whole_wrong 5 (big_word 2 3 bs))
  form_judged PartialWrite is = shape_judged PartialWrite is (whole 8 (big_word 2 6 bs) bs) _ (whole_right 8 (big_word 2 6 bs)) (whole_wrong 8 (big_word 2 6 bs))

  service_judged : (o : Option Service) → service_numbered (get_or bs 0 0) ≡ o → 0 < length bs →
      Judged service_cause service_place ((cause.UnknownService, UnknownService bs) ∷ ((cause.Malformed, Misshapen bs) ∷ [])) (by_service o bs)
  service_judged None is some =
      judged_err service_cause service_place Ask service.UnknownService (cause.UnknownService, UnknownService bs) _
      (refl, (some, (λ s calls. missing (sym (called_so s calls) ∙ is)), refl))
  service_judged (Some s) is some =
      judged_later service_cause service_place (by_service (Some s) bs) (cause.UnknownService, UnknownService bs) _
      (λ place h. h.1 s (service_right (get_or bs 0 0) s is)) (form_judged s is)

  pub ask_judged : Judged service_cause service_place ((cause.Malformed, EmptyRequest bs) ∷ ((cause.UnknownService, UnknownService bs) ∷ ((cause.Malformed, Misshapen bs) ∷ []))) (ask_in bs)
  ask_judged =
      judged_first service_cause service_place (eqb (length bs) 0) service.Malformed _ (cause.Malformed, EmptyRequest bs) _
      (λ e. (refl, (eqb-true _ _ e, refl))) (λ e place h. eqb-false _ _ e h.0)
      (λ e. service_judged (service_numbered (get_or bs 0 0)) refl (some_byte (length bs) e))

key_right : (n : ℕ) (k : Key) → key_numbered n ≡ Some k → key_number k ≡ n
key_right n k h = first_right key_number n (Reader ∷ (Master ∷ [])) k h

key_named : (k : Key) (n : ℕ) → n ≡ key_number k → key_numbered n ≡ Some k
key_named Reader n e = rw e refl
key_named Master n e = rw e refl

other_keys : Reader ≡ Master → ⊥
other_keys h = let z : ◌≡◌ {A = ℕ} 0 1 = cc in omega arith

-- the key, the table and the part of a request that was read
module _ (bs : List ℕ) (ask : Ask) (is : ask_in bs ≡ Ok ask) where
  same_ask : (other : Ask) → ask_in bs ≡ Ok other → other ≡ ask
  same_ask other h = ok_same (sym h ∙ is)

  same_table : (t : TableEntry) → numbered (table_of ask) ≡ Some t → (other : Ask) → ask_in bs ≡ Ok other → (u : TableEntry) → numbered (table_of other) ≡ Some u → u ≡ t
  same_table t e other h u f = some_same (sym f ∙ (ap (λ (x : Ask). numbered (table_of x)) (same_ask other h) ∙ e))

  clear : (key : ℕ) → Cleared key (service_of ask) → Judged {X = Unit {0}} service_cause service_place ((cause.Clearance, Uncleared key bs) ∷ []) (Ok tt)
  clear key may =
      judged_ok service_cause service_place tt (cause.Clearance, Uncleared key bs)
      (λ place h. h.2 (subst (λ (x : Ask). Cleared key (service_of x)) (sym (same_ask h.0 h.1)) may))

  unclear : (key : ℕ) → (Cleared key (service_of ask) → ⊥) → Judged {X = Unit {0}} service_cause service_place ((cause.Clearance, Uncleared key bs) ∷ []) (Err service.Clearance)
  unclear key not = judged_err service_cause service_place (Unit {0}) service.Clearance (cause.Clearance, Uncleared key bs) [] (refl, (ask, is, not, refl))

  read_judged : (key : ℕ) (o : Option Key) → key_numbered key ≡ o → (Cleared key (service_of ask) → (key ≡ key_number Reader) ⊎ (key ≡ key_number Master)) → ((key ≡ key_number Reader) ⊎ (key ≡ key_number Master) → Cleared key (service_of ask)) →
      Judged service_cause service_place ((cause.Clearance, Uncleared key bs) ∷ []) (keyed_read o)
  read_judged key None e to from = unclear key (λ may. go (to may))
    where
      go : (key ≡ key_number Reader) ⊎ (key ≡ key_number Master) → ⊥
      go (inl k) = missing (sym (key_named Reader key k) ∙ e)
      go (inr k) = missing (sym (key_named Master key k) ∙ e)
  read_judged key (Some Reader) e to from = clear key (from (inl (sym (key_right key Reader e))))
  read_judged key (Some Master) e to from = clear key (from (inr (sym (key_right key Master e))))

  write_judged : (key : ℕ) (o : Option Key) → key_numbered key ≡ o → (Cleared key (service_of ask) → key ≡ key_number Master) → (key ≡ key_number Master → Cleared key (service_of ask)) →
      Judged service_cause service_place ((cause.Clearance, Uncleared key bs) ∷ []) (keyed_write o)
  write_judged key None e to from = unclear key (λ may. missing (sym (key_named Master key (to may)) ∙ e))
  write_judged key (Some Reader) e to from = unclear key (λ may. other_keys (some_same (sym e ∙ key_named Master key (to may))))
  write_judged key (Some Master) e to from = clear key (from (sym (key_right key Master e)))

  pub table_judged : (o : Option TableEntry) → numbered (table_of ask) ≡ o →
      Judged service_cause service_place ((cause.UnknownTable, UnknownTable bs) ∷ ((cause.NoSuchUse, NoSuchUse bs) ∷ [])) (usable (or_unknown (table_of ask) o) (service_of ask))
  table_judged None e = judged_err service_cause service_place TableEntry (service.UnknownTable (table_of ask)) (cause.UnknownTable, UnknownTable bs) _ (refl, (ask, is, e, refl))
  table_judged (Some t) e =
      judged_later service_cause service_place _ (cause.UnknownTable, UnknownTable bs) _
      (λ place h. missing (sym e ∙ (ap (λ (x : Ask). numbered (table_of x)) (sym (same_ask h.0 h.1)) ∙ h.2)))
      (judged_unless service_cause service_place (allows t.access (service_of ask)) service.NoSuchUse t (cause.NoSuchUse, NoSuchUse bs)
      (λ q. (refl, (ask, is, t, e, q, refl)))
      (λ q place h. both_ways (allows t.access (service_of ask)) (ap₂ (λ (v : TableEntry) (x : Ask). allows v.access (service_of x)) (sym (same_table t e h.0 h.1 h.2 h.3)) (sym (same_ask h.0 h.1)) ∙ h.4) q))

  module _ (t : TableEntry) (e : numbered (table_of ask) ≡ Some t) (use' : allows t.access (service_of ask) ≡ true) where
    fit : Fits t ask → Impossible (cause.BadPart, BadPart bs)
    fit fits place h = h.5 (subst₂ Fits (sym (same_table t e h.0 h.1 h.2 h.3)) (sym (same_ask h.0 h.1)) fits)

    unfit : (Fits t ask → ⊥) → (service_cause service.BadPart ≡ cause.BadPart) × BadPart bs 0
    unfit not = (refl, (ask, is, t, e, use', not, refl))

    part_if : (b : Bool) (d : Deed) → (b ≡ true → Fits t ask → ⊥) → (b ≡ false → Fits t ask) → Judged service_cause service_place ((cause.BadPart, BadPart bs) ∷ []) (cond b (Err service.BadPart) (Ok d))
    part_if b d not fits = judged_if service_cause service_place b service.BadPart d (cause.BadPart, BadPart bs) (λ q. unfit (not q)) (λ q. fit (fits q))

    no_part : (Fits t ask → ⊥) → Judged {X = Deed} service_cause service_place ((cause.BadPart, BadPart bs) ∷ []) (Err service.BadPart)
    no_part not = judged_err service_cause service_place Deed service.BadPart (cause.BadPart, BadPart bs) [] (unfit not)

    a_part : (d : Deed) → Fits t ask → Judged service_cause service_place ((cause.BadPart, BadPart bs) ∷ []) (Ok d)
    a_part d fits = judged_ok service_cause service_place d (cause.BadPart, BadPart bs) (fit fits)

outside : (from count size : ℕ) → (eqb count 0 || ltb size (from + count)) ≡ true → 0 < count → from + count ≤ size → ⊥
outside from count size q some ends = go (or_cases (eqb count 0) _ q)
  where
    go : (eqb count 0 ≡ true) ⊎ (ltb size (from + count) ≡ true) → ⊥
    go (inl x) = omega (arith, eqb-true _ _ x)
    go (inr x) = omega (arith, ltb-true _ _ x)

within : (from count size : ℕ) → (eqb count 0 || ltb size (from + count)) ≡ false → (0 < count) × (from + count ≤ size)
within from count size q = let parts = or_parts (eqb count 0) _ q in (some_byte count parts.0, ltb-false _ _ parts.1)

pub fitted_judged : (bs : List ℕ) (ask : Ask) → ask_in bs ≡ Ok ask → (t : TableEntry) → numbered (table_of ask) ≡ Some t → allows t.access (service_of ask) ≡ true → Judged service_cause service_place ((cause.BadPart, BadPart bs) ∷ []) (fitted t ask)
fitted_judged bs (full_read table) is t e u =
    part_if bs _ is t e u (ltb 1024 t.length) (reading t (whole_part t.length)) (λ q fits. omega (arith, ltb-true _ _ q, fits)) (λ q. ltb-false _ _ q)
fitted_judged bs (partial_read table offset count) is t e u = go (eqb count 0 || ltb t.length (offset + count)) refl
  where
    go : (b : Bool) → (eqb count 0 || ltb t.length (offset + count)) ≡ b →
        Judged service_cause service_place ((cause.BadPart, BadPart bs) ∷ []) (and_then (cond b (Err service.BadPart) (Ok (record { from = offset; count = count }))) (answerable t))
    go true q = no_part bs _ is t e u (λ fits. outside offset count t.length q fits.0 fits.1)
    go false q =
        let inside = within offset count t.length q in
        part_if bs _ is t e u (ltb 1024 count) (reading t (record { from = offset; count = count })) (λ r fits. omega (arith, ltb-true _ _ r, fits.2)) (λ r. (inside.0, inside.1, ltb-false _ _ r))
fitted_judged bs (full_write table bytes) is t e u = go (leb (least t.length t.source) (length bytes) && leb (length bytes) t.length) refl
  where
    wrong : (leb (least t.length t.source) (length bytes) ≡ false) ⊎ (leb (length bytes) t.length ≡ false) → Fits t (full_write table bytes) → ⊥
    wrong (inl x) fits = omega (arith, leb-false _ _ x, fits.0)
    wrong (inr x) fits = omega (arith, leb-false _ _ x, fits.1)

    go : (b : Bool) → (leb (least t.length t.source) (length bytes) && leb (length bytes) t.length) ≡ b →
        Judged service_cause service_place ((cause.BadPart, BadPart bs) ∷ []) (and_then (cond b (Ok tt) (Err service.BadPart)) (λ (_ : Unit {0}). Ok (write_all t.source t bytes)))
    go true q = let parts = and_parts (leb (least t.length t.source) (length bytes)) _ q in a_part bs _ is t e u (write_all t.source t bytes) (leb-true _ _ parts.0, leb-true _ _ parts.1)
    go false q = no_part bs _ is t e u (wrong (and_cases (leb (least t.length t.source) (length bytes)) _ q))
fitted_judged bs (partial_write table offset bytes) is t e u = go (eqb (length bytes) 0 || ltb t.length (offset + length bytes)) refl
  where
    go : (b : Bool) → (eqb (length bytes) 0 || ltb t.length (offset + length bytes)) ≡ b →
        Judged service_cause service_place ((cause.BadPart, BadPart bs) ∷ []) (and_then (cond b (Err service.BadPart) (Ok (record { from = offset; count = length bytes }))) (λ (p : Part). Ok (writing t p.from bytes)))
    go true q = no_part bs _ is t e u (λ fits. outside offset (length bytes) t.length q fits.0 fits.1)
    go false q = a_part bs _ is t e u (writing t offset bytes) (within offset (length bytes) t.length q)

pub key_judged : (key : ℕ) (bs : List ℕ) (ask : Ask) → ask_in bs ≡ Ok ask → Judged service_cause service_place ((cause.Clearance, Uncleared key bs) ∷ []) (key_verdict key ask)
key_judged key bs (full_read table) is = read_judged bs _ is key (key_numbered key) refl (λ k. k) (λ k. k)
key_judged key bs (partial_read table offset count) is = read_judged bs _ is key (key_numbered key) refl (λ k. k) (λ k. k)
key_judged key bs (full_write table bytes) is = write_judged bs _ is key (key_numbered key) refl (λ k. k) (λ k. k)
key_judged key bs (partial_write table offset bytes) is = write_judged bs _ is key (key_numbered key) refl (λ k. k) (λ k. k)
