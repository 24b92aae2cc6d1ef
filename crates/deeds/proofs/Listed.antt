-- A table that a service may use suits its source.
use Rattle.std.proofs.Common.{◌≡◌, ℕ, ◌+◌, ◌-◌, Bool, true, false, cond, eqb, ltb, List, [], ◌∷◌, IfOk, Some, None, Ok, Err, Option, Result, sym, refl, arith}
use Rattle.numbers.specs.declared.service.Service.{Service}
use Rattle.refusals.specs.declared.fault.ServiceFault.{ServiceFault}
use Rattle.refusals.specs.declared.fault.ServiceFault.TheVariants.{NoSuchUse}
use Rattle.directory.specs.declared.entry.Access.TheVariants as access
use Rattle.directory.specs.declared.entry.Source.{Source}
use Rattle.directory.specs.declared.entry.Source.TheVariants as source
use Rattle.directory.specs.declared.entry.TableEntry.{TableEntry}
use Rattle.directory.specs.Tables.{entry, directory, lookup, listed, twin_from, twin_if, numbered, or_unknown, find_table}
use Rattle.directory.specs.Uses.{allows, usable, table_for}
use Rattle.model.proofs.Outcomes.{never, missing}
use Rattle.deeds.specs.Deeds.{Suits, Usable}

abbrev AllSuit : List TableEntry → Type 0
AllSuit [] = Unit {0}
AllSuit (t ∷ ts) = Suits t.source t × AllSuit ts

all_suit : AllSuit directory
all_suit = (
  (refl, refl),
  (
    (refl, refl),
    (
      (refl, refl),
      ((refl, refl), ((refl, refl), ((refl, refl), ((refl, refl), ((refl, refl), ((refl, refl), ((refl, refl), ((refl, refl), ((refl, refl), tt))))))))),
    ),
  ),
)

looked_up : (ts : List TableEntry) (n : ℕ) (t : TableEntry) → AllSuit ts → lookup ts n ≡ Some t → Suits t.source t
looked_up [] n t all h = absurd (missing (sym h))
looked_up (u ∷ us) n t all h = go (eqb u.number n) h (looked_up us n t all.1)
  where
    go : (b : Bool) → cond b (Some u) (lookup us n) ≡ Some t → (lookup us n ≡ Some t → Suits t.source t) → Suits t.source t
    go true k rest = let same : u ≡ t = cc in rw (← same) all.0
    go false k rest = rest k

listed_suits : (n : ℕ) (t : TableEntry) → listed n ≡ Some t → Suits t.source t
unfolding listed
listed_suits n t h = looked_up directory n t all_suit h

twin_suits : (n : ℕ) (u : TableEntry) (src : Source) (t : TableEntry) → Suits src u → twin_from n u.length u.pending src ≡ Some t → Suits t.source t
twin_suits n u (source.Computed v) t s h = absurd (missing (sym h))
twin_suits n u source.Initiate t s h = absurd (missing (sym h))
twin_suits n u source.Utility t s h = absurd (missing (sym h))
twin_suits n u (source.Staged w) t s h =
    let same : entry n (u.length + 6) None u.pending access.Pending (source.Pending w) ≡ t = cc in
    rw (← same) (omega (arith, s.1), refl)
twin_suits n u (source.Pending w) t s h = absurd (missing (sym h))
twin_suits n u (source.Log name) t s h = absurd (missing (sym h))

twins_suit : (n k : ℕ) (o : Option TableEntry) (t : TableEntry) → listed k ≡ o → twin_if n o ≡ Some t → Suits t.source t
twins_suit n k None t l h = absurd (missing (sym h))
twins_suit n k (Some u) t l h = twin_suits n u u.source t (listed_suits k u l) h

numbered_suits : (n : ℕ) (t : TableEntry) → numbered n ≡ Some t → Suits t.source t
numbered_suits n t h = go (ltb n 4096) h
  where
    go : (b : Bool) → cond b (listed n) (twin_if n (listed (n - 4096))) ≡ Some t → Suits t.source t
    go true k = listed_suits n t k
    go false k = twins_suit n (n - 4096) (listed (n - 4096)) t refl k

found_suits : (n : ℕ) (o : Option TableEntry) (t : TableEntry) → numbered n ≡ o → or_unknown n o ≡ Ok t → Suits t.source t
found_suits n None t e h = absurd (never (sym h))
found_suits n (Some u) t e h = let same : u ≡ t = cc in rw (← same) (numbered_suits n u e)

used : (n : ℕ) (s : Service) (r : Result TableEntry ServiceFault) (t : TableEntry) → find_table n ≡ r → usable r s ≡ Ok t → Usable s t
used n s (Err e) t f h = absurd (never (sym h))
used n s (Ok u) t f h = go (allows u.access s) refl h
  where
    go : (b : Bool) → allows u.access s ≡ b → cond b (Ok u) (Err NoSuchUse) ≡ Ok t → Usable s t
    go true e k = let same : u ≡ t = cc in rw (← same) (record { suits = found_suits n (numbered n) u refl f; allowed = e })
    go false e k = absurd (never (sym k))

pub found_usable : (n : ℕ) (s : Service) (r : Result TableEntry ServiceFault) → r ≡ table_for n s → IfOk r (Usable s)
found_usable n s (Ok t) h = used n s (find_table n) t refl (sym h)
found_usable n s (Err e) h = tt
