-- Every table of the directory, and every twin, is told by where its bytes come from.
use Rattle.std.proofs.Common.{◌≡◌, ℕ, ◌+◌, ◌-◌, ◌≤◌, Bool, true, false, cond, eqb, ltb, List, [], ◌∷◌, Some, None, Ok, Err, Option, Result, sym, refl, ap, ◌∙◌, arith}
use Rattle.std.proofs.lemmas.Bool.{eqb-true, ltb-false}
use Rattle.numbers.specs.declared.log.LogName.TheVariants.{History, SelfReads, LoadProfile}
use Rattle.numbers.specs.declared.service.Service.{Service}
use Rattle.refusals.specs.declared.fault.ServiceFault.{ServiceFault}
use Rattle.refusals.specs.declared.fault.ServiceFault.TheVariants.{NoSuchUse}
use Rattle.logs.specs.Tables.{table_length}
use Rattle.pending.specs.Tables.{table_number}
use Rattle.directory.specs.declared.entry.View.TheVariants.{PendingStatus, Response, Registers, Clock}
use Rattle.directory.specs.declared.entry.Access.{Access}
use Rattle.directory.specs.declared.entry.Access.TheVariants as access
use Rattle.directory.specs.declared.entry.Source.{Source}
use Rattle.directory.specs.declared.entry.Source.TheVariants as source
use Rattle.directory.specs.declared.entry.TableEntry.{TableEntry}
use Rattle.directory.specs.Geometry.{log_place, staged_length, current_block, pending_block}
use Rattle.directory.specs.Tables.{entry, directory, lookup, listed, twin_from, twin_if, numbered, or_unknown, find_table}
use Rattle.directory.specs.Uses.{allows, usable, table_for}
use Rattle.model.proofs.Outcomes.{never, missing, ok_same}

abbrev pub number_of : Source → ℕ
number_of (source.Computed PendingStatus) = 4
number_of (source.Computed Response) = 8
number_of (source.Computed Registers) = 23
number_of (source.Computed Clock) = 52
number_of source.Initiate = 7
number_of source.Utility = 6
number_of (source.Staged t) = table_number t
number_of (source.Pending t) = 4096 + table_number t
number_of (source.Log History) = 74
number_of (source.Log SelfReads) = 26
number_of (source.Log LoadProfile) = 64

abbrev pub length_of : Source → ℕ
length_of (source.Computed PendingStatus) = 31
length_of (source.Computed Response) = 4
length_of (source.Computed Registers) = 20
length_of (source.Computed Clock) = 6
length_of source.Initiate = 9
length_of source.Utility = 40
length_of (source.Staged t) = staged_length t
length_of (source.Pending t) = staged_length t + 6
length_of (source.Log name) = table_length (log_place name)

abbrev pub block_of : Source → Option ℕ
block_of (source.Computed view) = None
block_of source.Initiate = None
block_of source.Utility = Some 1
block_of (source.Staged t) = Some (current_block t)
block_of (source.Pending t) = None
block_of (source.Log name) = Some (log_place name).first

abbrev pub twin_block : Source → Option ℕ
twin_block (source.Computed view) = None
twin_block source.Initiate = None
twin_block source.Utility = None
twin_block (source.Staged t) = Some (pending_block t)
twin_block (source.Pending t) = Some (pending_block t)
twin_block (source.Log name) = None

abbrev pub use_of : Source → Access
use_of (source.Computed view) = access.Read
use_of source.Initiate = access.FullWrite
use_of source.Utility = access.ReadWrite
use_of (source.Staged t) = access.ReadWrite
use_of (source.Pending t) = access.Pending
use_of (source.Log name) = access.Read

abbrev pub entry_of : Source → TableEntry
entry_of src = entry (number_of src) (length_of src) (block_of src) (twin_block src) (use_of src) src

abbrev Filed : ℕ → TableEntry → Type 0
Filed n t = (t ≡ entry_of t.source) × (t.number ≡ n)

abbrev AllFiled : List TableEntry → Type 0
AllFiled [] = Unit {0}
AllFiled (t ∷ ts) = (t ≡ entry_of t.source) × AllFiled ts

directory_filed : AllFiled directory
directory_filed = (refl, (refl, (refl, (refl, (refl, (refl, (refl, (refl, (refl, (refl, (refl, (refl, tt))))))))))))

looked_up : (ts : List TableEntry) (n : ℕ) (t : TableEntry) → AllFiled ts → lookup ts n ≡ Some t → Filed n t
looked_up [] n t f h = absurd (missing (sym h))
looked_up (u ∷ us) n t f h = go (eqb u.number n) refl h (looked_up us n t f.1)
  where
    go : (b : Bool) → eqb u.number n ≡ b → cond b (Some u) (lookup us n) ≡ Some t → (lookup us n ≡ Some t → Filed n t) → Filed n t
    go true q e rest = let same : u ≡ t = cc in rw (← same) (f.0, eqb-true _ _ q)
    go false q e rest = rest e

listed_filed : (n : ℕ) (t : TableEntry) → listed n ≡ Some t → Filed n t
unfolding listed
listed_filed n t h = looked_up directory n t directory_filed h

twin_filed : (n l : ℕ) (q : Option ℕ) (src : Source) (t : TableEntry) → l ≡ length_of src → q ≡ twin_block src → number_of src ≡ n - 4096 → 4096 ≤ n → twin_from n l q src ≡ Some t → Filed n t
twin_filed n l q (source.Computed v) t a b c d h = absurd (missing (sym h))
twin_filed n l q source.Initiate t a b c d h = absurd (missing (sym h))
twin_filed n l q source.Utility t a b c d h = absurd (missing (sym h))
twin_filed n l q (source.Staged table) t a b c d h =
    let same : entry n (l + 6) None q access.Pending (source.Pending table) ≡ t = cc in
    let number : n ≡ 4096 + table_number table = omega arith in
    rw (← same) (rw (a, b) (ap (λ k. entry k (staged_length table + 6) None (Some (pending_block table)) access.Pending (source.Pending table)) number), refl)
twin_filed n l q (source.Pending table) t a b c d h = absurd (missing (sym h))
twin_filed n l q (source.Log name) t a b c d h = absurd (missing (sym h))

twins_filed : (n : ℕ) (o : Option TableEntry) (t : TableEntry) → listed (n - 4096) ≡ o → 4096 ≤ n → twin_if n o ≡ Some t → Filed n t
twins_filed n None t e d h = absurd (missing (sym h))
twins_filed n (Some u) t e d h =
    let f = listed_filed (n - 4096) u e in
    twin_filed n u.length u.pending u.source t (ap (λ (x : TableEntry). x.length) f.0) (ap (λ (x : TableEntry). x.pending) f.0) (ap (λ (x : TableEntry). x.number) (sym f.0) ∙ f.1) d h

numbered_filed : (n : ℕ) (t : TableEntry) → numbered n ≡ Some t → Filed n t
numbered_filed n t h = go (ltb n 4096) refl h
  where
    go : (b : Bool) → ltb n 4096 ≡ b → cond b (listed n) (twin_if n (listed (n - 4096))) ≡ Some t → Filed n t
    go true q e = listed_filed n t e
    go false q e = twins_filed n (listed (n - 4096)) t refl (ltb-false n 4096 q) e

pub known_some : (n : ℕ) (o : Option TableEntry) (t : TableEntry) → or_unknown n o ≡ Ok t → o ≡ Some t
known_some n None t h = absurd (never (sym h))
known_some n (Some u) t h = ap Some (ok_same h)

-- what is found under a number is that source's entry, and the number is its own
pub found : (n : ℕ) (t : TableEntry) → find_table n ≡ Ok t → (t ≡ entry_of t.source) × (number_of t.source ≡ n)
found n t h =
    let f = numbered_filed n t (known_some n (numbered n) t h) in
    (f.0, ap (λ (x : TableEntry). x.number) (sym f.0) ∙ f.1)

-- what a service may use was found, and the service is one of its uses
pub used_if : (s : Service) (r : Result TableEntry ServiceFault) (t : TableEntry) → usable r s ≡ Ok t → (r ≡ Ok t) × (allows t.access s ≡ true)
used_if s (Err e) t h = absurd (never (sym h))
used_if s (Ok u) t h = go (allows u.access s) refl h
  where
    go : (b : Bool) → allows u.access s ≡ b → cond b (Ok u) (Err NoSuchUse) ≡ Ok t → (◌≡◌ {A = Result TableEntry ServiceFault} (Ok u) (Ok t)) × (allows t.access s ≡ true)
    go true e k = let same : u ≡ t = ok_same k in (ap Ok same, rw (← same) e)
    go false e k = absurd (never (sym k))

pub used : (n : ℕ) (s : Service) (t : TableEntry) → table_for n s ≡ Ok t → (find_table n ≡ Ok t) × (allows t.access s ≡ true)
used n s t h = used_if s (find_table n) t h
