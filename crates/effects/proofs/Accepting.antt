-- What an accepted request went through, and what serving it leaves.
use Rattle.std.proofs.Common.{◌≡◌, ℕ, List, length, Ok, Err, Result, sym, refl, ap, ◌∙◌, subst}
use Rattle.fields.specs.Patches.{overlay}
use Rattle.refusals.specs.declared.fault.ServiceFault.{ServiceFault}
use Rattle.request.specs.Answers.{buffer_verdict}
use Rattle.request.specs.Asks.{Ask, ask_in, table_of}
use Rattle.directory.specs.declared.entry.TableEntry.{TableEntry}
use Rattle.directory.specs.Tables.{find_table}
use Rattle.model.specs.States.{Meter}
use Rattle.model.specs.Requests.{Deed}
use Rattle.model.specs.Serving.{Served, performed, admitted, answered, served_if, served}
use Rattle.model.proofs.Accepting.{Accepted, accepted, Known, known}
use Rattle.model.proofs.Outcomes.{never, ok_same}

-- what an accepted request went through, of a request and a table that are known
pub accepted_as : (key : ℕ) (bytes : List ℕ) (m : Meter) (a : Ask) (t : TableEntry) (d : Deed) → ask_in bytes ≡ Ok a → find_table (table_of a) ≡ Ok t → admitted key bytes m ≡ Ok d → Accepted m a t d
accepted_as key bytes m a t d ask table h =
    let x = accepted key bytes m d h in
    let same_ask : x.0 ≡ a = ok_same (sym x.2 ∙ ask) in
    let same_table : x.1 ≡ t = ok_same (sym x.3 ∙ ap (λ b. find_table (table_of b)) same_ask ∙ table) in
    subst (λ b. Accepted m b t d) same_ask (subst (λ u. Accepted m x.0 u d) same_table x.4)

pub known_as : (key : ℕ) (bytes : List ℕ) (m : Meter) (a : Ask) (t : TableEntry) (d : Deed) → ask_in bytes ≡ Ok a → find_table (table_of a) ≡ Ok t → admitted key bytes m ≡ Ok d → Known m a t.source d
known_as key bytes m a t d ask find h = known m a t d find (accepted_as key bytes m a t d ask find h)

-- serving leaves the meter, or what an admitted deed makes of it
answered_leaves : (P : Meter → Type 0) (v : Result Deed ServiceFault) (m : Meter) (answer scratch : List ℕ) → P m → ((d : Deed) → v ≡ Ok d → P (performed d m).meter) → P (answered v m answer scratch).meter
answered_leaves P (Ok d) m answer scratch p then = then d refl
answered_leaves P (Err e) m answer scratch p then = p

served_if_lem : (P : Meter → Type 0) (v : Result (Unit {0}) ServiceFault) (key : ℕ) (bytes : List ℕ) (m : Meter) (answer scratch : List ℕ) → P m → ((d : Deed) → admitted key bytes m ≡ Ok d → P (performed d m).meter) → P (served_if v key bytes m answer scratch).meter
served_if_lem P (Ok x) key bytes m answer scratch p then = answered_leaves P (admitted key bytes m) m answer scratch p then
served_if_lem P (Err e) key bytes m answer scratch p then = p

pub served_leaves : (P : Meter → Type 0) (key : ℕ) (bytes : List ℕ) (m : Meter) (answer scratch : List ℕ) → P m → ((d : Deed) → admitted key bytes m ≡ Ok d → P (performed d m).meter) → P (served key bytes m answer scratch).meter
served_leaves P key bytes m answer scratch p then = served_if_lem P (buffer_verdict (length answer) (length scratch)) key bytes m answer scratch p then

-- a request that is answered was admitted to a deed, and the answer and the meter are those of the deed
pub record Answered (key : ℕ) (bytes : List ℕ) (m : Meter) (answer : List ℕ) (count : ℕ) (now : Served) : Type 0 where
  pub deed : Deed
  pub admits : admitted key bytes m ≡ Ok deed
  pub long : count ≡ length (performed deed m).bytes
  pub answers : now.answer ≡ overlay (performed deed m).bytes answer
  pub meter : now.meter ≡ (performed deed m).meter

answered_ok : (key : ℕ) (bytes : List ℕ) (m : Meter) (answer scratch : List ℕ) (count : ℕ) (w : Result Deed ServiceFault) → admitted key bytes m ≡ w → (answered w m answer scratch).result ≡ Ok count → Answered key bytes m answer count (answered w m answer scratch)
answered_ok key bytes m answer scratch count (Ok d) e h = record { deed = d; admits = e; long = sym (ok_same h); answers = refl; meter = refl }
answered_ok key bytes m answer scratch count (Err f) e h = absurd (never (sym h))

served_ok_if : (key : ℕ) (bytes : List ℕ) (m : Meter) (answer scratch : List ℕ) (count : ℕ) (v : Result (Unit {0}) ServiceFault) → (served_if v key bytes m answer scratch).result ≡ Ok count → Answered key bytes m answer count (served_if v key bytes m answer scratch)
served_ok_if key bytes m answer scratch count (Ok x) h = answered_ok key bytes m answer scratch count (admitted key bytes m) refl h
served_ok_if key bytes m answer scratch count (Err e) h = absurd (never (sym h))

pub served_ok : (key : ℕ) (bytes : List ℕ) (m : Meter) (answer scratch : List ℕ) (count : ℕ) → (served key bytes m answer scratch).result ≡ Ok count → Answered key bytes m answer count (served key bytes m answer scratch)
served_ok key bytes m answer scratch count h = served_ok_if key bytes m answer scratch count (buffer_verdict (length answer) (length scratch)) h
