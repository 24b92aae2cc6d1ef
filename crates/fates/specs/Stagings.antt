-- Stagings: what happens to them, what memory shows of them, and the account that a ledger keeps of them.
use Rattle.std.specs.Prelude.{◌≡◌, ℕ, Bool, true, false, cond, ◌&&◌, List, [], ◌∷◌, ◌++◌, map, nat_le}
use Rattle.fields.specs.Patches.{patch}
use Rattle.pending.specs.declared.table.PendingTable.{PendingTable}
use Rattle.pending.specs.declared.table.PendingTable.TheVariants.{Calendar, Outputs, Override}
use Rattle.pending.specs.declared.trigger.Due.{Due}
use Rattle.pending.specs.declared.trigger.Due.TheVariants.{At, ByCommand}

-- A table that waits: its six trigger bytes, when it takes force, and its bytes.
pub record Pending : Type 0 where
  pub trigger : List ℕ
  pub due : Due
  pub bytes : List ℕ

-- What happens to stagings and to the tables that can be staged. Only what was accepted happens.
pub data Happening : Type 0 where
  staged : PendingTable → Pending → Happening
  written : PendingTable → ℕ → List ℕ → Happening
  withdrew_all : Happening
  withdrew : PendingTable → Happening
  activated_all : Happening
  activated : PendingTable → Happening
  time_changed : ℕ → Happening

abbrev pub same : PendingTable → PendingTable → Bool
same Calendar Calendar = true
same Calendar Outputs = false
same Calendar Override = false
same Outputs Calendar = false
same Outputs Outputs = true
same Outputs Override = false
same Override Calendar = false
same Override Outputs = false
same Override Override = true

-- A function of the tables with another value at one of them, and something done for each table in directory order.
abbrev pub put_at : {X : Type 0} → PendingTable → X → (PendingTable → X) → PendingTable → X
put_at t x f u = cond (same u t) x (f u)

abbrev pub in_order : {X : Type 0} → (PendingTable → X → X) → X → X
in_order f x = f Override (f Outputs (f Calendar x))

-- Which waiting ones are meant: all, or those whose second the clock has reached.
abbrev pub any_due : Due → Bool
any_due d = true

abbrev pub due_by : ℕ → Due → Bool
due_by clock (At second) = nat_le second clock
due_by clock ByCommand = false

-- What memory shows: for each table its row, with what waits in it, and the table that is in force.
pub data Seen : Type 0 where
  empty : Seen
  waiting : Pending → Seen

pub record Memory : Type 0 where
  pub rows : PendingTable → Seen
  pub tables : PendingTable → List ℕ

abbrev pub forced_if : (Due → Bool) → PendingTable → Seen → Memory → Memory
forced_if test t empty m = m
forced_if test t (waiting p) m = cond (test p.due) (record { rows = put_at t empty m.rows; tables = put_at t p.bytes m.tables }) m

abbrev pub forced : (Due → Bool) → PendingTable → Memory → Memory
forced test t m = forced_if test t (m.rows t) m

abbrev pub emptied : PendingTable → Memory → Memory
emptied t m = record { rows = put_at t empty m.rows; tables = m.tables }

abbrev pub after : Memory → Happening → Memory
after m (staged t p) = record { rows = put_at t (waiting p) m.rows; tables = m.tables }
after m (written t from bytes) = record { rows = m.rows; tables = put_at t (patch from bytes (m.tables t)) m.tables }
after m withdrew_all = in_order emptied m
after m (withdrew t) = emptied t m
after m activated_all = in_order (forced any_due) m
after m (activated t) = forced any_due t m
after m (time_changed clock) = in_order (forced (due_by clock)) m

abbrev pub run : Memory → List Happening → Memory
run m [] = m
run m (h ∷ hs) = run (after m h) hs

-- The account: every staging that was accepted, in that order, each with its fate, and the tables in force.
pub data Fate : Type 0 where
  waits : Fate
  took_force : Fate
  replaced : Fate
  withdrawn : Fate

abbrev pub is_waiting : Fate → Bool
is_waiting waits = true
is_waiting took_force = false
is_waiting replaced = false
is_waiting withdrawn = false

pub record Staging : Type 0 where
  pub table : PendingTable
  pub pending : Pending
  pub fate : Fate

pub record Account : Type 0 where
  pub stagings : List Staging
  pub tables : PendingTable → List ℕ

-- The waiting ones of a table, oldest first.
abbrev pub waiting_in : PendingTable → List Staging → List Pending
waiting_in t [] = []
waiting_in t (s ∷ ss) = cond (is_waiting s.fate && same s.table t) (s.pending ∷ waiting_in t ss) (waiting_in t ss)

-- The waiting ones of a table that are meant get a fate.
abbrev pub settled : (Due → Bool) → PendingTable → Fate → Staging → Staging
settled test t f s = cond (is_waiting s.fate && same s.table t && test s.pending.due) (record { table = s.table; pending = s.pending; fate = f }) s

abbrev pub settle : (Due → Bool) → PendingTable → Fate → Account → Account
settle test t f a = record { stagings = map (settled test t f) a.stagings; tables = a.tables }

abbrev pub put_all : (Due → Bool) → PendingTable → List Pending → (PendingTable → List ℕ) → PendingTable → List ℕ
put_all test t [] tables = tables
put_all test t (p ∷ ps) tables = put_all test t ps (cond (test p.due) (put_at t p.bytes tables) tables)

-- They take force: their bytes become the table.
abbrev pub force_in : (Due → Bool) → PendingTable → Account → Account
force_in test t a = record { stagings = map (settled test t took_force) a.stagings; tables = put_all test t (waiting_in t a.stagings) a.tables }

-- A new staging replaces what waits for its table.
abbrev pub noted : Account → Happening → Account
noted a (staged t p) = record { stagings = map (settled any_due t replaced) a.stagings ++ record { table = t; pending = p; fate = waits } ∷ []; tables = a.tables }
noted a (written t from bytes) = record { stagings = a.stagings; tables = put_at t (patch from bytes (a.tables t)) a.tables }
noted a withdrew_all = in_order (λ t. settle any_due t withdrawn) a
noted a (withdrew t) = settle any_due t withdrawn a
noted a activated_all = in_order (force_in any_due) a
noted a (activated t) = force_in any_due t a
noted a (time_changed clock) = in_order (force_in (due_by clock)) a

abbrev pub kept : Account → List Happening → Account
kept a [] = a
kept a (h ∷ hs) = kept (noted a h) hs

-- Memory matches the account: the waiting rows are exactly those of the stagings that wait, and the tables are the same.
abbrev pub listed : Seen → List Pending
listed empty = []
listed (waiting p) = p ∷ []

pub record Agrees (m : Memory) (a : Account) : Type 0 where
  pub rows : (t : PendingTable) → waiting_in t a.stagings ≡ listed (m.rows t)
  pub tables : (t : PendingTable) → m.tables t ≡ a.tables t
