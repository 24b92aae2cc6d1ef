-- The fate of a staging, told by what happens after it.
use Rattle.std.specs.Prelude.{◌≡◌, ℕ, ◌<◌, ◌≤◌, false, List, [], ◌∷◌, ◌++◌, ◌≢◌}
use Rattle.pending.specs.declared.table.PendingTable.{PendingTable}
use Rattle.pending.specs.declared.trigger.Due.{Due}
use Rattle.pending.specs.declared.trigger.Due.TheVariants.{At, ByCommand}
use Rattle.fates.specs.Stagings.{Pending, Happening, staged, written, withdrew_all, withdrew, activated_all, activated, time_changed, empty, waiting, Memory, run, Fate, waits, took_force, replaced, withdrawn, is_waiting, Staging, Account, kept, Agrees}

-- The clock has reached the second for which something waits. Nothing that waits for a procedure is ever reached.
abbrev pub Reached : Due → ℕ → Type 0
Reached (At second) clock = second ≤ clock
Reached ByCommand clock = ⊥

-- What happens ends the wait of a staging of table t that is due at d, and so it does: a later staging of its table replaces it;
-- the procedures that withdraw and activate end it if they name its table; a change of time activates it if the clock has reached its second.
abbrev pub Ends : PendingTable → Due → Happening → Fate → Type 0
Ends t d (staged u p) f = (u ≡ t) × (f ≡ replaced)
Ends t d (written u from bytes) f = ⊥
Ends t d withdrew_all f = f ≡ withdrawn
Ends t d (withdrew u) f = (u ≡ t) × (f ≡ withdrawn)
Ends t d activated_all f = f ≡ took_force
Ends t d (activated u) f = (u ≡ t) × (f ≡ took_force)
Ends t d (time_changed clock) f = Reached d clock × (f ≡ took_force)

abbrev pub Quiet : PendingTable → Due → Happening → Type 0
Quiet t d h = (f : Fate) → Ends t d h f → ⊥

-- The first that ends the wait says the fate; as long as nothing does, it waits.
pub data FateIs (t : PendingTable) (d : Due) : List Happening → Fate → Type 0 where
  still : FateIs t d [] waits
  ended : {h : Happening} {later : List Happening} {f : Fate} → Ends t d h f → FateIs t d (h ∷ later) f
  passed : {h : Happening} {later : List Happening} {f : Fate} → Quiet t d h → FateIs t d later f → FateIs t d (h ∷ later) f

abbrev pub ExactlyOneFate : Type 0
ExactlyOneFate = (t : PendingTable) (d : Due) (later : List Happening) → (f : Fate) × FateIs t d later f × ((g : Fate) → FateIs t d later g → g ≡ f)

-- The stagings of a life, in order, each with its fate.
pub data Tells : List Happening → List Staging → Type 0 where
  nothing : Tells [] []
  staging : {t : PendingTable} {p : Pending} {later : List Happening} {f : Fate} {ss : List Staging} →
      FateIs t p.due later f → Tells later ss → Tells (staged t p ∷ later) (record { table = t; pending = p; fate = f } ∷ ss)
  other : {h : Happening} {later : List Happening} {ss : List Staging} → ((t : PendingTable) (p : Pending) → h ≢ staged t p) → Tells later ss → Tells (h ∷ later) ss

abbrev pub AccountTells : Type 0
AccountTells = (a : Account) (hs : List Happening) → a.stagings ≡ [] → Tells hs (kept a hs).stagings

-- Memory and account stay together.
abbrev pub StaysMatched : Type 0
StaysMatched = (m : Memory) (a : Account) (hs : List Happening) → Agrees m a → Agrees (run m hs) (kept a hs)

pub data Every (P : Happening → Type 0) : List Happening → Type 0 where
  none : Every P []
  more : {h : Happening} {hs : List Happening} → P h → Every P hs → Every P (h ∷ hs)

-- One that takes force does so whole: what was staged is the table, and the row is empty.
abbrev pub TakesForceWhole : Type 0
TakesForceWhole =
    (m : Memory) (before : List Happening) (t : PendingTable) (p : Pending) (quiet : List Happening) (h : Happening) →
    Every (Quiet t p.due) quiet → Ends t p.due h took_force →
    ((run m (before ++ staged t p ∷ quiet ++ h ∷ [])).tables t ≡ p.bytes) × ((run m (before ++ staged t p ∷ quiet ++ h ∷ [])).rows t ≡ empty)

-- None waits past a change of time that has reached its second: by its fate, and in memory.
abbrev pub NeverLate : Type 0
NeverLate = (t : PendingTable) (second : ℕ) (xs ys : List Happening) (clock : ℕ) → FateIs t (At second) (xs ++ time_changed clock ∷ ys) waits → clock < second

abbrev pub InTime : Type 0
InTime =
    (m : Memory) (before : List Happening) (clock : ℕ) (t : PendingTable) (p : Pending) (second : ℕ) →
    (run m (before ++ time_changed clock ∷ [])).rows t ≡ waiting p → p.due ≡ At second → clock < second

-- What was staged stays in the account, in its place and unaltered, and a fate that is not waiting never changes.
pub record Goes (s now : Staging) : Type 0 where
  pub table : now.table ≡ s.table
  pub pending : now.pending ≡ s.pending
  pub fate : is_waiting s.fate ≡ false → now.fate ≡ s.fate

abbrev pub Continues : List Staging → List Staging → Type 0
Continues [] now = Unit {0}
Continues (s ∷ ss) [] = ⊥
Continues (s ∷ ss) (n ∷ ns) = Goes s n × Continues ss ns

abbrev pub FatesLast : Type 0
FatesLast = (a : Account) (hs : List Happening) → Continues a.stagings (kept a hs).stagings

-- All that stands of stagings.
pub record FateLaws : Type 0 where
  pub one_fate : ExactlyOneFate
  pub told : AccountTells
  pub matched : StaysMatched
  pub whole : TakesForceWhole
  pub never_late : NeverLate
  pub in_time : InTime
  pub last : FatesLast
