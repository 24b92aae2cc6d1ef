-- A call at work in code: what block 0 says and the blocks, with no entry told so far.
use Rattle.std.specs.Prelude.{◌≡◌, ℕ, ◌+◌, ◌%◌, ◌≤◌, Bool, true, false, List, [], ◌∷◌}
use Rattle.memory.specs.Blocks.{Block}
use Rattle.numbers.specs.declared.log.LogName.{LogName}
use Rattle.numbers.specs.declared.log.LogName.TheVariants.{History, SelfReads, LoadProfile}
use Rattle.head.specs.declared.head.Head.{Head}
use Rattle.records.specs.declared.event.Event.TheVariants.{PendingActivated}
use Rattle.pending.specs.declared.row.Row.{Row}
use Rattle.pending.specs.declared.table.PendingTable.{PendingTable}
use Rattle.pending.specs.Tables.{table_number}
use Rattle.directory.specs.Geometry.{log_place}
use Rattle.logs.specs.Heads.{appended}
use Rattle.logs.specs.Slots.{put_slot}
use Rattle.model.specs.States.{Going, Recorded, log_of, set_log, on_head, on_blocks}
use Rattle.model.specs.Steps.{noted, brought_in, row_spent, read_first}

abbrev pub working : Head → List Block → Going
working h bs = record { head = h; blocks = bs; entries = [] }

-- The state that a call works on: its clock, what block 0 is to say, the blocks, and the loan by which the memory is reached, which no step changes.
pub record State : Type 0 where
  pub clock : ℕ
  pub head : Head
  pub blocks : List Block
  pub loan : ℕ

abbrev pub going : State → Going
going s = working s.head s.blocks

-- The state at another clock.
abbrev pub at_clock : ℕ → State → State
at_clock clock s = record { clock = clock; head = s.head; blocks = s.blocks; loan = s.loan }

-- The state after a step of the plain meter. The clock stays, and so does the loan.
abbrev pub after : (Going → Going) → State → State
after step s = record { clock = s.clock; head = (step (going s)).head; blocks = (step (going s)).blocks; loan = s.loan }

-- The state after a record has gone into the next slot of its log and was counted.
abbrev pub entered_in : LogName → List ℕ → State → State
entered_in name bytes s = record {
  clock = s.clock;
  head = set_log name (appended (log_place name) (log_of name s.head)) s.head;
  blocks = put_slot (log_place name) ((log_of name s.head).total % (log_place name).size) bytes s.blocks;
  loan = s.loan;
}

-- No log has recorded more than a limit.
pub record Totals (limit : ℕ) (h : Head) : Type 0 where
  pub history : (log_of History h).total ≤ limit
  pub self_reads : (log_of SelfReads h).total ≤ limit
  pub load_profile : (log_of LoadProfile h).total ≤ limit

-- No log has recorded more than so many entries since.
pub record Grows (n : ℕ) (h h' : Head) : Type 0 where
  pub history : (log_of History h').total ≤ (log_of History h).total + n
  pub self_reads : (log_of SelfReads h').total ≤ (log_of SelfReads h).total + n
  pub load_profile : (log_of LoadProfile h').total ≤ (log_of LoadProfile h).total + n

-- Whether anything was recorded.
abbrev pub any_of : List Recorded → Bool
any_of [] = false
any_of (e ∷ es) = true

-- Whether a step of the plain meter records anything.
abbrev pub records_any : (Going → Going) → State → Bool
records_any step s = any_of (step (going s)).entries

-- What a step of the plain meter did in code: the state after it, and whether it recorded anything.
pub record Did (step : Going → Going) (s : State) (some : Bool) (s' : State) : Type 0 where
  pub state : s' ≡ after step s
  pub any : some ≡ records_any step s

-- Where nothing was recorded, nothing changed.
abbrev pub Still : Bool → Head → Head → List Block → List Block → Type 0
Still any h h' bs bs' = any ≡ false → (h' ≡ h) × (bs' ≡ bs)

-- A table takes force, after a self-read if there is to be one.
abbrev pub forced : PendingTable → ℕ → Bool → Going → Going
forced t clock flag g = noted clock (PendingActivated (table_number t)) (on_head (row_spent t clock) (on_blocks (brought_in t) (read_first flag clock g)))

-- A test in code computes a test of the plain meter.
abbrev pub Computes : (Row → Bool → Type 0) → (Row → Bool) → Type 0
Computes post test = (row : Row) (answer : Bool) → post row answer → answer ≡ test row
