-- What is seen of rows and tables, and which steps are not seen.
use Rattle.std.proofs.Common.{◌≡◌, ℕ, ◌+◌, ◌<◌, ◌≤◌, Bool, true, false, ◌≢◌, List, [], ◌∷◌, get_or, refl, ap, ◌∙◌, ap₂, arith}
use mathlib.Core.Path.{fun_ext}
use Rattle.access.specs.Ready.{content_of}
use Rattle.fields.specs.Words.{part}
use Rattle.memory.specs.Blocks.{Block}
use Rattle.numbers.specs.declared.log.LogName.{LogName}
use Rattle.numbers.specs.declared.log.LogName.TheVariants.{History, SelfReads, LoadProfile}
use Rattle.records.specs.declared.event.Event.{Event}
use Rattle.logs.specs.Heads.{cleared}
use Rattle.logs.proofs.SlotWrites.{put_beside}
use Rattle.pending.specs.declared.row.Row.{Row}
use Rattle.pending.specs.declared.row.Row.TheVariants.{Empty, Waiting}
use Rattle.pending.specs.declared.table.PendingTable.{PendingTable}
use Rattle.pending.specs.declared.table.PendingTable.TheVariants.{Calendar, Outputs, Override}
use Rattle.pending.specs.Tables.{table_index}
use Rattle.pending.specs.Triggers.{plan_bytes}
use Rattle.directory.specs.Geometry.{log_place, staged_length, current_block, pending_block}
use Rattle.head.specs.declared.head.Head.{Head}
use Rattle.fates.specs.Stagings.{Seen, waiting, Memory, same}
use Rattle.model.specs.States.{Going, Recorded, row_of, log_of, set_log, on_head}
use Rattle.model.specs.Steps.{entered, noted, self_read_taken, interval_taken, read_first}
use Rattle.model.specs.Procedures.{logs_cleared}
use Rattle.ledger.proofs.Seen.{seen_row, seen_in}

-- What is seen of a call at work.
abbrev pub seen_of : Going → Memory
seen_of g = seen_in g.head g.blocks

abbrev pub memory : (PendingTable → Seen) → (PendingTable → List ℕ) → Memory
memory r t = record { rows = r; tables = t }

-- where blocks lie
pub current_low : (t : PendingTable) → current_block t ≤ 4
current_low Calendar = omega arith
current_low Outputs = omega arith
current_low Override = omega arith

pub current_high : (t : PendingTable) → 2 ≤ current_block t
current_high Calendar = omega arith
current_high Outputs = omega arith
current_high Override = omega arith

pub pending_low : (t : PendingTable) → pending_block t ≤ 7
pending_low Calendar = omega arith
pending_low Outputs = omega arith
pending_low Override = omega arith

pub pending_is : (t : PendingTable) → pending_block t ≡ current_block t + 3
pending_is Calendar = refl
pending_is Outputs = refl
pending_is Override = refl

pub current_is : (t : PendingTable) → current_block t ≡ table_index t + 2
current_is Calendar = refl
current_is Outputs = refl
current_is Override = refl

pub staged_short : (t : PendingTable) → staged_length t ≤ 510
staged_short Calendar = omega arith
staged_short Outputs = omega arith
staged_short Override = omega arith

-- tables at one place among the rows are the same
pub apart : (v w : PendingTable) → same v w ≡ false → table_index v ≢ table_index w
apart Calendar Calendar n e = let z : ◌≡◌ {A = ℕ} 0 1 = cc in omega arith
apart Calendar Outputs n e = omega arith
apart Calendar Override n e = omega arith
apart Outputs Calendar n e = omega arith
apart Outputs Outputs n e = let z : ◌≡◌ {A = ℕ} 0 1 = cc in omega arith
apart Outputs Override n e = omega arith
apart Override Calendar n e = omega arith
apart Override Outputs n e = omega arith
apart Override Override n e = let z : ◌≡◌ {A = ℕ} 0 1 = cc in omega arith

-- the same row with the same staged bytes is seen as the same
pub row_same : (t : PendingTable) (r r' : Row) (bs bs' : List Block) → r ≡ r' → content_of bs (pending_block t) ≡ content_of bs' (pending_block t) → seen_row t r bs ≡ seen_row t r' bs'
row_same t r r' bs bs' e f = ap (λ x. seen_row t x bs) e ∙ staged r'
  where
    staged : (x : Row) → seen_row t x bs ≡ seen_row t x bs'
    staged Empty = refl
    staged (Waiting plan due) = ap (λ c. waiting (record { trigger = plan_bytes plan; due = due; bytes = part (staged_length t) 0 c })) f

-- rows and the blocks of tables that stay are seen as before
pub seen_same : (h h' : Head) (bs bs' : List Block) → ((t : PendingTable) → row_of t h' ≡ row_of t h) → ((k : ℕ) → 1 < k → k < 8 → content_of bs' k ≡ content_of bs k) → seen_in h' bs' ≡ seen_in h bs
seen_same h h' bs bs' rows blocks =
    ap₂ memory
    (fun_ext (λ t. row_same t _ _ _ _ (rows t) (blocks (pending_block t) (omega (arith, pending_is t)) (omega (arith, pending_low t)))))
    (fun_ext (λ t. ap (part (staged_length t) 0) (blocks (current_block t) (omega (arith, current_high t)) (omega (arith, current_low t)))))

-- recording goes to the blocks from 8 on
log_high : (name : LogName) → 8 ≤ (log_place name).first
log_high History = omega arith
log_high SelfReads = omega arith
log_high LoadProfile = omega arith

pub entered_beside : (name : LogName) (bytes : List ℕ) (r : Recorded) (g : Going) (k : ℕ) → k < 8 → content_of (entered name bytes r g).blocks k ≡ content_of g.blocks k
unfolding entered
entered_beside name bytes r g k low = put_beside (log_place name) _ k bytes g.blocks (λ e. omega (arith, log_high name))

pub entered_unseen : (name : LogName) (bytes : List ℕ) (r : Recorded) (g : Going) → seen_of (entered name bytes r g) ≡ seen_of g
unfolding entered
entered_unseen name bytes r g = seen_same g.head (entered name bytes r g).head _ _ (λ t. refl) (λ k _ low. entered_beside name bytes r g k low)

pub noted_beside : (clock : ℕ) (e : Event) (g : Going) (k : ℕ) → k < 8 → content_of (noted clock e g).blocks k ≡ content_of g.blocks k
unfolding noted
noted_beside clock e g k low = entered_beside _ _ _ g k low

pub noted_unseen : (clock : ℕ) (e : Event) (g : Going) → seen_of (noted clock e g) ≡ seen_of g
unfolding noted
noted_unseen clock e g = entered_unseen _ _ _ g

pub self_read_beside : (clock : ℕ) (g : Going) (k : ℕ) → k < 8 → content_of (self_read_taken clock g).blocks k ≡ content_of g.blocks k
unfolding self_read_taken
self_read_beside clock g k low = noted_beside clock _ _ k low ∙ entered_beside _ _ _ g k low

pub self_read_unseen : (clock : ℕ) (g : Going) → seen_of (self_read_taken clock g) ≡ seen_of g
unfolding self_read_taken
self_read_unseen clock g = noted_unseen clock _ _ ∙ entered_unseen _ _ _ g

pub interval_unseen : (clock : ℕ) (g : Going) → seen_of (interval_taken clock g) ≡ seen_of g
unfolding interval_taken
interval_unseen clock g = entered_unseen _ _ _ g

pub first_beside : (flag : Bool) (clock : ℕ) (g : Going) (k : ℕ) → k < 8 → content_of (read_first flag clock g).blocks k ≡ content_of g.blocks k
first_beside true clock g k low = self_read_beside clock g k low
first_beside false clock g k low = refl

pub first_unseen : (flag : Bool) (clock : ℕ) (g : Going) → seen_of (read_first flag clock g) ≡ seen_of g
first_unseen true clock g = self_read_unseen clock g
first_unseen false clock g = refl

-- a head with the same rows is seen as before
pub head_unseen : (f : Head → Head) (g : Going) → (f g.head).rows ≡ g.head.rows → seen_of (on_head f g) ≡ seen_of g
head_unseen f g e = ap (λ (rows : List Row). memory (λ t. seen_row t (get_or rows (table_index t) Empty) g.blocks) (seen_of g).tables) e

pub cleared_rows : (names : List LogName) (h : Head) → (logs_cleared names h).rows ≡ h.rows
cleared_rows [] h = refl
cleared_rows (name ∷ names) h = cleared_rows names (set_log name (cleared (log_of name h)) h)

pub cleared_unseen : (names : List LogName) (g : Going) → seen_of (on_head (logs_cleared names) g) ≡ seen_of g
cleared_unseen names g = head_unseen (logs_cleared names) g (cleared_rows names g.head)
