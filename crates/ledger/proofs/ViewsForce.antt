-- What is seen of activations and changes of time.
use Rattle.std.proofs.Common.{◌≡◌, ℕ, ◌+◌, ◌<◌, Bool, true, false, cond, ◌≢◌, List, length, refl, ap, ◌∙◌, ap₂, inl, inr, arith}
use mathlib.Core.Path.{fun_ext}
use Rattle.std.proofs.lemmas.List.{get_or-set_same, get_or-set_other, length-take-le}
use Rattle.std.proofs.lemmas.Bool.{cases_Bool, cond_both}
use Rattle.access.specs.Ready.{Ready, content_of, stored}
use Rattle.access.proofs.Readiness.{content_long}
use Rattle.calendar.specs.Calendar.{seconds_in_all}
use Rattle.fields.specs.Words.{part}
use Rattle.fields.specs.Patches.{patch}
use Rattle.fields.proofs.Places.{part_patch_same}
use Rattle.memory.specs.Blocks.{Block}
use Rattle.logs.proofs.SlotWrites.{content_same, content_other}
use Rattle.records.specs.declared.event.Event.TheVariants.{PowerUp}
use Rattle.pending.specs.declared.plan.Plan.{Plan}
use Rattle.pending.specs.declared.trigger.Due.{Due}
use Rattle.pending.specs.declared.trigger.Due.TheVariants.{At, ByCommand}
use Rattle.pending.specs.declared.row.Row.{Row}
use Rattle.pending.specs.declared.row.Row.TheVariants.{Empty, Waiting}
use Rattle.pending.specs.declared.table.PendingTable.{PendingTable}
use Rattle.pending.specs.declared.table.PendingTable.TheVariants.{Calendar, Outputs, Override}
use Rattle.pending.specs.Rows.{is_due, is_waiting}
use Rattle.pending.specs.Tables.{table_index, all_tables}
use Rattle.directory.specs.Geometry.{staged_length, current_block, pending_block}
use Rattle.head.specs.declared.head.Head.{Head}
use Rattle.fates.specs.Stagings.{empty, Memory, same, put_at, in_order, any_due, due_by, forced_if, forced, emptied, after}
use Rattle.fates.specs.Stagings as fate
use Rattle.model.specs.States.{Going, row_of, set_row, on_head, on_blocks}
use Rattle.model.specs.Steps.{self_read_taken, interval_taken, brought_in, row_spent, read_first, took_force, activated, activated_if, each_activated, time_changed}
use Rattle.model.specs.Tables.{current_table, staged_table}
use Rattle.model.specs.Calls.{scheduled_read, interval_read, ticked, power_up}
use Rattle.model.proofs.Keeping.{Kept, raised, noted_kept, self_read_kept, status_kept}
use Rattle.model.proofs.Activating.{if_kept}
use Rattle.ledger.proofs.Seen.{seen_row, seen_in}
use Rattle.fates.proofs.Settling.{same_self, same_is}
use Rattle.ledger.proofs.Views.{seen_of, memory, current_low, current_high, pending_low, pending_is, current_is, staged_short, apart, row_same, noted_unseen, self_read_unseen, interval_unseen, first_beside, first_unseen}

pub currents_apart : (v w : PendingTable) → same v w ≡ false → current_block v ≢ current_block w
currents_apart v w n e = apart v w n (omega (arith, current_is v, current_is w))

-- a row of three that is set
index_low : (t : PendingTable) → table_index t < 3
index_low Calendar = omega arith
index_low Outputs = omega arith
index_low Override = omega arith

pub row_own : (t : PendingTable) (row : Row) (h : Head) → length h.rows ≡ 3 → row_of t (set_row t row h) ≡ row
row_own t row h three = get_or-set_same h.rows (table_index t) row Empty (omega (arith, index_low t))

pub row_other : (v t : PendingTable) (row : Row) (h : Head) → same v t ≡ false → row_of v (set_row t row h) ≡ row_of v h
row_other v t row h n = get_or-set_other h.rows (table_index t) (table_index v) row Empty (apart v t n)

-- a row emptied
pub emptied_seen : (t : PendingTable) (h : Head) (bs : List Block) → length h.rows ≡ 3 → seen_in (set_row t Empty h) bs ≡ emptied t (seen_in h bs)
emptied_seen t h bs three =
    ap₂ memory
    (fun_ext (λ v. elim (cases_Bool (same v t)) [
      | inl is ↦ rw (same_is v t is, same_self t) (ap (λ r. seen_row t r bs) (row_own t Empty h three))
      | inr n ↦ rw n (ap (λ r. seen_row v r bs) (row_other v t Empty h n))
    ]))
    refl

-- another content of a table's block
pub table_stored : (t : PendingTable) (c : List ℕ) (h : Head) (bs : List Block) → Ready bs → seen_in h (stored bs (current_block t) c) ≡ memory (seen_in h bs).rows (put_at t (part (staged_length t) 0 c) (seen_in h bs).tables)
table_stored t c h bs ready =
    ap₂ memory
    (fun_ext (λ v. row_same v _ _ _ _ refl (content_other bs (current_block t) (pending_block v) c (λ e. omega (arith, current_low t, current_high v, pending_is v)))))
    (fun_ext (λ v. elim (cases_Bool (same v t)) [
      | inl is ↦ rw (same_is v t is, same_self t) (ap (part (staged_length t) 0) (content_same bs (current_block t) c (omega (arith, current_low t, ready.enough))))
      | inr n ↦ rw n (ap (part (staged_length v) 0) (content_other bs (current_block t) (current_block v) c (currents_apart v t n)))
    ]))

staged_long : {c : List ℕ} {n : ℕ} (t : PendingTable) (g : Going) → Kept c n g → length (staged_table t g.blocks) ≡ staged_length t
staged_long t g kept =
    length-take-le (staged_length t) (content_of g.blocks (pending_block t)) (omega (arith, staged_short t, content_long g.blocks kept.whole kept.ready (pending_block t) (omega (arith, pending_low t))))

-- the staged bytes brought in and the row spent
spent_seen : {c : List ℕ} {n : ℕ} (t : PendingTable) (clock : ℕ) (g : Going) → Kept c n g →
    seen_of (on_head (row_spent t clock) (on_blocks (brought_in t) g)) ≡ memory (put_at t empty (seen_of g).rows) (put_at t (staged_table t g.blocks) (seen_of g).tables)
spent_seen t clock g kept =
    let b = staged_table t g.blocks in
    let old = content_of g.blocks (current_block t) in
    let long : length old ≡ 510 = content_long g.blocks kept.whole kept.ready (current_block t) (omega (arith, current_low t)) in
    let size : length b ≡ staged_length t = staged_long t g kept in
    let own : part (staged_length t) 0 (patch 0 b old) ≡ b = part_patch_same 0 (staged_length t) b old (omega (arith, staged_short t)) size in
    emptied_seen t g.head (brought_in t g.blocks) kept.formed.three
    ∙ ap (emptied t) (table_stored t (patch 0 b old) g.head g.blocks kept.ready ∙ ap (λ x. memory (seen_of g).rows (put_at t x (seen_of g).tables)) own)

first_kept : {c : List ℕ} (n clock : ℕ) (flag : Bool) (g : Going) → n < 90000000 → Kept c n g → Kept c (n + 2) (read_first flag clock g)
first_kept n clock true g few kept = self_read_kept n clock g (omega arith) kept
first_kept n clock false g few kept = raised (n + 2) g (omega arith) kept

pub force_seen : {c : List ℕ} (n clock : ℕ) (t : PendingTable) (plan : Plan) (due : Due) (g : Going) → n < 80000000 → Kept c n g →
    seen_of (took_force t clock (Waiting plan due) g) ≡ memory (put_at t empty (seen_of g).rows) (put_at t (staged_table t g.blocks) (seen_of g).tables)
force_seen n clock t plan due g few kept =
    let flag = plan.self_read in
    let first = read_first flag clock g in
    let staged : staged_table t first.blocks ≡ staged_table t g.blocks = ap (part (staged_length t) 0) (first_beside flag clock g (pending_block t) (omega (arith, pending_low t))) in
    noted_unseen clock _ _ ∙ spent_seen t clock first (first_kept n clock flag g (omega arith) kept)
    ∙ ap₂ (λ (m : Memory) b. memory (put_at t empty m.rows) (put_at t b m.tables)) (first_unseen flag clock g) staged

-- A test of rows says of what waits what a test of its due says, and nothing of an empty row.
pub record Tests (test : Row → Bool) (of : Due → Bool) : Type 0 where
  pub none : test Empty ≡ false
  pub waits : (plan : Plan) (due : Due) → test (Waiting plan due) ≡ of due

pub if_seen : {c : List ℕ} (n clock : ℕ) (test : Row → Bool) (of : Due → Bool) (t : PendingTable) (g : Going) → Tests test of → n < 80000000 → Kept c n g → seen_of (activated_if test clock t g) ≡ forced of t (seen_of g)
unfolding activated
if_seen n clock test of t g agree few kept = go (row_of t g.head)
  where
    go : (row : Row) → seen_of (cond (test row) (took_force t clock row g) g) ≡ forced_if of t (seen_row t row g.blocks) (seen_of g)
    go Empty = rw agree.none refl
    go (Waiting plan due) = rw (agree.waits plan due) (elim (cases_Bool (of due)) [ inl y ↦ rw y (force_seen n clock t plan due g few kept) | inr z ↦ rw z refl ])

-- all tables, in directory order
pub all_seen : {c : List ℕ} (n clock : ℕ) (test : Row → Bool) (of : Due → Bool) (g : Going) → Tests test of → clock < seconds_in_all → n < 70000000 → Kept c n g → seen_of (each_activated test clock all_tables g) ≡ in_order (forced of) (seen_of g)
all_seen {c} n clock test of g agree real few kept =
    let one = activated_if test clock Calendar g in
    let two = activated_if test clock Outputs one in
    let kept_one : Kept c (n + 3) one = if_kept n clock test Calendar g real (omega arith) kept in
    let kept_two : Kept c (n + 3 + 3) two = if_kept (n + 3) clock test Outputs one real (omega arith) kept_one in
    if_seen (n + 3 + 3) clock test of Override two agree (omega arith) kept_two
    ∙ ap (forced of Override) (if_seen (n + 3) clock test of Outputs one agree (omega arith) kept_one ∙ ap (forced of Outputs) (if_seen n clock test of Calendar g agree (omega arith) kept))

pub waiting_tests : Tests is_waiting any_due
waiting_tests = record { none = refl; waits = λ plan due. refl }

reached : (clock : ℕ) (plan : Plan) (due : Due) → is_due (Waiting plan due) clock ≡ due_by clock due
reached clock plan (At second) = refl
reached clock plan ByCommand = refl

pub due_tests : (clock : ℕ) → Tests (λ row. is_due row clock) (due_by clock)
due_tests clock = record { none = refl; waits = reached clock }

-- a change of time, and the calendar then in force
pub time_seen : {c : List ℕ} (n clock : ℕ) (g : Going) → clock < seconds_in_all → n < 70000000 → Kept c n g → seen_of (time_changed clock g) ≡ after (seen_of g) (fate.time_changed clock)
unfolding time_changed
time_seen n clock g real few kept = all_seen n clock (λ row. is_due row clock) (due_by clock) g (due_tests clock) real few kept

pub table_then : {c : List ℕ} (n clock : ℕ) (t : PendingTable) (g : Going) → clock < seconds_in_all → n < 70000000 → Kept c n g → current_table t (time_changed clock g).blocks ≡ (after (seen_of g) (fate.time_changed clock)).tables t
table_then n clock t g real few kept = ap (λ (m : Memory). m.tables t) (time_seen n clock g real few kept)

-- a tick and a start
scheduled_unseen : (s : ℕ) (g : Going) → seen_of (scheduled_read s g) ≡ seen_of g
scheduled_unseen s g = cond_both _ (self_read_taken s g) g (λ (x : Going). seen_of x ≡ seen_of g) (λ _. self_read_unseen s g) (λ _. refl)

quarter_unseen : (s : ℕ) (g : Going) → seen_of (interval_read s g) ≡ seen_of g
quarter_unseen s g = cond_both _ (interval_taken s g) g (λ (x : Going). seen_of x ≡ seen_of g) (λ _. interval_unseen s g) (λ _. refl)

pub ticked_seen : {c : List ℕ} (n s : ℕ) (g : Going) → s < seconds_in_all → n < 70000000 → Kept c n g → seen_of (ticked s g) ≡ after (seen_of g) (fate.time_changed s)
unfolding ticked
ticked_seen n s g real few kept = quarter_unseen s _ ∙ scheduled_unseen s (time_changed s g) ∙ time_seen n s g real few kept

pub power_seen : {c : List ℕ} (n s : ℕ) (g : Going) → s < seconds_in_all → n < 60000000 → Kept c n g → seen_of (power_up s g) ≡ after (seen_of g) (fate.time_changed s)
unfolding power_up
power_seen n s g real few kept =
    time_seen (n + 1) s _ real (omega arith) (noted_kept n s _ _ (omega arith) (status_kept _ g kept)) ∙ ap (λ m. after m (fate.time_changed s)) (noted_unseen s PowerUp _)
