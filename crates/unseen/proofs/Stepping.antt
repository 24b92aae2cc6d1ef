-- Two calls at work that go alike: each step takes them to two that do.
use Rattle.std.proofs.Common.{◌≡◌, ℕ, ◌%◌, Bool, true, false, cond, eqb, List, [], ◌∷◌, ◌++◌, length, get_or, refl, ap, ◌∙◌, subst}
use Rattle.memory.specs.Blocks.{Block}
use Rattle.numbers.specs.declared.log.LogName.{LogName}
use Rattle.numbers.specs.declared.log.LogName.TheVariants.{History, SelfReads, LoadProfile}
use Rattle.records.specs.declared.event.Event.{Event}
use Rattle.records.specs.Layouts.{event_layout, self_read_layout, interval_layout, five_words, event_record_bytes, self_read_bytes, interval_bytes}
use Rattle.logs.specs.Heads.{appended, acknowledged, cleared}
use Rattle.logs.specs.Slots.{put_slot}
use Rattle.pending.specs.declared.row.Row.{Row}
use Rattle.pending.specs.declared.row.Row.TheVariants.{Empty, Waiting}
use Rattle.pending.specs.declared.table.PendingTable.{PendingTable}
use Rattle.pending.specs.declared.table.PendingTable.TheVariants.{Calendar}
use Rattle.pending.specs.Rows.{is_due, is_waiting}
use Rattle.pending.specs.Tables.{table_index, all_tables}
use Rattle.directory.specs.Geometry.{log_place}
use Rattle.head.specs.declared.head.Head.{Head}
use Rattle.head.specs.Heads.{with_status}
use Rattle.model.specs.States.{Going, Recorded, event, self_read, interval, row_of, log_of, set_row, set_log, on_head, on_blocks}
use Rattle.model.specs.Steps.{entered, noted, event_at, self_read_taken, self_read_at, interval_taken, interval_at, no_status, brought_in, row_spent, read_first, took_force, activated, activated_if, each_activated, time_changed}
use Rattle.model.specs.Tables.{current_table}
use Rattle.model.specs.Tariffs.{is_scheduled}
use Rattle.model.specs.Calls.{scheduled_read, ticked, mark_started, power_up}
use Rattle.model.specs.Procedures.{Order, clear, acknowledge, set_clock, activate, withdraw, read_self, logs_cleared, rows_withdrawn, mark_set, obeyed, carried_out}
use Rattle.model.proofs.Activating.{first_rows}
use Rattle.unseen.proofs.Together.{Together, entry_together, reheaded, emptied, acknowledged_together, cleared_together}
use Rattle.unseen.proofs.Placing.{brought_together}

pub record Run (a : List Block) (g k : Going) : Type 0 where
  pub heads : g.head ≡ k.head
  pub entries : g.entries ≡ k.entries
  pub to : Together a g.head g.blocks k.blocks

-- a change of both heads
on_heads : {a : List Block} (f : Head → Head) (g k : Going) → (Together a g.head g.blocks k.blocks → Together a (f g.head) g.blocks k.blocks) → Run a g k → Run a (on_head f g) (on_head f k)
on_heads f g k step run = record { heads = ap f run.heads; entries = run.entries; to = step run.to }

-- one that keeps the rows and the logs
pub same_run : {a : List Block} (f : Head → Head) (g k : Going) → (f g.head).rows ≡ g.head.rows → (f g.head).logs ≡ g.head.logs → Run a g k → Run a (on_head f g) (on_head f k)
same_run f g k rows logs run = on_heads f g k (λ to. reheaded g.head (f g.head) rows logs to) run

entered_run : {a : List Block} (name : LogName) (bytes : List ℕ) (r : Recorded) (g k : Going) → length bytes ≡ (log_place name).width → Run a g k → Run a (entered name bytes r g) (entered name bytes r k)
unfolding entered
entered_run {a} name bytes r g k long run = record {
  heads = ap (λ h. set_log name (appended (log_place name) (log_of name h)) h) run.heads;
  entries = ap (λ es. es ++ r ∷ []) run.entries;
  to =
      subst
      (λ h. Together a (set_log name (appended (log_place name) (log_of name g.head)) g.head) (put_slot (log_place name) ((log_of name g.head).total % (log_place name).size) bytes g.blocks) (put_slot (log_place name) ((log_of name h).total % (log_place name).size) bytes k.blocks))
      run.heads (entry_together name bytes long a g.head g.blocks k.blocks run.to);
}

pub noted_run : {a : List Block} (clock : ℕ) (e : Event) (g k : Going) → Run a g k → Run a (noted clock e g) (noted clock e k)
unfolding noted event_layout
noted_run clock e g k run = entered_run History (event_record_bytes (event_at clock e)) (event (event_at clock e)) g k refl run

self_read_run : {a : List Block} (clock : ℕ) (g k : Going) → Run a g k → Run a (self_read_taken clock g) (self_read_taken clock k)
unfolding self_read_taken self_read_layout five_words
self_read_run {a} clock g k run =
    noted_run clock _ _ _
    (subst (λ h. Run a (entered SelfReads (self_read_bytes (self_read_at clock g.head)) (self_read (self_read_at clock g.head)) g) (entered SelfReads (self_read_bytes (self_read_at clock h)) (self_read (self_read_at clock h)) k))
    run.heads (entered_run SelfReads (self_read_bytes (self_read_at clock g.head)) (self_read (self_read_at clock g.head)) g k refl run))

interval_run : {a : List Block} (clock : ℕ) (g k : Going) → Run a g k → Run a (interval_taken clock g) (interval_taken clock k)
unfolding interval_taken interval_layout
interval_run {a} clock g k run =
    same_run (with_status no_status) _ _ refl refl
    (subst (λ h. Run a (entered LoadProfile (interval_bytes (interval_at clock g.head)) (interval (interval_at clock g.head)) g) (entered LoadProfile (interval_bytes (interval_at clock h)) (interval (interval_at clock h)) k))
    run.heads (entered_run LoadProfile (interval_bytes (interval_at clock g.head)) (interval (interval_at clock g.head)) g k refl run))

-- activations
first_run : {a : List Block} (flag : Bool) (clock : ℕ) (g k : Going) → Run a g k → Run a (read_first flag clock g) (read_first flag clock k)
first_run true clock g k run = self_read_run clock g k run
first_run false clock g k run = run

brought_run : {a : List Block} (t : PendingTable) (g k : Going) → is_waiting (row_of t g.head) ≡ true → Run a g k → Run a (on_blocks (brought_in t) g) (on_blocks (brought_in t) k)
brought_run t g k waits run = record { heads = run.heads; entries = run.entries; to = brought_together t g.head g.blocks k.blocks waits run.to }

spent_run : {a : List Block} (t : PendingTable) (clock : ℕ) (g k : Going) → Run a g k → Run a (on_head (row_spent t clock) g) (on_head (row_spent t clock) k)
spent_run t clock g k run = on_heads (row_spent t clock) g k (λ to. reheaded (set_row t Empty g.head) _ refl refl (emptied t g.head g.blocks k.blocks to)) run

force_run : {a : List Block} (t : PendingTable) (clock : ℕ) (row : Row) (g k : Going) → row_of t g.head ≡ row → Run a g k → Run a (took_force t clock row g) (took_force t clock row k)
force_run t clock Empty g k is run = run
force_run t clock (Waiting plan due) g k is run =
    let flag = plan.self_read in
    let waits : is_waiting (row_of t (read_first flag clock g).head) ≡ true = ap (λ rows. is_waiting (get_or rows (table_index t) Empty)) (first_rows flag clock g) ∙ ap is_waiting is in
    noted_run clock _ _ _ (spent_run t clock _ _ (brought_run t (read_first flag clock g) (read_first flag clock k) waits (first_run flag clock g k run)))

activated_run : {a : List Block} (clock : ℕ) (t : PendingTable) (g k : Going) → Run a g k → Run a (activated clock t g) (activated clock t k)
unfolding activated
activated_run {a} clock t g k run =
    subst (λ h. Run a (took_force t clock (row_of t g.head) g) (took_force t clock (row_of t h) k)) run.heads (force_run t clock (row_of t g.head) g k refl run)

-- one of two ways, chosen alike
pub chosen : {a : List Block} (b c : Bool) (g g' k k' : Going) → b ≡ c → Run a g k → Run a g' k' → Run a (cond b g g') (cond c k k')
chosen {a} b c g g' k k' same one two = subst (λ d. Run a (cond b g g') (cond d k k')) same (go b)
  where
    go : (d : Bool) → Run a (cond d g g') (cond d k k')
    go true = one
    go false = two

if_run : {a : List Block} (test : Row → Bool) (clock : ℕ) (t : PendingTable) (g k : Going) → Run a g k → Run a (activated_if test clock t g) (activated_if test clock t k)
if_run test clock t g k run =
    chosen (test (row_of t g.head)) (test (row_of t k.head)) (activated clock t g) g (activated clock t k) k (ap (λ h. test (row_of t h)) run.heads) (activated_run clock t g k run) run

each_run : {a : List Block} (test : Row → Bool) (clock : ℕ) (ts : List PendingTable) (g k : Going) → Run a g k → Run a (each_activated test clock ts g) (each_activated test clock ts k)
each_run test clock [] g k run = run
each_run test clock (t ∷ ts) g k run = each_run test clock ts (activated_if test clock t g) (activated_if test clock t k) (if_run test clock t g k run)

time_run : {a : List Block} (clock : ℕ) (g k : Going) → Run a g k → Run a (time_changed clock g) (time_changed clock k)
unfolding time_changed
time_run clock g k run = each_run (λ row. is_due row clock) clock all_tables g k run

-- a tick, and a start
pub ticked_run : {a : List Block} (s : ℕ) (g k : Going) → Run a g k → Run a (ticked s g) (ticked s k)
unfolding ticked
ticked_run {a} s g k run =
    let one : Run a (time_changed s g) (time_changed s k) = time_run s g k run in
    let two : Run a (scheduled_read s (time_changed s g)) (scheduled_read s (time_changed s k)) =
    chosen (is_scheduled (current_table Calendar (time_changed s g).blocks) s) (is_scheduled (current_table Calendar (time_changed s k).blocks) s) _ _ _ _ (ap (λ c. is_scheduled c s) (one.to.seen.current Calendar)) (self_read_run s _ _ one) one in
    chosen (eqb (s % 900) 0) (eqb (s % 900) 0) _ _ _ _ refl (interval_run s _ _ two) two

pub power_run : {a : List Block} (s : ℕ) (g k : Going) → Run a g k → Run a (power_up s g) (power_up s k)
unfolding power_up
power_run s g k run =
    time_run s _ _ (noted_run s _ _ _ (same_run mark_started g k refl refl run))

-- procedures, from the start of the call: a clearing is its first step
clear_together : (names : List LogName) (h : Head) (x y : List Block) → Together x h x y → Together x (logs_cleared names h) x y
clear_together [] h x y to = to
clear_together (name ∷ names) h x y to = clear_together names (set_log name (cleared (log_of name h)) h) x y (cleared_together name h x y to)

withdrawn_together : {a : List Block} (ts : List PendingTable) (h : Head) (x y : List Block) → Together a h x y → Together a (rows_withdrawn ts h) x y
withdrawn_together [] h x y to = to
withdrawn_together (t ∷ ts) h x y to = withdrawn_together ts (set_row t Empty h) x y (emptied t h x y to)

obeyed_run : (clock : ℕ) (o : Order) (g k : Going) → Run g.blocks g k → Run g.blocks (obeyed clock o g) (obeyed clock o k)
unfolding obeyed
obeyed_run clock (clear names) g k run = on_heads (logs_cleared names) g k (λ to. clear_together names g.head g.blocks k.blocks to) run
obeyed_run clock (acknowledge name count) g k run =
    on_heads (λ h. set_log name (acknowledged count (log_of name h)) h) g k (λ to. acknowledged_together name count g.head g.blocks k.blocks to) run
obeyed_run clock (set_clock s) g k run = time_run clock _ _ (noted_run clock _ _ _ (same_run mark_set g k refl refl run))
obeyed_run clock (activate ts) g k run = each_run is_waiting clock ts g k run
obeyed_run clock (withdraw ts) g k run = on_heads (rows_withdrawn ts) g k (λ to. withdrawn_together ts g.head g.blocks k.blocks to) run
obeyed_run clock read_self g k run = self_read_run clock g k run

pub carried_run : (clock number : ℕ) (o : Order) (g k : Going) → Run g.blocks g k → Run g.blocks (carried_out clock number o g) (carried_out clock number o k)
unfolding carried_out
carried_run clock number o g k run = noted_run clock _ _ _ (obeyed_run clock o g k run)
