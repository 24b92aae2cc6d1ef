-- The entries that the steps record, in outline.
use Rattle.std.proofs.Common.{◌≡◌, ℕ, ◌+◌, ◌/◌, ◌%◌, Bool, true, false, cond, ◌&&◌, eqb, List, [], ◌∷◌, ◌++◌, map, get_or, sym, refl, ap, ◌∙◌, ap₂, append_assoc, append-nil, arith}
use Rattle.std.proofs.lemmas.List.{map-append, get_or-set_other}
use Rattle.std.proofs.lemmas.Bool.{cond_both}
use Rattle.calendar.specs.Calendar.{date_of}
use Rattle.memory.specs.Blocks.{Block}
use Rattle.records.specs.declared.event.Event.{Event}
use Rattle.records.specs.declared.event.Event.TheVariants.{PowerUp, PendingActivated, SelfReadTaken}
use Rattle.pending.specs.declared.plan.Plan.{Plan}
use Rattle.pending.specs.declared.row.Row.{Row}
use Rattle.pending.specs.declared.row.Row.TheVariants.{Empty, Waiting}
use Rattle.pending.specs.declared.table.PendingTable.{PendingTable}
use Rattle.pending.specs.declared.table.PendingTable.TheVariants.{Calendar, Outputs, Override}
use Rattle.pending.specs.declared.trigger.Due.{Due}
use Rattle.pending.specs.declared.trigger.Trigger.{Trigger}
use Rattle.pending.specs.declared.trigger.Trigger.TheVariants.{Absolute, Relative, OnCommand}
use Rattle.pending.specs.Rows.{is_due}
use Rattle.pending.specs.Tables.{table_number, table_index, all_tables}
use Rattle.pending.specs.Triggers.{kind_of}
use Rattle.fates.specs.Stagings.{same, due_by, Account, waiting_in, listed}
use Rattle.model.specs.States.{Going, row_of, on_head, on_blocks}
use Rattle.model.specs.Steps.{entered, noted, self_read_taken, interval_taken, read_first, brought_in, row_spent, took_force, activated, activated_if, each_activated, time_changed}
use Rattle.model.specs.Calls.{power_up, ticked, scheduled_read, interval_read, mark_started}
use Rattle.model.specs.Tables.{current_table}
use Rattle.model.specs.Tariffs.{is_scheduled}
use Rattle.ledger.specs.Entries.{Outline, event, self_read, interval, outline_of, reading, activations_of, all_activations, asks_reading}
use Rattle.ledger.proofs.Seen.{seen_row}
use Rattle.ledger.proofs.Views.{apart}
use Rattle.ledger.proofs.ViewsForce.{Tests, due_tests}

-- the outline of what a call has recorded so far
abbrev pub outlines : Going → List Outline
outlines g = map outline_of g.entries

pub noted_outline : (clock : ℕ) (e : Event) (g : Going) → outlines (noted clock e g) ≡ outlines g ++ event (date_of clock) e ∷ []
unfolding noted entered
noted_outline clock e g = map-append outline_of g.entries _

pub self_read_outline : (clock : ℕ) (g : Going) → outlines (self_read_taken clock g) ≡ outlines g ++ reading clock
unfolding self_read_taken entered
self_read_outline clock g =
    noted_outline clock SelfReadTaken _ ∙ ap (λ xs. xs ++ event (date_of clock) SelfReadTaken ∷ []) (map-append outline_of g.entries _) ∙ append_assoc (outlines g) (self_read (date_of clock) ∷ []) (event (date_of clock) SelfReadTaken ∷ [])

pub interval_outline : (clock : ℕ) (g : Going) → outlines (interval_taken clock g) ≡ outlines g ++ interval (date_of clock) ∷ []
unfolding interval_taken entered
interval_outline clock g = map-append outline_of g.entries _

first_outline : (flag : Bool) (clock : ℕ) (g : Going) → outlines (read_first flag clock g) ≡ outlines g ++ cond flag (reading clock) []
first_outline true clock g = self_read_outline clock g
first_outline false clock g = sym (append-nil (outlines g))

-- bit 4 of a plan's first byte
flagged : (t : Trigger) (flag : Bool) → eqb ((kind_of t + cond flag 16 0) / 16 % 2) 1 ≡ flag
flagged (Absolute y m d h n) true = refl
flagged (Absolute y m d h n) false = refl
flagged (Relative w d h m s) true = refl
flagged (Relative w d h m s) false = refl
flagged OnCommand true = refl
flagged OnCommand false = refl

-- what a row brings as it takes force, if it is meant
abbrev pub row_brings : (Due → Bool) → ℕ → PendingTable → Row → List Outline
row_brings test clock t row = activations_of test clock t (listed (seen_row t row []))

pub brings_seen : (test : Due → Bool) (clock : ℕ) (t : PendingTable) (row : Row) (bs : List Block) → activations_of test clock t (listed (seen_row t row bs)) ≡ row_brings test clock t row
brings_seen test clock t Empty bs = refl
brings_seen test clock t (Waiting plan due) bs = refl

force_outline : (t : PendingTable) (clock : ℕ) (plan : Plan) (due : Due) (g : Going) →
    outlines (took_force t clock (Waiting plan due) g) ≡ outlines g ++ (cond plan.self_read (reading clock) [] ++ event (date_of clock) (PendingActivated (table_number t)) ∷ [])
force_outline t clock plan due g =
    noted_outline clock (PendingActivated (table_number t)) _
    ∙ ap (λ xs. xs ++ event (date_of clock) (PendingActivated (table_number t)) ∷ []) (first_outline plan.self_read clock g)
    ∙ append_assoc (outlines g) (cond plan.self_read (reading clock) []) _

row_outline : (t : PendingTable) (clock : ℕ) (test : Row → Bool) (meant : Due → Bool) → Tests test meant → (row : Row) (g : Going) →
    outlines (cond (test row) (took_force t clock row g) g) ≡ outlines g ++ row_brings meant clock t row
row_outline t clock test meant is Empty g = rw is.none (sym (append-nil (outlines g)))
row_outline t clock test meant is (Waiting plan due) g =
    rw (is.waits plan due, flagged plan.trigger plan.self_read)
    (cond_both (meant due) (took_force t clock (Waiting plan due) g) g
    (λ (x : Going). outlines x ≡ outlines g ++ (cond (meant due) (cond plan.self_read (reading clock) [] ++ event (date_of clock) (PendingActivated (table_number t)) ∷ []) [] ++ []))
    (λ e. rw e (force_outline t clock plan due g ∙ ap (λ xs. outlines g ++ xs) (sym (append-nil _))))
    (λ e. rw e (sym (append-nil (outlines g)))))

pub if_outline : (t : PendingTable) (clock : ℕ) (test : Row → Bool) (meant : Due → Bool) → Tests test meant → (g : Going) →
    outlines (activated_if test clock t g) ≡ outlines g ++ row_brings meant clock t (row_of t g.head)
unfolding activated
if_outline t clock test meant is g = row_outline t clock test meant is (row_of t g.head) g

-- recording leaves the rows, and a row that takes force leaves the others
noted_rows : (clock : ℕ) (e : Event) (g : Going) → (noted clock e g).head.rows ≡ g.head.rows
unfolding noted entered
noted_rows clock e g = refl

self_read_rows : (clock : ℕ) (g : Going) → (self_read_taken clock g).head.rows ≡ g.head.rows
unfolding self_read_taken noted entered
self_read_rows clock g = refl

first_rows : (flag : Bool) (clock : ℕ) (g : Going) → (read_first flag clock g).head.rows ≡ g.head.rows
first_rows true clock g = self_read_rows clock g
first_rows false clock g = refl

force_other : (t u : PendingTable) → same u t ≡ false → (clock : ℕ) (row : Row) (g : Going) → row_of u (took_force t clock row g).head ≡ row_of u g.head
force_other t u ne clock Empty g = refl
force_other t u ne clock (Waiting plan due) g =
    ap (λ rows. get_or rows (table_index u) Empty) (noted_rows clock (PendingActivated (table_number t)) (on_head (row_spent t clock) (on_blocks (brought_in t) (read_first plan.self_read clock g))))
    ∙ get_or-set_other (read_first plan.self_read clock g).head.rows (table_index t) (table_index u) Empty Empty (apart u t ne)
    ∙ ap (λ rows. get_or rows (table_index u) Empty) (first_rows plan.self_read clock g)

pub if_other : (test : Row → Bool) (clock : ℕ) (t u : PendingTable) → same u t ≡ false → (g : Going) → row_of u (activated_if test clock t g).head ≡ row_of u g.head
unfolding activated
if_other test clock t u ne g =
    cond_both (test (row_of t g.head)) (took_force t clock (row_of t g.head) g) g (λ (x : Going). row_of u x.head ≡ row_of u g.head) (λ _. force_other t u ne clock (row_of t g.head) g) (λ _. refl)

-- all rows, in directory order
abbrev pub rows_bring : (Due → Bool) → ℕ → (PendingTable → Row) → List Outline
rows_bring meant clock rows = row_brings meant clock Calendar (rows Calendar) ++ (row_brings meant clock Outputs (rows Outputs) ++ row_brings meant clock Override (rows Override))

pub each_outline : (clock : ℕ) (test : Row → Bool) (meant : Due → Bool) → Tests test meant → (g : Going) →
    outlines (each_activated test clock all_tables g) ≡ outlines g ++ rows_bring meant clock (λ t. row_of t g.head)
each_outline clock test meant is g =
    let a = activated_if test clock Calendar g in
    let b = activated_if test clock Outputs a in
    let outputs : row_of Outputs a.head ≡ row_of Outputs g.head = if_other test clock Calendar Outputs refl g in
    let override : row_of Override b.head ≡ row_of Override g.head = if_other test clock Outputs Override refl a ∙ if_other test clock Calendar Override refl g in
    if_outline Override clock test meant is b
    ∙ ap₂ (λ xs row. xs ++ row_brings meant clock Override row)
    (if_outline Outputs clock test meant is a ∙ ap₂ (λ xs row. xs ++ row_brings meant clock Outputs row) (if_outline Calendar clock test meant is g) outputs) override
    ∙ append_assoc (outlines g ++ row_brings meant clock Calendar (row_of Calendar g.head)) (row_brings meant clock Outputs (row_of Outputs g.head)) _
    ∙ append_assoc (outlines g) (row_brings meant clock Calendar (row_of Calendar g.head)) _

pub time_outline : (clock : ℕ) (g : Going) → outlines (time_changed clock g) ≡ outlines g ++ rows_bring (due_by clock) clock (λ t. row_of t g.head)
unfolding time_changed
time_outline clock g = each_outline clock (λ row. is_due row clock) (due_by clock) (due_tests clock) g

-- an event, and then what is due
pub event_then_time : (s : ℕ) (e : Event) (g : Going) → outlines (time_changed s (noted s e g)) ≡ outlines g ++ (event (date_of s) e ∷ rows_bring (due_by s) s (λ t. row_of t g.head))
event_then_time s e g =
    time_outline s (noted s e g) ∙ ap₂ (λ xs rows. xs ++ rows_bring (due_by s) s (λ t. get_or rows (table_index t) Empty)) (noted_outline s e g) (noted_rows s e g) ∙ append_assoc (outlines g) (event (date_of s) e ∷ []) _

pub power_outline : (s : ℕ) (g : Going) → outlines (power_up s g) ≡ outlines g ++ (event (date_of s) PowerUp ∷ rows_bring (due_by s) s (λ t. row_of t g.head))
unfolding power_up
power_outline s g = event_then_time s PowerUp (on_head mark_started g)

-- the calendar's schedule, by the date-time
and_moved : (a b c d : Bool) → (a && (b && (c && d))) ≡ ((a && (b && c)) && d)
and_moved true true true d = refl
and_moved true true false d = refl
and_moved true false c d = refl
and_moved false b c d = refl

pub schedule_asks : (calendar : List ℕ) (s : ℕ) → is_scheduled calendar s ≡ asks_reading calendar s
unfolding is_scheduled date_of
schedule_asks calendar s =
    let minute : s % 86400 / 60 % 60 ≡ s / 60 % 60 = omega arith in
    let hour : s % 86400 / 3600 ≡ s / 3600 % 24 = omega arith in
    rw (minute, hour) (and_moved (eqb (s % 60) 0) (eqb (s / 60 % 60) (get_or calendar 3 0)) (eqb (s / 3600 % 24) (get_or calendar 2 0)) _)

pub tick_outline : (s : ℕ) (g : Going) → outlines (ticked s g) ≡
    outlines g ++ (rows_bring (due_by s) s (λ t. row_of t g.head) ++ (cond (asks_reading (current_table Calendar (time_changed s g).blocks) s) (reading s) [] ++ cond (eqb (s % 900) 0) (interval (date_of s) ∷ []) []))
unfolding ticked
tick_outline s g =
    let a = time_changed s g in
    let asks = asks_reading (current_table Calendar a.blocks) s in
    let b = scheduled_read s a in
    let read : outlines b ≡ outlines a ++ cond asks (reading s) [] =
    rw (schedule_asks (current_table Calendar a.blocks) s)
    (cond_both asks (self_read_taken s a) a (λ (x : Going). outlines x ≡ outlines a ++ cond asks (reading s) []) (λ e. rw e (self_read_outline s a)) (λ e. rw e (sym (append-nil (outlines a))))) in
    let last : outlines (interval_read s b) ≡ outlines b ++ cond (eqb (s % 900) 0) (interval (date_of s) ∷ []) [] =
    cond_both (eqb (s % 900) 0) (interval_taken s b) b (λ (x : Going). outlines x ≡ outlines b ++ cond (eqb (s % 900) 0) (interval (date_of s) ∷ []) []) (λ e. rw e (interval_outline s b)) (λ e. rw e (sym (append-nil (outlines b)))) in
    last ∙ ap (λ xs. xs ++ cond (eqb (s % 900) 0) (interval (date_of s) ∷ []) []) (read ∙ ap (λ xs. xs ++ cond asks (reading s) []) (time_outline s g))
    ∙ append_assoc (outlines g ++ rows_bring (due_by s) s (λ t. row_of t g.head)) (cond asks (reading s) []) _
    ∙ append_assoc (outlines g) (rows_bring (due_by s) s (λ t. row_of t g.head)) _

-- what the rows bring is what the stagings that wait do
pub rows_account : (meant : Due → Bool) (clock : ℕ) (a : Account) (rows : PendingTable → Row) (bs : List Block) →
    ((t : PendingTable) → waiting_in t a.stagings ≡ listed (seen_row t (rows t) bs)) → all_activations meant clock a ≡ rows_bring meant clock rows
rows_account meant clock a rows bs same =
    let one : (t : PendingTable) → activations_of meant clock t (waiting_in t a.stagings) ≡ row_brings meant clock t (rows t) =
    λ t. ap (activations_of meant clock t) (same t) ∙ brings_seen meant clock t (rows t) bs in
    ap₂ (λ xs ys. xs ++ ys) (one Calendar) (ap₂ (λ xs ys. xs ++ ys) (one Outputs) (one Override))
