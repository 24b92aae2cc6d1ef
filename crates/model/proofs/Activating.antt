-- Activations, the change of time and the tick keep what the steps keep.
use Rattle.std.proofs.Common.{◌≡◌, ℕ, zero, suc, ◌+◌, ◌%◌, ◌<◌, ◌≤◌, Bool, true, false, eqb, List, [], ◌∷◌, length, refl, ◌∙◌, arith}
use Rattle.std.proofs.lemmas.List.{length-take, length-drop}
use Rattle.std.proofs.lemmas.Bool.{cond_both}
use Rattle.access.specs.Ready.{content_of, stored}
use Rattle.access.proofs.Readiness.{ready_stored, content_long}
use Rattle.calendar.specs.Calendar.{seconds_in_all}
use Rattle.fields.specs.Words.{part}
use Rattle.fields.specs.Patches.{patch}
use Rattle.fields.proofs.Places.{length_patch}
use Rattle.memory.specs.Blocks.{Block, Whole}
use Rattle.logs.proofs.SlotWrites.{content_other}
use Rattle.pending.specs.declared.row.Row.{Row}
use Rattle.pending.specs.declared.row.Row.TheVariants.{Empty, Waiting}
use Rattle.pending.specs.declared.table.PendingTable.{PendingTable}
use Rattle.pending.specs.declared.table.PendingTable.TheVariants.{Calendar, Outputs, Override}
use Rattle.pending.specs.Rows.{is_due}
use Rattle.pending.specs.Tables.{table_index}
use Rattle.directory.specs.Geometry.{staged_length, current_block, pending_block}
use Rattle.head.proofs.Frames.{frames}
use Rattle.model.specs.States.{Going, row_of, on_head, on_blocks}
use Rattle.model.specs.Steps.{entered, noted, self_read_taken, brought_in, row_spent, read_first, took_force, activated, activated_if, time_changed}
use Rattle.model.specs.Calls.{scheduled_read, ticked, power_up}
use Rattle.model.specs.Tables.{current_table}
use Rattle.model.specs.Tariffs.{is_scheduled}
use Rattle.model.proofs.Places.{current_place, staged_short}
use Rattle.model.proofs.Keeping.{Kept, raised, noted_kept, self_read_kept, interval_kept, status_kept}

pub whole_stored : (bs : List Block) (k : ℕ) (content : List ℕ) → Whole bs → length content ≡ 510 → Whole (stored bs k content)
whole_stored [] k content w long = tt
whole_stored (b ∷ bs) zero content w long = (long, w.1)
whole_stored (b ∷ bs) (suc k) content w long = (w.0, whole_stored bs k content w.1 long)

brought_kept : {c : List ℕ} {n : ℕ} (t : PendingTable) (g : Going) → Kept c n g → Kept c n (on_blocks (brought_in t) g)
brought_kept t g kept =
    let old = content_of g.blocks (current_block t) in
    let new = part (staged_length t) 0 (content_of g.blocks (pending_block t)) in
    let long : length old ≡ 510 = content_long g.blocks kept.whole kept.ready (current_block t) (omega (arith, (current_place t).1)) in
    let fits : 0 + length new ≤ length old = rw (length-take, length-drop) (omega (arith, staged_short t)) in
    record {
      formed = kept.formed;
      totals = kept.totals;
      ready = ready_stored g.blocks (current_block t) (patch 0 new old) kept.ready;
      whole = whole_stored g.blocks (current_block t) (patch 0 new old) kept.whole (length_patch 0 new old fits ∙ long);
      zero = content_other g.blocks (current_block t) 0 (patch 0 new old) (λ e. omega (arith, (current_place t).0)) ∙ kept.zero;
    }

spent_kept : {c : List ℕ} {n : ℕ} (t : PendingTable) (clock : ℕ) (g : Going) → clock < seconds_in_all → Kept c n g → Kept c n (on_head (row_spent t clock) g)
spent_kept t clock g real kept =
    let row = frames.row_kept g.head (table_index t) Empty kept.formed refl in
    record {
      formed = record { three = row.three; rows = row.rows; logs = row.logs; activation = real; registers = row.registers };
      totals = kept.totals;
      ready = kept.ready;
      whole = kept.whole;
      zero = kept.zero;
    }

pub first_kept : {c : List ℕ} (n clock : ℕ) (flag : Bool) (g : Going) → n < 90000000 → Kept c n g → Kept c (n + 2) (read_first flag clock g)
first_kept n clock true g few kept = self_read_kept n clock g (omega arith) kept
first_kept n clock false g few kept = raised (n + 2) g (omega arith) kept

pub first_rows : (flag : Bool) (clock : ℕ) (g : Going) → (read_first flag clock g).head.rows ≡ g.head.rows
unfolding self_read_taken noted entered
first_rows true clock g = refl
first_rows false clock g = refl

force_kept : {c : List ℕ} (n clock : ℕ) (t : PendingTable) (row : Row) (g : Going) → clock < seconds_in_all → n < 80000000 → Kept c n g → Kept c (n + 3) (took_force t clock row g)
force_kept n clock t Empty g real few kept = raised (n + 3) g (omega arith) kept
force_kept n clock t (Waiting plan due) g real few kept =
    raised (n + 3) _ (omega arith)
    (noted_kept (n + 2) clock _ _ (omega arith) (spent_kept t clock _ real (brought_kept t _ (first_kept n clock plan.self_read g (omega arith) kept))))

activated_kept : {c : List ℕ} (n clock : ℕ) (t : PendingTable) (g : Going) → clock < seconds_in_all → n < 80000000 → Kept c n g → Kept c (n + 3) (activated clock t g)
unfolding activated
activated_kept n clock t g real few kept = force_kept n clock t (row_of t g.head) g real few kept

pub if_kept : {c : List ℕ} (n clock : ℕ) (test : Row → Bool) (t : PendingTable) (g : Going) → clock < seconds_in_all → n < 80000000 → Kept c n g → Kept c (n + 3) (activated_if test clock t g)
if_kept {c} n clock test t g real few kept =
    cond_both (test (row_of t g.head)) (activated clock t g) g (λ (x : Going). Kept c (n + 3) x) (λ _. activated_kept n clock t g real few kept) (λ _. raised (n + 3) g (omega arith) kept)

pub time_kept : {c : List ℕ} (n clock : ℕ) (g : Going) → clock < seconds_in_all → n < 70000000 → Kept c n g → Kept c (n + 9) (time_changed clock g)
unfolding time_changed
time_kept n clock g real few kept =
    let test : Row → Bool = λ row. is_due row clock in
    raised (n + 9) _ (omega arith)
    (if_kept (n + 3 + 3) clock test Override _ real (omega arith) (if_kept (n + 3) clock test Outputs _ real (omega arith) (if_kept n clock test Calendar g real (omega arith) kept)))

pub ticked_kept : {c : List ℕ} (n s : ℕ) (g : Going) → s < seconds_in_all → n < 60000000 → Kept c n g → Kept c (n + 12) (ticked s g)
unfolding ticked
ticked_kept {c} n s g real few kept =
    let a = time_changed s g in
    let ka : Kept c (n + 9) a = time_kept n s g real (omega arith) kept in
    let b = scheduled_read s a in
    let kb : Kept c (n + 11) b = cond_both (is_scheduled (current_table Calendar a.blocks) s) (self_read_taken s a) a (λ (x : Going). Kept c (n + 11) x) (λ _. raised (n + 11) _ (omega arith) (self_read_kept (n + 9) s a (omega arith) ka)) (λ _. raised (n + 11) a (omega arith) ka) in
    cond_both (eqb (s % 900) 0) _ b (λ (x : Going). Kept c (n + 12) x) (λ _. raised (n + 12) _ (omega arith) (interval_kept (n + 11) s b (omega arith) kb)) (λ _. raised (n + 12) b (omega arith) kb)

pub power_kept : {c : List ℕ} (n s : ℕ) (g : Going) → s < seconds_in_all → n < 60000000 → Kept c n g → Kept c (n + 10) (power_up s g)
unfolding power_up
power_kept n s g real few kept = raised (n + 10) _ (omega arith) (time_kept (n + 1) s _ real (omega arith) (noted_kept n s _ _ (omega arith) (status_kept _ g kept)))
