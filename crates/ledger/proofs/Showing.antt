-- The bytes of a sound memory show what its head says.
use Rattle.std.proofs.Common.{◌≡◌, ℕ, Bool, true, false, List, [], ◌∷◌, Some, Option, sym, refl, ap, ◌∙◌, ap₂, arith}
use mathlib.Core.Path.{fun_ext}
use Rattle.std.proofs.lemmas.Bool.{and_parts}
use Rattle.access.specs.Ready.{content_of}
use Rattle.fields.specs.Words.{word}
use Rattle.memory.specs.Blocks.{Block}
use Rattle.numbers.specs.declared.log.LogName.{LogName}
use Rattle.numbers.specs.declared.log.LogName.TheVariants.{History, SelfReads, LoadProfile}
use Rattle.logs.specs.declared.head.LogHead.{LogHead}
use Rattle.pending.specs.declared.plan.Plan.{Plan}
use Rattle.pending.specs.declared.row.Row.{Row}
use Rattle.pending.specs.declared.row.Row.TheVariants.{Empty, Waiting}
use Rattle.pending.specs.declared.table.PendingTable.{PendingTable}
use Rattle.pending.specs.declared.table.PendingTable.TheVariants.{Calendar, Outputs, Override}
use Rattle.pending.specs.declared.trigger.Due.{Due}
use Rattle.pending.specs.declared.trigger.Trigger.{Trigger}
use Rattle.pending.specs.declared.trigger.Trigger.TheVariants.{Absolute, Relative, OnCommand}
use Rattle.pending.specs.Rows.{is_row_formed}
use Rattle.pending.specs.Triggers.{plan_bytes, plan_of, due_of}
use Rattle.head.specs.declared.head.Head.{Head}
use Rattle.head.specs.Heads.{encode_head}
use Rattle.head.specs.Order.{WellFormed, RowsFormed, LogsFormed}
use Rattle.head.specs.Layout.{log_sizes}
use Rattle.head.specs.Pieces.{row_bytes, log_bytes, plan_part, row_with}
use Rattle.head.specs.Pieces as piece
use Rattle.head.proofs.HeadLaws.{by_three, logs_three, head_with, cut_encoded}
use Rattle.head.proofs.PieceLaws.{log_reads}
use Rattle.head.proofs.RowLaws.{row_reads}
use Rattle.pending.proofs.PlanBytes.{plan_laws}
use Rattle.fates.specs.Stagings.{Seen, empty, waiting, Memory}
use Rattle.model.specs.States.{row_of, log_of}
use Rattle.model.specs.Tables.{current_table, staged_table}
use Rattle.model.specs.Soundness.{SoundImage}
use Rattle.model.proofs.StayingSound.{said}
use Rattle.ledger.specs.Statement.{row_in, row_shown, staged_in, table_in, counts_in, memory_of, head_in}
use Rattle.ledger.proofs.Seen.{seen_row, said_of}

-- a row's bytes show the row
abbrev row_seen : Row → List ℕ → Seen
row_seen Empty bytes = empty
row_seen (Waiting plan due) bytes = waiting (record { trigger = plan_bytes plan; due = due; bytes = bytes })

plan_there : (t : Trigger) (flag : Bool) (due : Due) → plan_part (row_bytes (Waiting (record { trigger = t; self_read = flag }) due)) ≡ plan_bytes (record { trigger = t; self_read = flag })
unfolding row_bytes
plan_there (Absolute y m d h n) flag due = refl
plan_there (Relative w d h m s) flag due = refl
plan_there OnCommand flag due = refl

-- the second that is read back is the one that it waits for
due_there : (plan : Plan) (due : Due) → is_row_formed (Waiting plan due) ≡ true → due_of plan.trigger (word 4 7 (row_bytes (Waiting plan due))) ≡ due
unfolding row_bytes
due_there plan due formed =
    let row = Waiting plan due in
    let read : piece.row_of (row_bytes row) ≡ row = row_reads row formed in
    let known : plan_of (plan_part (row_bytes row)) ≡ Some plan = ap plan_of (plan_there plan.trigger plan.self_read due) ∙ plan_laws.reads plan (and_parts _ _ formed).0 in
    let same : Waiting plan (due_of plan.trigger (word 4 7 (row_bytes row))) ≡ Waiting plan due = sym (ap (λ (o : Option Plan). row_with o (word 4 7 (row_bytes row))) known) ∙ read in
    cc

waits_shown : (t : Trigger) (flag : Bool) (due : Due) (bytes : List ℕ) → due_of t (word 4 7 (row_bytes (Waiting (record { trigger = t; self_read = flag }) due))) ≡ due →
    row_shown (row_bytes (Waiting (record { trigger = t; self_read = flag }) due)) bytes ≡ row_seen (Waiting (record { trigger = t; self_read = flag }) due) bytes
unfolding row_bytes
waits_shown (Absolute y m d h n) true due bytes e = ap (λ x. waiting (record { trigger = plan_bytes (record { trigger = Absolute y m d h n; self_read = true }); due = x; bytes = bytes })) e
waits_shown (Absolute y m d h n) false due bytes e = ap (λ x. waiting (record { trigger = plan_bytes (record { trigger = Absolute y m d h n; self_read = false }); due = x; bytes = bytes })) e
waits_shown (Relative w d h m s) true due bytes e = ap (λ x. waiting (record { trigger = plan_bytes (record { trigger = Relative w d h m s; self_read = true }); due = x; bytes = bytes })) e
waits_shown (Relative w d h m s) false due bytes e = ap (λ x. waiting (record { trigger = plan_bytes (record { trigger = Relative w d h m s; self_read = false }); due = x; bytes = bytes })) e
waits_shown OnCommand true due bytes e = ap (λ x. waiting (record { trigger = plan_bytes (record { trigger = OnCommand; self_read = true }); due = x; bytes = bytes })) e
waits_shown OnCommand false due bytes e = ap (λ x. waiting (record { trigger = plan_bytes (record { trigger = OnCommand; self_read = false }); due = x; bytes = bytes })) e

row_shown_lem : (r : Row) (bytes : List ℕ) → is_row_formed r ≡ true → row_shown (row_bytes r) bytes ≡ row_seen r bytes
unfolding row_bytes
row_shown_lem Empty bytes formed = refl
row_shown_lem (Waiting plan due) bytes formed = waits_shown plan.trigger plan.self_read due bytes (due_there plan due formed)

-- the pieces of block 0
rows_there : (h : Head) → WellFormed h → (t : PendingTable) → (row_in t (encode_head h) ≡ row_bytes (row_of t h)) × (is_row_formed (row_of t h) ≡ true)
rows_there h w =
    by_three (λ rs. RowsFormed rs → (t : PendingTable) → (row_in t (encode_head (head_with rs h.logs h)) ≡ row_bytes (row_of t (head_with rs h.logs h))) × (is_row_formed (row_of t (head_with rs h.logs h)) ≡ true))
    (λ x y z.
    by_three (λ ls. RowsFormed (x ∷ y ∷ z ∷ []) → (t : PendingTable) → (row_in t (encode_head (head_with (x ∷ y ∷ z ∷ []) ls h)) ≡ row_bytes (row_of t (head_with (x ∷ y ∷ z ∷ []) ls h))) × (is_row_formed (row_of t (head_with (x ∷ y ∷ z ∷ []) ls h)) ≡ true))
    (λ a b c. three x y z a b c)
    h.logs (logs_three h.logs w.logs))
    h.rows w.three w.rows
  where
    three : (x y z : Row) (a b c : LogHead) → RowsFormed (x ∷ y ∷ z ∷ []) → (t : PendingTable) →
        (row_in t (encode_head (head_with (x ∷ y ∷ z ∷ []) (a ∷ b ∷ c ∷ []) h)) ≡ row_bytes (row_of t (head_with (x ∷ y ∷ z ∷ []) (a ∷ b ∷ c ∷ []) h))) × (is_row_formed (row_of t (head_with (x ∷ y ∷ z ∷ []) (a ∷ b ∷ c ∷ []) h)) ≡ true)
    three x y z a b c f Calendar = ((cut_encoded x y z a b c h.activation h.registers h.status).row₀, f.0)
    three x y z a b c f Outputs = ((cut_encoded x y z a b c h.activation h.registers h.status).row₁, f.1.0)
    three x y z a b c f Override = ((cut_encoded x y z a b c h.activation h.registers h.status).row₂, f.1.1.0)

staged_there : (t : PendingTable) (bs : List Block) → staged_in t bs ≡ staged_table t bs
staged_there Calendar bs = refl
staged_there Outputs bs = refl
staged_there Override bs = refl

table_there : (t : PendingTable) (bs : List Block) → table_in t bs ≡ current_table t bs
table_there Calendar bs = refl
table_there Outputs bs = refl
table_there Override bs = refl

seen_as : (t : PendingTable) (r : Row) (bs : List Block) → row_seen r (staged_table t bs) ≡ seen_row t r bs
seen_as t Empty bs = refl
seen_as t (Waiting plan due) bs = refl

abbrev memory : (PendingTable → Seen) → (PendingTable → List ℕ) → Memory
memory rows tables = record { rows = rows; tables = tables }

pub shown_said : (bs : List Block) → SoundImage bs → memory_of bs ≡ said_of bs
shown_said bs i =
    ap₂ memory
    (fun_ext (λ t.
    let there = rows_there i.head i.formed t in
    ap₂ (λ c x. row_shown (row_in t c) x) i.says (staged_there t bs) ∙ ap (λ r. row_shown r (staged_table t bs)) there.0 ∙ row_shown_lem (row_of t i.head) (staged_table t bs) there.1 ∙ seen_as t (row_of t i.head) bs
    ∙ ap (λ (h : Head). seen_row t (row_of t h) bs) (sym (said bs i))))
    (fun_ext (λ t. table_there t bs))

-- and the counts of the logs
log_there : (h : Head) → WellFormed h → (name : LogName) → (counts_in name (encode_head h) ≡ log_bytes (log_of name h)) × (piece.log_of (log_bytes (log_of name h)) ≡ log_of name h)
log_there h w =
    by_three (λ rs. (name : LogName) → (counts_in name (encode_head (head_with rs h.logs h)) ≡ log_bytes (log_of name h)) × (piece.log_of (log_bytes (log_of name h)) ≡ log_of name h))
    (λ x y z.
    by_three (λ ls. LogsFormed log_sizes ls → (name : LogName) → (counts_in name (encode_head (head_with (x ∷ y ∷ z ∷ []) ls h)) ≡ log_bytes (log_of name (head_with (x ∷ y ∷ z ∷ []) ls h))) × (piece.log_of (log_bytes (log_of name (head_with (x ∷ y ∷ z ∷ []) ls h))) ≡ log_of name (head_with (x ∷ y ∷ z ∷ []) ls h)))
    (λ a b c. three x y z a b c)
    h.logs (logs_three h.logs w.logs) w.logs)
    h.rows w.three
  where
    three : (x y z : Row) (a b c : LogHead) → LogsFormed log_sizes (a ∷ b ∷ c ∷ []) → (name : LogName) →
        (counts_in name (encode_head (head_with (x ∷ y ∷ z ∷ []) (a ∷ b ∷ c ∷ []) h)) ≡ log_bytes (log_of name (head_with (x ∷ y ∷ z ∷ []) (a ∷ b ∷ c ∷ []) h)))
        × (piece.log_of (log_bytes (log_of name (head_with (x ∷ y ∷ z ∷ []) (a ∷ b ∷ c ∷ []) h))) ≡ log_of name (head_with (x ∷ y ∷ z ∷ []) (a ∷ b ∷ c ∷ []) h))
    three x y z a b c f History = ((cut_encoded x y z a b c h.activation h.registers h.status).log₀, log_reads 102 a (omega arith) f.0)
    three x y z a b c f SelfReads = ((cut_encoded x y z a b c h.activation h.registers h.status).log₁, log_reads 24 b (omega arith) f.1.0)
    three x y z a b c f LoadProfile = ((cut_encoded x y z a b c h.activation h.registers h.status).log₂, log_reads 672 c (omega arith) f.1.1.0)

pub counts_said : (bs : List Block) → SoundImage bs → (name : LogName) → piece.log_of (counts_in name (content_of bs 0)) ≡ log_of name (head_in bs)
counts_said bs i name =
    let there = log_there i.head i.formed name in
    ap (λ c. piece.log_of (counts_in name c)) i.says ∙ ap piece.log_of there.0 ∙ there.1 ∙ ap (λ (h : Head). log_of name h) (sym (said bs i))
