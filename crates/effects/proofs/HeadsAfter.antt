-- What block 0 says after a write and after a staging.
use Rattle.std.proofs.Common.{◌≡◌, ℕ, ◌<◌, ◌≤◌, true, cond, List, length, take, drop, set, is_some, Some, None, Ok, Err, Option, Result, sym, refl, ap, ◌∙◌, arith}
use Rattle.std.proofs.lemmas.List.{length-set, length-take}
use Rattle.records.specs.declared.event.Event.TheVariants.{TableWritten}
use Rattle.refusals.specs.declared.fault.ServiceFault.{ServiceFault}
use Rattle.refusals.specs.declared.fault.ServiceFault.TheVariants.{BadContent}
use Rattle.pending.specs.declared.plan.Plan.{Plan}
use Rattle.pending.specs.declared.trigger.Due.{Due}
use Rattle.pending.specs.declared.row.Row.{Row}
use Rattle.pending.specs.declared.table.PendingTable.{PendingTable}
use Rattle.pending.specs.Rows.{is_waiting, row_plan_bytes}
use Rattle.pending.specs.Tables.{table_index}
use Rattle.pending.specs.Triggers.{plan_of, due_when}
use Rattle.pending.proofs.PlanBytes.{plan_laws}
use Rattle.directory.specs.declared.entry.TableEntry.{TableEntry}
use Rattle.directory.specs.Geometry.{pending_block}
use Rattle.head.specs.declared.head.Head.{Head}
use Rattle.head.specs.Order.{WellFormed}
use Rattle.model.specs.States.{Meter, begun, set_row, on_head, on_blocks}
use Rattle.model.specs.Steps.{noted}
use Rattle.model.specs.Calls.{totals_verdict}
use Rattle.model.specs.Requests.{writing, staging, staged_due, due_with, ruled, content_verdict}
use Rattle.model.specs.Tariffs.{is_right}
use Rattle.model.specs.Serving.{put_in, write_done, row_for, stage_done, head_of, performed}
use Rattle.model.specs.Soundness.{SoundMeter}
use Rattle.model.proofs.Keeping.{noted_kept, noted_rows, noted_formed}
use Rattle.model.proofs.StayingSound.{begun_kept, ended_says}
use Rattle.model.proofs.ServingSound.{row_kept, row_formed}
use Rattle.model.proofs.Outcomes.{never}
use Rattle.effects.proofs.Numbering.{noted_many, put_many}

some_blocks : (m : Meter) → SoundMeter m → 0 < length m.blocks
some_blocks m good = omega (arith, good.image.ready.enough)

pub rows_written : (t : TableEntry) (from : ℕ) (bytes : List ℕ) (m : Meter) → SoundMeter m → totals_verdict m.blocks ≡ Ok tt → (head_of (performed (writing t from bytes) m).meter).rows ≡ (head_of m).rows
unfolding performed
rows_written t from bytes m good totals =
    let kept = noted_kept 0 m.clock (TableWritten t.number) (begun m.blocks) (omega arith) (begun_kept m.blocks good.image totals) in
    let formed = noted_formed m.clock (TableWritten t.number) (put_in t.block from bytes) (begun m.blocks) kept.formed in
    let put = on_blocks (put_in t.block from bytes) (begun m.blocks) in
    let some : 0 < length (noted m.clock (TableWritten t.number) put).blocks = rw (noted_many, put_many) (some_blocks m good) in
    ap (λ (h : Head). h.rows) (ended_says (write_done m t from bytes) formed some) ∙ noted_rows m.clock _ put

-- the row that a staging makes
abbrev pub staged_row : List ℕ → Meter → Row
staged_row bytes m = row_for (staged_due (plan_of (take 6 bytes)) m.clock)

pub rows_staged : (t : TableEntry) (table : PendingTable) (bytes : List ℕ) (m : Meter) → SoundMeter m → totals_verdict m.blocks ≡ Ok tt →
    (head_of (performed (staging t table bytes) m).meter).rows ≡ set (head_of m).rows (table_index table) (staged_row bytes m)
unfolding performed
rows_staged t table bytes m good totals =
    let base = begun_kept m.blocks good.image totals in
    let waiting = on_head (set_row table (staged_row bytes m)) (begun m.blocks) in
    let row = row_kept table (staged_row bytes m) (begun m.blocks) (row_formed (plan_of (take 6 bytes)) m.clock) base in
    let kept = noted_kept 0 m.clock (TableWritten t.number) waiting (omega arith) row in
    let put = on_blocks (put_in (Some (pending_block table)) 0 (drop 6 bytes)) waiting in
    let formed : WellFormed (noted m.clock (TableWritten t.number) put).head = noted_formed m.clock (TableWritten t.number) (put_in (Some (pending_block table)) 0 (drop 6 bytes)) waiting kept.formed in
    let some : 0 < length (noted m.clock (TableWritten t.number) put).blocks = rw (noted_many, length-set) (some_blocks m good) in
    ap (λ (h : Head). h.rows) (ended_says (stage_done m t table bytes) formed some) ∙ noted_rows m.clock _ put

-- a staging that was let through has right trigger bytes: its row waits, and shows them
trigger_passes : (o : Option Plan) (clock : ℕ) (b : List ℕ) (rest : Result (Unit {0}) ServiceFault) → plan_of b ≡ o → length b ≡ 6 → cond (is_some (staged_due o clock)) rest (Err BadContent) ≡ Ok tt →
    (is_waiting (row_for (staged_due o clock)) ≡ true) × (row_plan_bytes (row_for (staged_due o clock)) ≡ b)
trigger_passes None clock b rest e long h = absurd (never (sym h))
trigger_passes (Some p) clock b rest e long h = go (due_when p.trigger clock) h
  where
    go : (o : Option Due) → cond (is_some (due_with p o)) rest (Err BadContent) ≡ Ok tt → (is_waiting (row_for (due_with p o)) ≡ true) × (row_plan_bytes (row_for (due_with p o)) ≡ b)
    go None q = absurd (never (sym q))
    go (Some due) q = (refl, plan_laws.writes b p long e)

pub staged_row_lem : (t : TableEntry) (table : PendingTable) (bytes : List ℕ) (m : Meter) → 6 ≤ length bytes → content_verdict (staging t table bytes) m.clock m.blocks ≡ Ok tt →
    (is_waiting (staged_row bytes m) ≡ true) × (row_plan_bytes (staged_row bytes m) ≡ take 6 bytes)
staged_row_lem t table bytes m long h = trigger_passes (plan_of (take 6 bytes)) m.clock (take 6 bytes) (ruled (is_right table (drop 6 bytes))) refl (rw length-take (omega arith)) h
