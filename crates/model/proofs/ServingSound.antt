-- Serving keeps a meter sound, and with it every call does.
use Rattle.std.proofs.Common.{◌≡◌, ℕ, ◌+◌, ◌≤◌, Bool, true, false, cond, ◌&&◌, ltb, List, length, take, drop, Some, None, Ok, Err, Option, Result, sym, refl, ap, ◌∙◌, arith}
use Rattle.std.proofs.lemmas.List.{length-drop}
use Rattle.std.proofs.lemmas.Bool.{and_from, eq-eqb}
use Rattle.access.specs.Ready.{content_of, ready_verdict}
use Rattle.access.proofs.Readiness.{ready_stored, content_long}
use Rattle.calendar.specs.Calendar.{seconds_in_all, is_real, second_of, dated}
use Rattle.fields.specs.Patches.{patch}
use Rattle.fields.proofs.Places.{length_patch}
use Rattle.logs.proofs.SlotWrites.{content_other}
use Rattle.numbers.specs.declared.procedure.ProcedureResult.{ProcedureResult}
use Rattle.refusals.specs.declared.fault.MeterFault.{MeterFault}
use Rattle.refusals.specs.declared.fault.ServiceFault.{ServiceFault}
use Rattle.request.specs.Answers.{buffer_verdict}
use Rattle.pending.specs.declared.plan.Plan.{Plan}
use Rattle.pending.specs.declared.trigger.Due.{Due}
use Rattle.pending.specs.declared.trigger.Due.TheVariants.{At, ByCommand}
use Rattle.pending.specs.declared.trigger.Trigger.{Trigger}
use Rattle.pending.specs.declared.trigger.Trigger.TheVariants.{Absolute, Relative, OnCommand}
use Rattle.pending.specs.declared.row.Row.{Row}
use Rattle.pending.specs.declared.table.PendingTable.{PendingTable}
use Rattle.pending.specs.Rows.{is_row_formed, due_agrees}
use Rattle.pending.specs.Tables.{table_index}
use Rattle.pending.specs.Triggers.{plan_of, due_when, is_well_formed, at_second, span_of}
use Rattle.directory.specs.Geometry.{pending_block}
use Rattle.head.specs.Heads.{with_row}
use Rattle.head.specs.Order.{in_order}
use Rattle.head.proofs.HeadLaws.{laws}
use Rattle.head.proofs.Frames.{frames}
use Rattle.model.specs.States.{Meter, Going, begun, on_head, on_blocks}
use Rattle.model.specs.Calls.{of_memory, totals_verdict, feeding}
use Rattle.model.specs.Procedures.{Order, called, called_number}
use Rattle.model.specs.Requests.{Deed, reading, writing, staging, calling, staged_due, due_with}
use Rattle.model.specs.Serving.{put_in, row_for, call_done, head_of, performed, of_meter, limited, admitted, answered, served_if}
use Rattle.model.specs.Soundness.{SoundMeter, StaysSound}
use Rattle.model.proofs.Places.{pending_place}
use Rattle.model.proofs.Keeping.{Kept, noted_kept}
use Rattle.model.proofs.Activating.{whole_stored}
use Rattle.model.proofs.Accepting.{accepted_from}
use Rattle.model.proofs.Admitting.{Placed, Safe, fits_safe}
use Rattle.model.proofs.Ordering.{SafeOrder, called_safe, carried_kept, clock_after_lem}
use Rattle.model.proofs.StayingSound.{ended_sound, begun_kept, start_sound, tick_sound, format_sound, energy_if_lem, fed_sound}
use Rattle.model.proofs.Outcomes.{never, missing}

pub of_meter_lem : (v : Result (Unit {0}) MeterFault) → of_meter v ≡ Ok tt → v ≡ Ok tt
of_meter_lem (Ok x) h = refl
of_meter_lem (Err e) h = absurd (never (sym h))

-- bytes within a table's block
pub put_kept : {c : List ℕ} {n : ℕ} (b : Option ℕ) (from : ℕ) (bytes : List ℕ) (g : Going) → Placed b (from + length bytes) → Kept c n g → Kept c n (on_blocks (put_in b from bytes) g)
put_kept None from bytes g p kept = record { formed = kept.formed; totals = kept.totals; ready = kept.ready; whole = kept.whole; zero = kept.zero }
put_kept (Some k) from bytes g p kept =
    let old = content_of g.blocks k in
    let long : length old ≡ 510 = content_long g.blocks kept.whole kept.ready k p.1 in
    let fits : from + length bytes ≤ length old = omega (arith, p.2) in
    record {
      formed = kept.formed;
      totals = kept.totals;
      ready = ready_stored g.blocks k (patch from bytes old) kept.ready;
      whole = whole_stored g.blocks k (patch from bytes old) kept.whole (length_patch from bytes old fits ∙ long);
      zero = content_other g.blocks k 0 (patch from bytes old) (λ e. omega (arith, p.0)) ∙ kept.zero;
    }

-- the row of a staging is well formed
absolute_formed : (y m d h n : ℕ) (due : Due) (clock : ℕ) → due_when (Absolute y m d h n) clock ≡ Some due → (is_well_formed (Absolute y m d h n) && due_agrees (Absolute y m d h n) due) ≡ true
absolute_formed y m d h n due clock e = go (is_real (dated y m d h n 0)) refl e
  where
    go : (b : Bool) → is_real (dated y m d h n 0) ≡ b → at_second (cond b (Some (second_of (dated y m d h n 0))) None) ≡ Some due → (is_well_formed (Absolute y m d h n) && due_agrees (Absolute y m d h n) due) ≡ true
    go true q k =
        let same : At (second_of (dated y m d h n 0)) ≡ due = cc in
        rw (← same) (and_from _ _ q (simp q (eq-eqb _ _ refl)))
    go false q k = absurd (missing (sym k))

relative_formed : (w d h m s : ℕ) (due : Due) (clock : ℕ) → due_when (Relative w d h m s) clock ≡ Some due → due_agrees (Relative w d h m s) due ≡ true
relative_formed w d h m s due clock e = go (ltb (clock + span_of w d h m s) seconds_in_all) refl e
  where
    go : (b : Bool) → ltb (clock + span_of w d h m s) seconds_in_all ≡ b → at_second (cond b (Some (clock + span_of w d h m s)) None) ≡ Some due → due_agrees (Relative w d h m s) due ≡ true
    go true q k = let same : At (clock + span_of w d h m s) ≡ due = cc in rw (← same) q
    go false q k = absurd (missing (sym k))

command_formed : (due : Due) (clock : ℕ) → due_when OnCommand clock ≡ Some due → due_agrees OnCommand due ≡ true
command_formed due clock e = let same : ByCommand ≡ due = cc in rw (← same) refl

due_formed : (t : Trigger) (due : Due) (clock : ℕ) → due_when t clock ≡ Some due → (is_well_formed t && due_agrees t due) ≡ true
due_formed (Absolute y m d h n) due clock e = absolute_formed y m d h n due clock e
due_formed (Relative w d h m s) due clock e = relative_formed w d h m s due clock e
due_formed OnCommand due clock e = command_formed due clock e

with_formed : (p : Plan) (clock : ℕ) (o : Option Due) → due_when p.trigger clock ≡ o → is_row_formed (row_for (due_with p o)) ≡ true
with_formed p clock None e = refl
with_formed p clock (Some due) e = due_formed p.trigger due clock e

pub row_formed : (o : Option Plan) (clock : ℕ) → is_row_formed (row_for (staged_due o clock)) ≡ true
row_formed None clock = refl
row_formed (Some p) clock = with_formed p clock (due_when p.trigger clock) refl

pub row_kept : {c : List ℕ} {n : ℕ} (t : PendingTable) (row : Row) (g : Going) → is_row_formed row ≡ true → Kept c n g → Kept c n (on_head (with_row (table_index t) row) g)
row_kept t row g formed kept = record { formed = frames.row_kept g.head (table_index t) row kept.formed formed; totals = kept.totals; ready = kept.ready; whole = kept.whole; zero = kept.zero }

pub waits_in : (t : PendingTable) (n : ℕ) → n ≤ 510 → Placed (Some (pending_block t)) n
waits_in t n h = (omega (arith, (pending_place t).0), omega (arith, (pending_place t).1), h)

-- what each deed leaves
call_sound : (m : Meter) (bytes : List ℕ) (r : Result Order ProcedureResult) → SoundMeter m → (r ≡ called bytes (head_of m)) → Kept (content_of m.blocks 0) 0 (begun m.blocks) → SoundMeter (call_done m bytes r).meter
call_sound m bytes (Err e) good h kept = record { image = good.image; clock = good.clock }
call_sound m bytes (Ok o) good h kept =
    let safe : SafeOrder o = called_safe bytes (head_of m) o (sym h) in
    let after = carried_kept m.clock (called_number bytes) o (begun m.blocks) good.clock safe kept in
    record { image = ended_sound _ after.formed after.ready after.whole; clock = clock_after_lem m.clock o good.clock safe }

performed_sound : (d : Deed) (m : Meter) → SoundMeter m → Safe d → limited d m.blocks ≡ Ok tt → SoundMeter (performed d m).meter
unfolding performed
performed_sound (reading t p) m good safe h = good
performed_sound (writing t from bytes) m good safe h =
    let kept = begun_kept m.blocks good.image (of_meter_lem (totals_verdict m.blocks) h) in
    let after = noted_kept 0 m.clock _ _ (omega arith) (put_kept t.block from bytes _ safe kept) in
    record { image = ended_sound _ after.formed after.ready after.whole; clock = good.clock }
performed_sound (staging t table bytes) m good safe h =
    let kept = begun_kept m.blocks good.image (of_meter_lem (totals_verdict m.blocks) h) in
    let room : length (drop 6 bytes) ≤ 510 = rw length-drop (omega arith) in
    let put = put_kept (Some (pending_block table)) 0 (drop 6 bytes) _ (waits_in table (0 + length (drop 6 bytes)) (omega arith)) kept in
    let row = row_kept table (row_for (staged_due (plan_of (take 6 bytes)) m.clock)) _ (row_formed (plan_of (take 6 bytes)) m.clock) put in
    let after = noted_kept 0 m.clock _ _ (omega arith) row in
    record { image = ended_sound _ after.formed after.ready after.whole; clock = good.clock }
performed_sound (calling bytes) m good safe h =
    call_sound m bytes (called bytes (head_of m)) good refl (begun_kept m.blocks good.image (of_meter_lem (totals_verdict m.blocks) h))

pub admitted_safe : (key : ℕ) (bytes : List ℕ) (m : Meter) (d : Deed) → admitted key bytes m ≡ Ok d → Safe d × (limited d m.blocks ≡ Ok tt)
admitted_safe key bytes m d h =
    let x = accepted_from key bytes m d h in
    (fits_safe x.1 x.0 d x.3.allowed x.3.fit, x.3.limit)

answered_sound : (v : Result Deed ServiceFault) (m : Meter) (a s : List ℕ) → SoundMeter m → ((d : Deed) → v ≡ Ok d → SoundMeter (performed d m).meter) → SoundMeter (answered v m a s).meter
answered_sound (Ok d) m a s good then = then d refl
answered_sound (Err e) m a s good then = good

pub served_sound : (key : ℕ) (bytes : List ℕ) (m : Meter) (a s : List ℕ) (v : Result (Unit {0}) ServiceFault) → SoundMeter m → SoundMeter (served_if v key bytes m a s).meter
served_sound key bytes m a s (Err e) good = good
served_sound key bytes m a s (Ok x) good =
    answered_sound (admitted key bytes m) m a s good (λ d h. let is = admitted_safe key bytes m d h in performed_sound d m good is.0 is.1)

pub stays_sound : StaysSound
stays_sound = record {
  order = λ bs i. ap in_order i.says ∙ laws.in_order_lem i.head i.formed;
  format = format_sound;
  start = start_sound;
  tick = tick_sound;
  energy = λ wh m good. energy_if_lem (of_memory (ready_verdict m.blocks)) m (feeding m.clock wh (begun m.blocks)) good (fed_sound m.clock wh m.blocks good.image);
  serve = λ key bytes m a s good. served_sound key bytes m a s (buffer_verdict (length a) (length s)) good;
}
