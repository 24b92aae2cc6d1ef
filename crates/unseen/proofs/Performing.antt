-- Each deed on memories that are alike, and what it leaves of a memory's own.
use Rattle.std.proofs.Common.{◌≡◌, ℕ, ◌+◌, ◌<◌, ◌≢◌, List, length, take, drop, Some, None, Ok, Err, Option, Result, sym, refl, ap, ◌∙◌, subst, inl, inr, arith}
use Rattle.std.proofs.lemmas.List.{length-drop}
use Rattle.calendar.specs.Calendar.{seconds_in_all}
use Rattle.fields.specs.Words.{part}
use Rattle.memory.specs.Blocks.{Block}
use Rattle.numbers.specs.declared.procedure.ProcedureResult.{ProcedureResult}
use Rattle.records.specs.declared.event.Event.TheVariants.{TableWritten}
use Rattle.request.specs.Answers.{answer_bytes}
use Rattle.pending.specs.declared.row.Row.{Row}
use Rattle.pending.specs.declared.table.PendingTable.{PendingTable}
use Rattle.pending.specs.Triggers.{plan_of}
use Rattle.directory.specs.declared.entry.TableEntry.{TableEntry}
use Rattle.directory.specs.Geometry.{staged_length, current_block, pending_block, log_place}
use Rattle.head.specs.declared.head.Head.{Head}
use Rattle.head.specs.Order.{WellFormed}
use Rattle.model.specs.States.{Meter, Going, Response, begun, ended, set_row, on_head, on_blocks}
use Rattle.model.specs.Steps.{noted}
use Rattle.model.specs.Tables.{table_bytes}
use Rattle.model.specs.Calls.{totals_verdict}
use Rattle.model.specs.Procedures.{Order, called, called_number, clock_after, carried_out, result_of, response_to}
use Rattle.model.specs.Requests.{Deed, reading, writing, staging, calling, staged_due, present_verdict}
use Rattle.model.specs.Serving.{Outcome, changed, put_in, write_done, row_for, stage_done, call_done, head_of, performed, limited}
use Rattle.model.specs.Soundness.{SoundMeter}
use Rattle.model.proofs.Places.{current_place, pending_place, which_table}
use Rattle.model.proofs.Keeping.{noted_kept, noted_formed}
use Rattle.model.proofs.Ordering.{SafeOrder, called_safe, carried_kept, clock_after_lem}
use Rattle.model.proofs.StayingSound.{begun_kept}
use Rattle.model.proofs.ServingSound.{of_meter_lem, row_formed, row_kept}
use Rattle.unseen.specs.Unseen.{Alike, AlikeMeters, OwnKept, StagingKept, said_by, slot_span}
use Rattle.unseen.proofs.Together.{Steady, tail_high, beyond_stored, slot_stored}
use Rattle.unseen.proofs.Placing.{put_together, stage_together, stage_behind, stage_elsewhere}
use Rattle.unseen.proofs.Stepping.{Run, noted_run, carried_run}
use Rattle.unseen.proofs.Siting.{Home, nowhere, within, SitedDeed}
use Rattle.unseen.proofs.Ending.{begun_run, ended_alike, ended_own}
use Rattle.unseen.proofs.Calling.{Left, left_all, alike_self}
use Rattle.unseen.proofs.Reading.{table_same}

-- a write
put_run : (block : Option ℕ) (from : ℕ) (bytes : List ℕ) (a b : List Block) → Home block (from + length bytes) → Run a (begun a) (begun b) → Run a (on_blocks (put_in block from bytes) (begun a)) (on_blocks (put_in block from bytes) (begun b))
put_run block from bytes a b (nowhere e) run = subst (λ x. Run a (on_blocks (put_in x from bytes) (begun a)) (on_blocks (put_in x from bytes) (begun b))) (sym e) run
put_run block from bytes a b (within q e short) run =
    subst (λ x. Run a (on_blocks (put_in x from bytes) (begun a)) (on_blocks (put_in x from bytes) (begun b))) (sym e)
    (record { heads = run.heads; entries = run.entries; to = put_together q from bytes short (said_by a) a b run.to })

-- the heads after a write and a staging
write_formed : (m : Meter) (t : TableEntry) (from : ℕ) (bytes : List ℕ) → SoundMeter m → totals_verdict m.blocks ≡ Ok tt → WellFormed (write_done m t from bytes).head
write_formed m t from bytes good h =
    noted_formed m.clock (TableWritten t.number) (put_in t.block from bytes) (begun m.blocks) (noted_kept 0 m.clock _ (begun m.blocks) (omega arith) (begun_kept m.blocks good.image h)).formed

stage_formed : (m : Meter) (t : TableEntry) (table : PendingTable) (bytes : List ℕ) → SoundMeter m → totals_verdict m.blocks ≡ Ok tt → WellFormed (stage_done m t table bytes).head
stage_formed m t table bytes good h =
    let row = row_for (staged_due (plan_of (take 6 bytes)) m.clock) in
    noted_formed m.clock (TableWritten t.number) (put_in (Some (pending_block table)) 0 (drop 6 bytes)) (on_head (set_row table row) (begun m.blocks))
    (noted_kept 0 m.clock _ (on_head (set_row table row) (begun m.blocks)) (omega arith) (row_kept table row (begun m.blocks) (row_formed (plan_of (take 6 bytes)) m.clock) (begun_kept m.blocks good.image h))).formed

-- a staging, from the memory with the new table in its block
abbrev staged_in : PendingTable → List ℕ → List Block → List Block
staged_in table bytes a = put_in (Some (pending_block table)) 0 (drop 6 bytes) a

rest_long : (table : PendingTable) (bytes : List ℕ) → length bytes ≡ staged_length table + 6 → length (drop 6 bytes) ≡ staged_length table
rest_long table bytes long = rw length-drop (omega arith)

stage_run : (clock : ℕ) (t : TableEntry) (table : PendingTable) (row : Row) (bytes : List ℕ) (a b : List Block) → length bytes ≡ staged_length table + 6 → Run a (begun a) (begun b) →
    Run (staged_in table bytes a) (noted clock (TableWritten t.number) (on_head (set_row table row) (on_blocks (staged_in table bytes) (begun a)))) (noted clock (TableWritten t.number) (on_head (set_row table row) (on_blocks (staged_in table bytes) (begun b))))
stage_run clock t table row bytes a b long run =
    noted_run clock _ _ _
    (record { heads = ap (set_row table row) run.heads; entries = run.entries; to = stage_together table (drop 6 bytes) (rest_long table bytes long) row (said_by a) a b run.to })

-- what a deed gives on two meters
pub record AlikeOutcomes (x y : Outcome) : Type 0 where
  pub bytes : x.bytes ≡ y.bytes
  pub meter : AlikeMeters x.meter y.meter
  pub entries : x.entries ≡ y.entries
  pub procedure : x.procedure ≡ y.procedure

changed_alike : {a : List Block} (m n : Meter) (clock : ℕ) (r : Option Response) (result : Option ProcedureResult) (g k : Going) → clock < seconds_in_all → Run a g k → WellFormed g.head → AlikeOutcomes (changed m clock r result g) (changed n clock r result k)
changed_alike m n clock r result g k real run formed = record {
  bytes = refl;
  meter = record { blocks = ended_alike g k run formed; real = real; clock = refl; response = refl };
  entries = run.entries;
  procedure = refl;
}

module _ (m : Meter) (b : List Block) (alike : Alike m.blocks b) (real : m.clock < seconds_in_all) where
  abbrev other : Meter
  other = record { blocks = b; clock = m.clock; response = m.response }

  good : SoundMeter m
  good = record { image = alike.left; clock = real }

  run : Run m.blocks (begun m.blocks) (begun b)
  run = begun_run m.blocks b alike

  same_head : head_of m ≡ head_of other
  same_head = run.heads

  call_alike : (bytes : List ℕ) (r : Result Order ProcedureResult) → r ≡ called bytes (head_of m) → totals_verdict m.blocks ≡ Ok tt → AlikeOutcomes (call_done m bytes r) (call_done other bytes r)
  call_alike bytes (Err e) is h = record { bytes = refl; meter = record { blocks = alike; real = real; clock = refl; response = refl }; entries = refl; procedure = refl }
  call_alike bytes (Ok o) is h =
      let safe : SafeOrder o = called_safe bytes (head_of m) o (sym is) in
      let clock = clock_after m.clock o in
      changed_alike m other clock (Some (response_to bytes (result_of (Ok o)))) (Some (result_of (Ok o))) (carried_out clock (called_number bytes) o (begun m.blocks)) (carried_out clock (called_number bytes) o (begun b)) (clock_after_lem m.clock o real safe)
      (carried_run clock (called_number bytes) o (begun m.blocks) (begun b) run)
      (carried_kept m.clock (called_number bytes) o (begun m.blocks) real safe (begun_kept m.blocks alike.left h)).formed

  pub performed_alike : (d : Deed) → SitedDeed d → present_verdict d m.response (head_of m) ≡ Ok tt → limited d m.blocks ≡ Ok tt → AlikeOutcomes (performed d m) (performed d other)
  unfolding performed
  performed_alike (reading t p) sited present h = record {
    bytes =
        ap (λ c. answer_bytes (part p.count p.from c))
        (table_same t.source m.clock m.response (head_of m) m.blocks b alike.seen present ∙ ap (λ x. table_bytes t.source m.clock m.response x b) same_head);
    meter = record { blocks = alike; real = real; clock = refl; response = refl };
    entries = refl;
    procedure = refl;
  }
  performed_alike (writing t from bytes) sited present h =
      changed_alike m other m.clock m.response None (write_done m t from bytes) (write_done other t from bytes) real (noted_run m.clock _ _ _ (put_run t.block from bytes m.blocks b sited run))
      (write_formed m t from bytes good (of_meter_lem (totals_verdict m.blocks) h))
  performed_alike (staging t table bytes) sited present h =
      changed_alike m other m.clock m.response None (stage_done m t table bytes) (stage_done other t table bytes) real
      (stage_run m.clock t table (row_for (staged_due (plan_of (take 6 bytes)) m.clock)) bytes m.blocks b sited run)
      (stage_formed m t table bytes good (of_meter_lem (totals_verdict m.blocks) h))
  performed_alike (calling bytes) sited present h =
      subst (λ x. AlikeOutcomes (call_done m bytes (called bytes (head_of m))) (call_done other bytes (called bytes x))) same_head
      (call_alike bytes (called bytes (head_of m)) refl (of_meter_lem (totals_verdict m.blocks) h))

-- what a deed leaves of a memory's own: only a staging alters a staging block, and that only of its table
abbrev pub LeftBut : Deed → List Block → List Block → Type 0
LeftBut d before after = OwnKept before after × ((t : PendingTable) → ((e : TableEntry) (content : List ℕ) → d ≡ staging e t content → ⊥) → StagingKept before after t)

all_left : (d : Deed) (before after : List Block) → Left before after → LeftBut d before after
all_left d before after left = (left.0, λ t none. left.1 t)

staged_left : (d : Deed) (table : PendingTable) (bytes : List ℕ) (h : Head) (a after : List Block) → ((t : PendingTable) → ((e : TableEntry) (content : List ℕ) → d ≡ staging e t content → ⊥) → t ≡ table → ⊥) → length bytes ≡ staged_length table + 6 → Steady h a →
    Left (staged_in table bytes a) after → LeftBut d a after
staged_left d table bytes h a after none long st left =
    let new = drop 6 bytes in
    let whole = rest_long table bytes long in
    let own = left.0 in
    let low : (k : ℕ) → k < 5 → k ≢ pending_block table = λ k lt e. omega (arith, (pending_place table).0) in (
      record {
        utility = own.utility ∙ ap (drop 40) (stage_elsewhere table new whole a 1 (low 1 (omega arith)));
        current = λ t. own.current t ∙ ap (drop (staged_length t)) (stage_elsewhere table new whole a (current_block t) (low (current_block t) (current_place t).1));
        staging = λ t. own.staging t ∙ stage_behind table new whole h a st t;
        slots = λ name slot lt free. own.slots name slot lt free ∙ slot_stored name slot (pending_block table) _ a (pending_place table).1;
        logs = λ name k lt. own.logs name k lt ∙ ap (drop (slot_span name k)) (stage_elsewhere table new whole a ((log_place name).first + k) (λ e. omega (arith, (pending_place table).1, tail_high name k)));
        beyond = own.beyond ∙ beyond_stored a (pending_block table) _ (omega (arith, (pending_place table).1));
      },
      λ t other. elim (which_table t table) [
        | inl e ↦ absurd (none t other e)
        | inr apart ↦ left.1 t ∙ stage_elsewhere table new whole a (pending_block t) apart.pendings
      ],
    )

module _ (m : Meter) (good : SoundMeter m) where
  self_run : Run m.blocks (begun m.blocks) (begun m.blocks)
  self_run = begun_run m.blocks m.blocks (alike_self m.blocks good.image)

  call_left : (bytes : List ℕ) (r : Result Order ProcedureResult) → r ≡ called bytes (head_of m) → totals_verdict m.blocks ≡ Ok tt → Left m.blocks (call_done m bytes r).meter.blocks
  call_left bytes (Err e) is h = left_all m.blocks
  call_left bytes (Ok o) is h =
      let safe : SafeOrder o = called_safe bytes (head_of m) o (sym is) in
      let g = carried_out (clock_after m.clock o) (called_number bytes) o (begun m.blocks) in
      ended_own m.blocks g g (carried_run (clock_after m.clock o) (called_number bytes) o (begun m.blocks) (begun m.blocks) self_run)
      (carried_kept m.clock (called_number bytes) o (begun m.blocks) good.clock safe (begun_kept m.blocks good.image h)).formed

  pub performed_left : (d : Deed) → SitedDeed d → limited d m.blocks ≡ Ok tt → LeftBut d m.blocks (performed d m).meter.blocks
  unfolding performed
  performed_left (reading t p) sited h = all_left (reading t p) m.blocks m.blocks (left_all m.blocks)
  performed_left (writing t from bytes) sited h =
      let g = write_done m t from bytes in
      all_left (writing t from bytes) m.blocks (ended g)
      (ended_own m.blocks g g (noted_run m.clock _ _ _ (put_run t.block from bytes m.blocks m.blocks sited self_run)) (write_formed m t from bytes good (of_meter_lem (totals_verdict m.blocks) h)))
  performed_left (staging t table bytes) sited h =
      let g = stage_done m t table bytes in
      let row = row_for (staged_due (plan_of (take 6 bytes)) m.clock) in
      staged_left (staging t table bytes) table bytes (said_by m.blocks) m.blocks (ended g) (λ u none e. none t bytes (ap (λ v. staging t v bytes) (sym e))) sited self_run.to.left
      (ended_own (staged_in table bytes m.blocks) g g (stage_run m.clock t table row bytes m.blocks m.blocks sited self_run) (stage_formed m t table bytes good (of_meter_lem (totals_verdict m.blocks) h)))
  performed_left (calling bytes) sited h =
      all_left (calling bytes) m.blocks (call_done m bytes (called bytes (head_of m))).meter.blocks (call_left bytes (called bytes (head_of m)) refl (of_meter_lem (totals_verdict m.blocks) h))
