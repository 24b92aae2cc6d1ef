-- Energy, and the bytes of every table that is read.
use Rattle.std.proofs.Common.{◌≡◌, ℕ, zero, suc, ◌+◌, ◌<◌, ◌≤◌, Bool, true, false, cond, List, ◌++◌, replicate, Ok, Err, Option, Result, sym, refl, ap, ◌∙◌, subst, ap₂, arith}
use Rattle.std.specs.List.{flat_map, range_with_len}
use Rattle.access.specs.Ready.{ready_verdict}
use Rattle.calendar.specs.Calendar.{seconds_in_all}
use Rattle.memory.specs.Blocks.{Block}
use Rattle.logs.specs.declared.log.Log.{Log}
use Rattle.logs.specs.declared.head.LogHead.{LogHead}
use Rattle.logs.specs.Slots.{slot_bytes}
use Rattle.logs.specs.Tables.{is_held, shown_slot, head_bytes, log_table}
use Rattle.refusals.specs.declared.fault.MeterFault.{MeterFault}
use Rattle.refusals.specs.declared.fault.ServiceFault.{ServiceFault}
use Rattle.refusals.specs.declared.fault.ServiceFault.TheVariants.{NotReady}
use Rattle.pending.specs.declared.table.PendingTable.TheVariants.{Calendar, Override}
use Rattle.pending.specs.Rows.{is_waiting, row_plan_bytes}
use Rattle.directory.specs.declared.entry.Source.{Source}
use Rattle.directory.specs.declared.entry.Source.TheVariants as source
use Rattle.directory.specs.Geometry.{log_place}
use Rattle.head.specs.declared.head.Head.{Head}
use Rattle.head.specs.Heads.{with_registers}
use Rattle.model.specs.States.{Meter, Response, begun, row_of, log_of}
use Rattle.model.specs.Tables.{table_bytes}
use Rattle.model.specs.Tariffs.{fed, active_tier}
use Rattle.model.specs.Calls.{of_memory, tier_at, feeding, energy_if, energy}
use Rattle.model.specs.Requests.{source_verdict}
use Rattle.model.specs.Soundness.{SoundMeter}
use Rattle.model.proofs.StayingSound.{fed_formed}
use Rattle.model.proofs.Outcomes.{never}
use Rattle.unseen.specs.Unseen.{SameSeen, Alike, AlikeMeters, AlikeDone, said_by}
use Rattle.unseen.proofs.Together.{reheaded}
use Rattle.unseen.proofs.Stepping.{Run}
use Rattle.unseen.proofs.Ending.{begun_run, ended_alike, ended_own, ready_passes}
use Rattle.unseen.proofs.Calling.{Left, left_all, alike_self, beside_it}

-- energy
tier_same : (h : Head) (s : ℕ) (a b : List Block) → SameSeen h a b → tier_at s a ≡ tier_at s b
tier_same h s a b seen = ap₂ (λ over calendar. active_tier over calendar s) (seen.current Override) (seen.current Calendar)

fed_run : (s wh : ℕ) (a b : List Block) → Run a (begun a) (begun b) → Run a (feeding s wh (begun a)) (feeding s wh (begun b))
unfolding feeding
fed_run s wh a b run = record {
  heads = ap₂ (λ (tier : ℕ) (h : Head). with_registers (fed tier wh h.registers) h) (tier_same (said_by a) s a b run.to.seen) run.heads;
  entries = refl;
  to = reheaded (said_by a) (with_registers (fed (tier_at s a) wh (said_by a).registers) (said_by a)) refl refl run.to;
}

energy_if_lem : (wh : ℕ) (m : Meter) (b : List Block) (v : Result (Unit {0}) MeterFault) → Alike m.blocks b → m.clock < seconds_in_all →
    AlikeDone (energy_if v m (feeding m.clock wh (begun m.blocks))) (energy_if v (record { blocks = b; clock = m.clock; response = m.response }) (feeding m.clock wh (begun b)))
energy_if_lem wh m b (Ok x) alike real = record {
  answer = refl;
  meter = record {
    blocks = ended_alike (feeding m.clock wh (begun m.blocks)) (feeding m.clock wh (begun b)) (fed_run m.clock wh m.blocks b (begun_run m.blocks b alike)) (fed_formed m.clock wh m.blocks alike.left);
    real = real;
    clock = refl;
    response = refl;
  };
  entries = refl;
}
energy_if_lem wh m b (Err e) alike real = record { answer = refl; meter = record { blocks = alike; real = real; clock = refl; response = refl }; entries = refl }

energy_beside : (wh : ℕ) (m : Meter) (b : List Block) → Alike m.blocks b → m.clock < seconds_in_all → AlikeDone (energy wh m) (energy wh (record { blocks = b; clock = m.clock; response = m.response }))
energy_beside wh m b alike real =
    let n : Meter = record { blocks = b; clock = m.clock; response = m.response } in
    subst (λ v. AlikeDone (energy wh m) (energy_if (of_memory v) n (feeding m.clock wh (begun b)))) (ready_passes m.blocks alike.left.ready ∙ sym (ready_passes b alike.right.ready))
    (energy_if_lem wh m b (of_memory (ready_verdict m.blocks)) alike real)

pub energy_alike : (wh : ℕ) (m n : Meter) → AlikeMeters m n → AlikeDone (energy wh m) (energy wh n)
energy_alike wh m n alike = beside_it (λ x. AlikeDone (energy wh m) (energy wh x)) m n alike (energy_beside wh m n.blocks alike.blocks alike.real)

energy_left : (wh : ℕ) (m : Meter) (v : Result (Unit {0}) MeterFault) → SoundMeter m → Left m.blocks (energy_if v m (feeding m.clock wh (begun m.blocks))).meter.blocks
energy_left wh m (Ok x) good =
    let a = m.blocks in
    let g = feeding m.clock wh (begun a) in
    ended_own a g g (fed_run m.clock wh a a (begun_run a a (alike_self a good.image))) (fed_formed m.clock wh a good.image)
energy_left wh m (Err e) good = left_all m.blocks

pub energy_own : (wh : ℕ) (m : Meter) → SoundMeter m → Left m.blocks (energy wh m).meter.blocks
energy_own wh m good = energy_left wh m (of_memory (ready_verdict m.blocks)) good

-- the table of a log shows the slots that are held
joined_same : (f g : ℕ → List ℕ) (from k : ℕ) → ((s : ℕ) → from ≤ s → s < from + k → f s ≡ g s) → flat_map f (range_with_len from k) ≡ flat_map g (range_with_len from k)
joined_same f g from zero same = refl
joined_same f g from (suc k) same = ap₂ ◌++◌ (same from (omega arith) (omega arith)) (joined_same f g (from + 1) k (λ s low high. same s (omega arith) (omega arith)))

slot_same : (log : Log) (h : LogHead) (a b : List Block) (slot : ℕ) → (is_held log h slot ≡ true → slot_bytes log slot a ≡ slot_bytes log slot b) → shown_slot log h a slot ≡ shown_slot log h b slot
unfolding shown_slot
slot_same log h a b slot same = go (is_held log h slot) refl
  where
    go : (t : Bool) → is_held log h slot ≡ t → cond t (slot_bytes log slot a) (replicate log.width 0) ≡ cond t (slot_bytes log slot b) (replicate log.width 0)
    go true e = same e
    go false e = refl

log_table_same : (log : Log) (h : LogHead) (a b : List Block) → ((slot : ℕ) → slot < log.size → is_held log h slot ≡ true → slot_bytes log slot a ≡ slot_bytes log slot b) → log_table log h a ≡ log_table log h b
unfolding log_table
log_table_same log h a b same =
    ap (λ t. head_bytes log h ++ t) (joined_same (shown_slot log h a) (shown_slot log h b) 0 log.size (λ s low high. slot_same log h a b s (same s (omega arith))))

waits : (t : Bool) → ◌≡◌ {A = Result (Unit {0}) ServiceFault} (cond t (Ok tt) (Err NotReady)) (Ok tt) → t ≡ true
waits true h = refl
waits false h = absurd (never (sym h))

pub table_same : (src : Source) (clock : ℕ) (r : Option Response) (h : Head) (a b : List Block) → SameSeen h a b → source_verdict src r h ≡ Ok tt → table_bytes src clock r h a ≡ table_bytes src clock r h b
unfolding table_bytes
table_same (source.Computed view) clock r h a b seen is = refl
table_same source.Initiate clock r h a b seen is = refl
table_same source.Utility clock r h a b seen is = seen.utility
table_same (source.Staged t) clock r h a b seen is = seen.current t
table_same (source.Pending t) clock r h a b seen is = ap (λ c. row_plan_bytes (row_of t h) ++ c) (seen.staged t (waits (is_waiting (row_of t h)) is))
table_same (source.Log name) clock r h a b seen is = log_table_same (log_place name) (log_of name h) a b (seen.slots name)
