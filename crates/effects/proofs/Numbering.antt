-- No step adds a block or takes one away.
use Rattle.std.proofs.Common.{◌≡◌, ℕ, ◌+◌, ◌%◌, ◌≤◌, Bool, true, false, cond, eqb, ltb, List, [], ◌∷◌, length, Some, None, Ok, Err, Option, Result, refl, ◌∙◌, arith}
use Rattle.std.proofs.lemmas.List.{length-set, length-append, length-drop}
use Rattle.std.proofs.lemmas.Bool.{cond_both, ltb-false}
use Rattle.access.specs.Ready.{needed, size_verdict, ready_verdict}
use Rattle.memory.specs.declared.fault.MemoryFault.TheVariants.{TooSmall}
use Rattle.memory.specs.Blocks.{Block}
use Rattle.numbers.specs.declared.log.LogName.{LogName}
use Rattle.numbers.specs.declared.procedure.ProcedureResult.{ProcedureResult}
use Rattle.records.specs.declared.event.Event.{Event}
use Rattle.refusals.specs.declared.fault.MeterFault.{MeterFault}
use Rattle.logs.specs.Slots.{put_slot}
use Rattle.pending.specs.declared.row.Row.{Row}
use Rattle.pending.specs.declared.row.Row.TheVariants.{Empty, Waiting}
use Rattle.pending.specs.declared.table.PendingTable.{PendingTable}
use Rattle.pending.specs.declared.table.PendingTable.TheVariants.{Calendar}
use Rattle.pending.specs.Rows.{is_due, is_waiting}
use Rattle.pending.specs.Tables.{all_tables}
use Rattle.model.specs.States.{Meter, Going, Recorded, begun, ended, row_of}
use Rattle.model.specs.Steps.{entered, noted, self_read_taken, interval_taken, read_first, took_force, activated, activated_if, each_activated, time_changed}
use Rattle.model.specs.Calls.{formatted, format_if, start_verdict, started_if, power_up, tick_verdict, tick_if, scheduled_read, interval_read, ticked, ended_if_any, energy_if, feeding, of_memory}
use Rattle.model.specs.Procedures.{Order, clear, acknowledge, set_clock, activate, withdraw, read_self, obeyed, called, called_number, clock_after, carried_out}
use Rattle.model.specs.Requests.{Deed, reading, writing, staging, calling}
use Rattle.model.specs.Serving.{put_in, write_done, stage_done, call_done, head_of, performed}
use Rattle.model.specs.Tables.{current_table}
use Rattle.model.specs.Tariffs.{is_scheduled}
use Rattle.effects.specs.Alters.{AsMany}
use Rattle.effects.proofs.Accepting.{served_leaves}
use Rattle.effects.proofs.AlteredBlocks.{fresh_long}

abbrev Many : Going → Going → Type 0
Many before after = length after.blocks ≡ length before.blocks

entered_many : (name : LogName) (bytes : List ℕ) (r : Recorded) (g : Going) → Many g (entered name bytes r g)
unfolding entered put_slot
entered_many name bytes r g = rw length-set

pub noted_many : (clock : ℕ) (e : Event) (g : Going) → Many g (noted clock e g)
unfolding noted
noted_many clock e g = entered_many _ _ _ g

self_read_many : (clock : ℕ) (g : Going) → Many g (self_read_taken clock g)
unfolding self_read_taken
self_read_many clock g = noted_many clock _ _ ∙ entered_many _ _ _ g

first_many : (flag : Bool) (clock : ℕ) (g : Going) → Many g (read_first flag clock g)
first_many true clock g = self_read_many clock g
first_many false clock g = refl

force_many : (t : PendingTable) (clock : ℕ) (row : Row) (g : Going) → Many g (took_force t clock row g)
force_many t clock Empty g = refl
force_many t clock (Waiting plan due) g = noted_many clock _ _ ∙ length-set _ _ _ ∙ first_many plan.self_read clock g

if_many : (test : Row → Bool) (clock : ℕ) (t : PendingTable) (g : Going) → Many g (activated_if test clock t g)
unfolding activated
if_many test clock t g = cond_both (test (row_of t g.head)) (activated clock t g) g (λ (x : Going). Many g x) (λ _. force_many t clock (row_of t g.head) g) (λ _. refl)

each_many : (test : Row → Bool) (clock : ℕ) (ts : List PendingTable) (g : Going) → Many g (each_activated test clock ts g)
each_many test clock [] g = refl
each_many test clock (t ∷ ts) g = each_many test clock ts (activated_if test clock t g) ∙ if_many test clock t g

time_many : (clock : ℕ) (g : Going) → Many g (time_changed clock g)
unfolding time_changed
time_many clock g = each_many (λ row. is_due row clock) clock all_tables g

power_many : (s : ℕ) (g : Going) → Many g (power_up s g)
unfolding power_up
power_many s g = time_many s _ ∙ noted_many s _ _

scheduled_many : (s : ℕ) (g : Going) → Many g (scheduled_read s g)
scheduled_many s g = cond_both (is_scheduled (current_table Calendar g.blocks) s) (self_read_taken s g) g (λ (x : Going). Many g x) (λ _. self_read_many s g) (λ _. refl)

interval_many : (s : ℕ) (g : Going) → Many g (interval_read s g)
unfolding interval_taken
interval_many s g = cond_both (eqb (s % 900) 0) (interval_taken s g) g (λ (x : Going). Many g x) (λ _. entered_many _ _ _ g) (λ _. refl)

ticked_many : (s : ℕ) (g : Going) → Many g (ticked s g)
unfolding ticked
ticked_many s g = interval_many s (scheduled_read s (time_changed s g)) ∙ scheduled_many s (time_changed s g) ∙ time_many s g

obeyed_many : (clock : ℕ) (o : Order) (g : Going) → Many g (obeyed clock o g)
unfolding obeyed
obeyed_many clock (clear names) g = refl
obeyed_many clock (acknowledge name count) g = refl
obeyed_many clock (set_clock s) g = time_many clock _ ∙ noted_many clock _ _
obeyed_many clock (activate ts) g = each_many is_waiting clock ts g
obeyed_many clock (withdraw ts) g = refl
obeyed_many clock read_self g = self_read_many clock g

carried_many : (clock number : ℕ) (o : Order) (g : Going) → Many g (carried_out clock number o g)
unfolding carried_out
carried_many clock number o g = noted_many clock _ (obeyed clock o g) ∙ obeyed_many clock o g

ended_many : (g : Going) → length (ended g) ≡ length g.blocks
unfolding ended
ended_many g = length-set _ _ _

any_many : (es : List Recorded) (g : Going) → length (ended_if_any es g) ≡ length g.blocks
any_many [] g = refl
any_many (e ∷ es) g = ended_many g

-- the calls
format_many : (bs : List Block) → length (format_if (size_verdict bs) bs).blocks ≡ length bs
unfolding formatted
format_many bs = go (ltb (length bs) needed) refl
  where
    go : (b : Bool) → ltb (length bs) needed ≡ b → length (format_if (cond b (Err (TooSmall (length bs))) (Ok tt)) bs).blocks ≡ length bs
    go true e = refl
    go false e =
        let enough : 27 ≤ length bs = ltb-false (length bs) 27 e in
        rw (length-append, length-drop) (omega (arith, fresh_long 0 27))

start_many : (v : Result (Unit {0}) MeterFault) (s : ℕ) (bs : List Block) → length (started_if v s (begun bs)).blocks ≡ length bs
start_many (Ok x) s bs = ended_many (power_up s (begun bs)) ∙ power_many s (begun bs)
start_many (Err e) s bs = refl

tick_many : (v : Result (Unit {0}) MeterFault) (m : Meter) → length (tick_if v m (ticked (m.clock + 1) (begun m.blocks))).meter.blocks ≡ length m.blocks
tick_many (Ok x) m = any_many _ (ticked (m.clock + 1) (begun m.blocks)) ∙ ticked_many (m.clock + 1) (begun m.blocks)
tick_many (Err e) m = refl

energy_many : (v : Result (Unit {0}) MeterFault) (wh : ℕ) (m : Meter) → length (energy_if v m (feeding m.clock wh (begun m.blocks))).meter.blocks ≡ length m.blocks
unfolding feeding
energy_many (Ok x) wh m = ended_many _
energy_many (Err e) wh m = refl

pub put_many : (b : Option ℕ) (from : ℕ) (bytes : List ℕ) (bs : List Block) → length (put_in b from bytes bs) ≡ length bs
put_many None from bytes bs = refl
put_many (Some n) from bytes bs = length-set _ _ _

call_many : (m : Meter) (bytes : List ℕ) (r : Result Order ProcedureResult) → length (call_done m bytes r).meter.blocks ≡ length m.blocks
call_many m bytes (Ok o) = ended_many _ ∙ carried_many (clock_after m.clock o) (called_number bytes) o (begun m.blocks)
call_many m bytes (Err e) = refl

deed_many : (d : Deed) (m : Meter) → length (performed d m).meter.blocks ≡ length m.blocks
unfolding performed
deed_many (reading t p) m = refl
deed_many (writing t from bytes) m = ended_many (write_done m t from bytes) ∙ noted_many m.clock _ _ ∙ put_many t.block from bytes m.blocks
deed_many (staging t table bytes) m = ended_many (stage_done m t table bytes) ∙ noted_many m.clock _ _ ∙ length-set _ _ _
deed_many (calling bytes) m = call_many m bytes (called bytes (head_of m))

pub as_many : AsMany
as_many = record {
  format = format_many;
  start = λ bs s. start_many (start_verdict bs s) s bs;
  tick = λ m. tick_many (tick_verdict m) m;
  energy = λ wh m. energy_many (of_memory (ready_verdict m.blocks)) wh m;
  serve = λ key bytes m answer scratch. served_leaves (λ now. length now.blocks ≡ length m.blocks) key bytes m answer scratch refl (λ d h. deed_many d m);
}
