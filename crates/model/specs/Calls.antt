-- Format, start, tick, energy and stop: what they refuse, in order, and what they do.
use Rattle.std.specs.Prelude.{ℕ, zero, suc, ◌+◌, ◌%◌, true, cond, List, [], ◌∷◌, ◌++◌, drop, replicate, None, Ok, Err, Result, ◌==◌, nat_lt}
use Rattle.access.specs.Ready.{needed, content_of, ready_verdict, size_verdict}
use Rattle.calendar.specs.Calendar.{seconds_in_all}
use Rattle.fields.specs.Words.{le_bytes}
use Rattle.fields.specs.Patches.{patch}
use Rattle.memory.specs.declared.fault.MemoryFault.{MemoryFault}
use Rattle.memory.specs.Blocks.{Block, sound}
use Rattle.numbers.specs.declared.log.LogName.{LogName}
use Rattle.numbers.specs.declared.log.LogName.TheVariants.{History, SelfReads, LoadProfile}
use Rattle.records.specs.declared.event.Event.TheVariants.{PowerUp}
use Rattle.pending.specs.declared.table.PendingTable.TheVariants.{Calendar, Override}
use Rattle.refusals.specs.declared.fault.MeterFault.{MeterFault}
use Rattle.refusals.specs.declared.fault.MeterFault.TheVariants.{Memory, OutOfOrder, BadSecond, LogLimit}
use Rattle.head.specs.declared.head.Head.{Head}
use Rattle.head.specs.Heads.{decode_head, with_registers, with_status}
use Rattle.head.specs.Layout.{layout_number}
use Rattle.head.specs.Order.{in_order}
use Rattle.directory.specs.Geometry.{current_block}
use Rattle.model.specs.States.{Meter, Going, Recorded, begun, ended, log_of, on_head}
use Rattle.model.specs.Steps.{noted, self_read_taken, interval_taken, time_changed}
use Rattle.model.specs.Tables.{current_table}
use Rattle.model.specs.Tariffs.{active_tier, is_scheduled, fed}

-- What a call has done: the meter then, or the refusal, and the entries recorded, in turn. A refusal leaves the meter as it was.
pub record Done : Type 0 where
  pub answer : Result (Unit {0}) MeterFault
  pub meter : Meter
  pub entries : List Recorded

-- The first that refuses.
abbrev pub or_else : {E : Type 0} → Result (Unit {0}) E → Result (Unit {0}) E → Result (Unit {0}) E
or_else (Ok x) next = next
or_else (Err e) next = Err e

abbrev pub of_memory : Result (Unit {0}) MemoryFault → Result (Unit {0}) MeterFault
of_memory (Ok x) = Ok tt
of_memory (Err e) = Err (Memory e)

-- The most that a log may have recorded when a call begins.
abbrev pub log_limit : ℕ
log_limit = 4000000000

abbrev pub limit_verdict : List LogName → Head → Result (Unit {0}) MeterFault
limit_verdict [] h = Ok tt
limit_verdict (name ∷ names) h = cond (nat_lt log_limit (log_of name h).total) (Err (LogLimit name)) (limit_verdict names h)

abbrev pub log_names : List LogName
log_names = History ∷ SelfReads ∷ LoadProfile ∷ []

abbrev pub totals_verdict : List Block → Result (Unit {0}) MeterFault
totals_verdict bs = limit_verdict log_names (decode_head (content_of bs 0))

-- Format: refused for a memory that is too small. Then the blocks that a meter needs are zeros, but for the layout number and tier 1 in every hour of the calendar.
abbrev pub zero_content : List ℕ
zero_content = replicate 510 0

abbrev pub fresh_content : ℕ → List ℕ
fresh_content n = cond (n == 0) (patch 0 (le_bytes 2 layout_number) zero_content) (cond (n == current_block Calendar) (patch 4 (replicate 24 1) zero_content) zero_content)

abbrev pub fresh_blocks : ℕ → ℕ → List Block
fresh_blocks n zero = []
fresh_blocks n (suc count) = sound (fresh_content n) ∷ fresh_blocks (n + 1) count

unfoldable pub formatted : List Block → List Block
formatted bs = fresh_blocks 0 needed ++ drop needed bs

-- The answer to a format, and the blocks then: a refusal leaves them.
pub record Formatted : Type 0 where
  pub answer : Result (Unit {0}) MemoryFault
  pub blocks : List Block

abbrev pub format_if : Result (Unit {0}) MemoryFault → List Block → Formatted
format_if (Ok x) bs = record { answer = Ok tt; blocks = formatted bs }
format_if (Err e) bs = record { answer = Err e; blocks = bs }

abbrev pub format : List Block → Formatted
format bs = format_if (size_verdict bs) bs

-- Start: the check of the image, and then the second that is given.
abbrev pub order_verdict : List Block → Result (Unit {0}) MeterFault
order_verdict bs = cond (in_order (content_of bs 0)) (Ok tt) (Err OutOfOrder)

abbrev pub image_verdict : List Block → Result (Unit {0}) MeterFault
image_verdict bs = or_else (of_memory (ready_verdict bs)) (or_else (order_verdict bs) (totals_verdict bs))

abbrev pub second_verdict : ℕ → Result (Unit {0}) MeterFault
second_verdict s = cond (nat_lt s seconds_in_all) (Ok tt) (Err BadSecond)

abbrev pub start_verdict : List Block → ℕ → Result (Unit {0}) MeterFault
start_verdict bs s = or_else (image_verdict bs) (second_verdict s)

-- Bit 0 of the status, event 1, and the change of time.
abbrev pub mark_started : Head → Head
mark_started h = with_status (record { started = true; clock_set = h.status.clock_set }) h

unfoldable pub power_up : ℕ → Going → Going
power_up s g = time_changed s (noted s PowerUp (on_head mark_started g))

abbrev pub meter_of : List Block → ℕ → Meter
meter_of bs s = record { blocks = bs; clock = s; response = None }

-- A started meter, or a refusal; the blocks then, which a refusal leaves.
pub record Started : Type 0 where
  pub answer : Result Meter MeterFault
  pub blocks : List Block
  pub entries : List Recorded

abbrev pub started_if : Result (Unit {0}) MeterFault → ℕ → Going → Started
started_if (Ok x) s g = record { answer = Ok (meter_of (ended (power_up s g)) s); blocks = ended (power_up s g); entries = (power_up s g).entries }
started_if (Err e) s g = record { answer = Err e; blocks = g.blocks; entries = [] }

abbrev pub started : List Block → ℕ → Started
started bs s = started_if (start_verdict bs s) s (begun bs)

-- Tick: the clock gains a second; rows that are due, the scheduled self-read, the interval record.
abbrev pub tick_verdict : Meter → Result (Unit {0}) MeterFault
tick_verdict m = or_else (of_memory (ready_verdict m.blocks)) (or_else (totals_verdict m.blocks) (second_verdict (m.clock + 1)))

abbrev pub scheduled_read : ℕ → Going → Going
scheduled_read s g = cond (is_scheduled (current_table Calendar g.blocks) s) (self_read_taken s g) g

abbrev pub interval_read : ℕ → Going → Going
interval_read s g = cond (s % 900 == 0) (interval_taken s g) g

unfoldable pub ticked : ℕ → Going → Going
ticked s g = interval_read s (scheduled_read s (time_changed s g))

-- A tick that recorded nothing writes nothing.
abbrev pub ended_if_any : List Recorded → Going → List Block
ended_if_any [] g = g.blocks
ended_if_any (e ∷ es) g = ended g

abbrev pub tick_if : Result (Unit {0}) MeterFault → Meter → Going → Done
tick_if (Ok x) m g = record { answer = Ok tt; meter = record { blocks = ended_if_any g.entries g; clock = m.clock + 1; response = m.response }; entries = g.entries }
tick_if (Err e) m g = record { answer = Err e; meter = m; entries = [] }

abbrev pub tick : Meter → Done
tick m = tick_if (tick_verdict m) m (ticked (m.clock + 1) (begun m.blocks))

-- Energy: watt-hours for the total and the active tier.
abbrev pub tier_at : ℕ → List Block → ℕ
tier_at s bs = active_tier (current_table Override bs) (current_table Calendar bs) s

unfoldable pub feeding : ℕ → ℕ → Going → Going
feeding s wh g = on_head (λ h. with_registers (fed (tier_at s g.blocks) wh h.registers) h) g

abbrev pub energy_if : Result (Unit {0}) MeterFault → Meter → Going → Done
energy_if (Ok x) m g = record { answer = Ok tt; meter = record { blocks = ended g; clock = m.clock; response = m.response }; entries = [] }
energy_if (Err e) m g = record { answer = Err e; meter = m; entries = [] }

abbrev pub energy : ℕ → Meter → Done
energy wh m = energy_if (of_memory (ready_verdict m.blocks)) m (feeding m.clock wh (begun m.blocks))

-- Stop gives the blocks back.
abbrev pub stopped : Meter → List Block
stopped m = m.blocks
