-- Serve: a request, answered.
use Rattle.std.specs.Prelude.{ℕ, List, [], ◌∷◌, length, take, drop, Some, None, Ok, Err, Option, Result}
use Rattle.access.specs.Ready.{content_of, stored, ready_verdict}
use Rattle.fields.specs.Words.{part}
use Rattle.fields.specs.Patches.{patch, overlay}
use Rattle.memory.specs.Blocks.{Block}
use Rattle.numbers.specs.declared.procedure.ProcedureResult.{ProcedureResult}
use Rattle.numbers.specs.declared.service.AnswerCode.TheVariants as code
use Rattle.numbers.specs.Names.{code_number}
use Rattle.refusals.specs.declared.fault.MeterFault.{MeterFault}
use Rattle.refusals.specs.declared.fault.ServiceFault.{ServiceFault}
use Rattle.refusals.specs.declared.fault.ServiceFault.TheVariants as fault
use Rattle.request.specs.Answers.{answer_bytes, refused, wiped, buffer_verdict}
use Rattle.records.specs.declared.event.Event.TheVariants.{TableWritten}
use Rattle.pending.specs.declared.trigger.Due.{Due}
use Rattle.pending.specs.declared.plan.Plan.{Plan}
use Rattle.pending.specs.declared.row.Row.{Row}
use Rattle.pending.specs.declared.row.Row.TheVariants.{Empty, Waiting}
use Rattle.pending.specs.declared.table.PendingTable.{PendingTable}
use Rattle.pending.specs.Triggers.{plan_of}
use Rattle.directory.specs.declared.entry.TableEntry.{TableEntry}
use Rattle.directory.specs.Geometry.{pending_block}
use Rattle.head.specs.declared.head.Head.{Head}
use Rattle.head.specs.Heads.{decode_head}
use Rattle.model.specs.States.{Meter, Going, Recorded, Response, begun, ended, set_row, on_head, on_blocks}
use Rattle.model.specs.Steps.{noted}
use Rattle.model.specs.Tables.{table_bytes}
use Rattle.model.specs.Calls.{of_memory, totals_verdict}
use Rattle.model.specs.Procedures.{Order, called, called_number, clock_after, carried_out, result_of, response_to}
use Rattle.model.specs.Requests as request

-- What is done: the answer's bytes, the meter then, the entries in turn, and the result if a procedure was called.
pub record Outcome : Type 0 where
  pub bytes : List ℕ
  pub meter : Meter
  pub entries : List Recorded
  pub procedure : Option ProcedureResult

-- The answer to a write is one byte.
abbrev pub write_answer : List ℕ
write_answer = code_number code.Ok ∷ []

-- A call that changed the memory: the entries are those that it recorded.
abbrev pub changed : Meter → ℕ → Option Response → Option ProcedureResult → Going → Outcome
changed m clock response result g = record { bytes = write_answer; meter = record { blocks = ended g; clock = clock; response = response }; entries = g.entries; procedure = result }

-- Bytes at a place of the block that a table is in.
abbrev pub put_in : Option ℕ → ℕ → List ℕ → List Block → List Block
put_in None from bytes bs = bs
put_in (Some n) from bytes bs = stored bs n (patch from bytes (content_of bs n))

-- An accepted write is noted with the number that was written, after the write.
abbrev pub write_done : Meter → TableEntry → ℕ → List ℕ → Going
write_done m t from bytes = noted m.clock (TableWritten t.number) (on_blocks (put_in t.block from bytes) (begun m.blocks))

-- A staging: the row waits for its trigger, and the new table stands in its block.
abbrev pub row_for : Option (Plan × Due) → Row
row_for None = Empty
row_for (Some p) = Waiting p.0 p.1

abbrev pub stage_done : Meter → TableEntry → PendingTable → List ℕ → Going
stage_done m t table bytes =
    noted m.clock (TableWritten t.number)
    (on_head (set_row table (row_for (request.staged_due (plan_of (take 6 bytes)) m.clock))) (on_blocks (put_in (Some (pending_block table)) 0 (drop 6 bytes)) (begun m.blocks)))

-- A procedure: a nonzero result alters only the response.
abbrev pub call_done : Meter → List ℕ → Result Order ProcedureResult → Outcome
call_done m bytes (Ok order) =
    changed m (clock_after m.clock order) (Some (response_to bytes (result_of (Ok order)))) (Some (result_of (Ok order))) (carried_out (clock_after m.clock order) (called_number bytes) order (begun m.blocks))
call_done m bytes (Err r) =
    record { bytes = write_answer; meter = record { blocks = m.blocks; clock = m.clock; response = Some (response_to bytes r) }; entries = []; procedure = Some r }

abbrev pub head_of : Meter → Head
head_of m = decode_head (content_of m.blocks 0)

unfoldable pub performed : request.Deed → Meter → Outcome
performed (request.reading t p) m =
    record { bytes = answer_bytes (part p.count p.from (table_bytes t.source m.clock m.response (head_of m) m.blocks)); meter = m; entries = []; procedure = None }
performed (request.writing t from bytes) m = changed m m.clock m.response None (write_done m t from bytes)
performed (request.staging t table bytes) m = changed m m.clock m.response None (stage_done m t table bytes)
performed (request.calling bytes) m = call_done m bytes (called bytes (head_of m))

-- Faults of the layers below, and the limit of the logs, which is asked last, for writes.
abbrev pub of_meter : Result (Unit {0}) MeterFault → Result (Unit {0}) ServiceFault
of_meter (Ok x) = Ok tt
of_meter (Err e) = Err (fault.Meter e)

abbrev pub limited : request.Deed → List Block → Result (Unit {0}) ServiceFault
limited (request.reading t p) bs = Ok tt
limited (request.writing t from bytes) bs = of_meter (totals_verdict bs)
limited (request.staging t table bytes) bs = of_meter (totals_verdict bs)
limited (request.calling bytes) bs = of_meter (totals_verdict bs)

-- The deed that a request is admitted to, or the first refusal in order.
abbrev pub admitted : ℕ → List ℕ → Meter → Result request.Deed ServiceFault
admitted key bytes m =
    request.and_then (of_meter (of_memory (ready_verdict m.blocks))) (λ _. request.and_then (request.decided key bytes) (λ deed.
    request.and_then (request.content_verdict deed m.clock m.blocks) (λ _. request.and_then (request.present_verdict deed m.response (head_of m)) (λ _.
    request.and_then (limited deed m.blocks) (λ _. Ok deed)))))

-- What serving leaves: the result is the number of answer bytes, or the refusal.
pub record Served : Type 0 where
  pub result : Result ℕ ServiceFault
  pub meter : Meter
  pub answer : List ℕ
  pub scratch : List ℕ
  pub entries : List Recorded
  pub procedure : Option ProcedureResult

-- A refusal leaves the meter, and its code at the front of the answer buffer. From here on the scratch's first 510 bytes are zero.
abbrev pub answered : Result request.Deed ServiceFault → Meter → List ℕ → List ℕ → Served
answered (Ok deed) m answer scratch = record {
  result = Ok (length (performed deed m).bytes);
  meter = (performed deed m).meter;
  answer = overlay (performed deed m).bytes answer;
  scratch = wiped scratch;
  entries = (performed deed m).entries;
  procedure = (performed deed m).procedure;
}
answered (Err e) m answer scratch = record { result = Err e; meter = m; answer = refused e answer; scratch = wiped scratch; entries = []; procedure = None }

-- Buffers that are too short are refused before anything, and neither is touched.
abbrev pub served_if : Result (Unit {0}) ServiceFault → ℕ → List ℕ → Meter → List ℕ → List ℕ → Served
served_if (Ok x) key bytes m answer scratch = answered (admitted key bytes m) m answer scratch
served_if (Err e) key bytes m answer scratch = record { result = Err e; meter = m; answer = answer; scratch = scratch; entries = []; procedure = None }

abbrev pub served : ℕ → List ℕ → Meter → List ℕ → List ℕ → Served
served key bytes m answer scratch = served_if (buffer_verdict (length answer) (length scratch)) key bytes m answer scratch
