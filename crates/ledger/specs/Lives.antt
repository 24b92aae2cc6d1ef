-- The life of a plain meter: a format, then any calls.
use Rattle.std.specs.Prelude.{ℕ, List, [], ◌∷◌, ◌++◌, take, Ok, Err, Result}
use Rattle.memory.specs.Blocks.{Block}
use Rattle.refusals.specs.declared.fault.MeterFault.{MeterFault}
use Rattle.refusals.specs.declared.fault.ServiceFault.{ServiceFault}
use Rattle.model.specs.States.{Meter}
use Rattle.model.specs.Calls as call
use Rattle.model.specs.Calls.{Done, Started}
use Rattle.model.specs.Serving.{Served}
use Rattle.model.specs.Serving as serving
use Rattle.ledger.specs.Meanings.{Call, start, tick, energy, serve, stop, plain, served}
use Rattle.ledger.specs.Ledger.{Fed}

-- A meter is cold, with its memory, or started.
pub data State : Type 0 where
  cold : List Block → State
  running : Meter → State

abbrev pub blocks_in : State → List Block
blocks_in (cold bs) = bs
blocks_in (running m) = m.blocks

-- What a call leaves, and what a ledger is fed of it: nothing of a call that the state does not admit. That call does nothing, and is no part of the life.
pub record Step : Type 0 where
  pub state : State
  pub fed : List Fed

abbrev pub not_admitted : State → Step
not_admitted s = record { state = s; fed = [] }

abbrev pub state_after : Result Meter MeterFault → List Block → State
state_after (Ok m) bs = running m
state_after (Err e) bs = cold bs

abbrev pub answer_of : Result Meter MeterFault → Result (Unit {0}) MeterFault
answer_of (Ok m) = Ok tt
answer_of (Err e) = Err e

abbrev pub start_step : ℕ → Started → Step
start_step second o = record {
  state = state_after o.answer o.blocks;
  fed = record { call = start second; answer = plain (answer_of o.answer); entries = o.entries } ∷ [];
}

abbrev pub plain_step : Call → Done → Step
plain_step c o = record { state = running o.meter; fed = record { call = c; answer = plain o.answer; entries = o.entries } ∷ [] }

-- The bytes of an answer are the first of the buffer, as many as the result says.
abbrev pub bytes_of : Result ℕ ServiceFault → List ℕ → Result (List ℕ) ServiceFault
bytes_of (Ok n) answer = Ok (take n answer)
bytes_of (Err e) answer = Err e

abbrev pub serve_step : Call → Served → Step
serve_step c o = record {
  state = running o.meter;
  fed = record { call = c; answer = served (bytes_of o.result o.answer) o.procedure; entries = o.entries } ∷ [];
}

-- Cold meters start; started ones tick, are fed energy, serve and stop.
abbrev pub step : State → Call → Step
step (cold bs) (start second) = start_step second (call.started bs second)
step (cold bs) tick = not_admitted (cold bs)
step (cold bs) (energy wh) = not_admitted (cold bs)
step (cold bs) (serve key request answer scratch) = not_admitted (cold bs)
step (cold bs) stop = not_admitted (cold bs)
step (running m) (start second) = not_admitted (running m)
step (running m) tick = plain_step tick (call.tick m)
step (running m) (energy wh) = plain_step (energy wh) (call.energy wh m)
step (running m) (serve key request answer scratch) = serve_step (serve key request answer scratch) (serving.served key request m answer scratch)
step (running m) stop = record { state = cold (call.stopped m); fed = record { call = stop; answer = plain (Ok tt); entries = [] } ∷ [] }

abbrev pub live : State → List Call → State
live s [] = s
live s (c ∷ cs) = live (step s c).state cs

abbrev pub told : State → List Call → List Fed
told s [] = []
told s (c ∷ cs) = (step s c).fed ++ told (step s c).state cs
