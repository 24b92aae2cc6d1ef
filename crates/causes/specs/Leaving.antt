-- What a call that is refused leaves, and what serving leaves in the buffers.
use Rattle.std.specs.Prelude.{◌≡◌, ℕ, ◌<◌, ◌≤◌, ◌⊎◌, List, [], ◌∷◌, length, take, drop, Some, None, Ok, Err}
use Rattle.memory.specs.declared.fault.MemoryFault.{MemoryFault}
use Rattle.memory.specs.Blocks.{Block}
use Rattle.numbers.specs.declared.service.AnswerCode.{AnswerCode}
use Rattle.numbers.specs.Names.{code_number}
use Rattle.refusals.specs.declared.fault.MeterFault.{MeterFault}
use Rattle.refusals.specs.declared.fault.ServiceFault.{ServiceFault}
use Rattle.refusals.specs.declared.fault.ServiceFault.TheVariants.{ShortBuffer}
use Rattle.refusals.specs.Causes.{code_of}
use Rattle.refusals.specs.Refusals.{service_cause}
use Rattle.request.specs.Answers.{wiped}
use Rattle.model.specs.States.{Meter}
use Rattle.model.specs.Calls.{Done, format, started, tick, energy}
use Rattle.model.specs.Serving.{Served, served}

-- The buffers of a service: the answer's room, and the scratch.
abbrev pub answer_room : ℕ
answer_room = 1028

abbrev pub scratch_room : ℕ
scratch_room = 510

-- A call that did nothing: blocks, clock and response are as before, and nothing is recorded.
pub record Unmoved (m : Meter) (d : Done) : Type 0 where
  pub meter : d.meter ≡ m
  pub entries : d.entries ≡ []

-- A service that did nothing: besides, no procedure was called, of the answer at most the first byte is another, and the scratch is as before or wiped.
pub record Unserved (m : Meter) (old_answer old_scratch : List ℕ) (d : Served) : Type 0 where
  pub meter : d.meter ≡ m
  pub entries : d.entries ≡ []
  pub procedure : d.procedure ≡ None
  pub behind : drop 1 d.answer ≡ drop 1 old_answer
  pub long : length d.answer ≡ length old_answer
  pub scratch : (d.scratch ≡ old_scratch) ⊎ (d.scratch ≡ wiped old_scratch)

-- Both buffers are as they were, and the length of a short one is told.
pub record TooShort (short old_answer old_scratch : List ℕ) (d : Served) : Type 0 where
  pub told : d.result ≡ Err (ShortBuffer (length short))
  pub answer : d.answer ≡ old_answer
  pub scratch : d.scratch ≡ old_scratch

-- The first byte is the code of the refusal's cause, which has one.
pub record Coded (e : ServiceFault) (answer : List ℕ) : Type 0 where
  pub code : AnswerCode
  pub has : code_of (service_cause e) ≡ Some code
  pub first : take 1 answer ≡ code_number code ∷ []

-- So many bytes of the answer are new, which it has room for; those behind them stay.
pub record Answered (n : ℕ) (old_answer : List ℕ) (d : Served) : Type 0 where
  pub fits : n ≤ answer_room
  pub long : length d.answer ≡ length old_answer
  pub behind : drop n d.answer ≡ drop n old_answer

-- A refused call leaves memory, clock and response, records nothing, and alters of the answer at most its first byte.
-- Short buffers are refused, the answer first, and not touched. Otherwise the scratch is wiped however the call ends, and a refusal puts its code at the front of the answer.
pub record RefusedLeaves : Type 0 where
  pub format : (bs : List Block) (e : MemoryFault) → (format bs).answer ≡ Err e → (format bs).blocks ≡ bs
  pub start : (bs : List Block) (s : ℕ) (e : MeterFault) → (started bs s).answer ≡ Err e → ((started bs s).blocks ≡ bs) × ((started bs s).entries ≡ [])
  pub tick : (m : Meter) (e : MeterFault) → (tick m).answer ≡ Err e → Unmoved m (tick m)
  pub energy : (wh : ℕ) (m : Meter) (e : MeterFault) → (energy wh m).answer ≡ Err e → Unmoved m (energy wh m)
  pub serve : (key : ℕ) (bytes : List ℕ) (m : Meter) (answer scratch : List ℕ) (e : ServiceFault) →
      (served key bytes m answer scratch).result ≡ Err e → Unserved m answer scratch (served key bytes m answer scratch)
  pub short_answer : (key : ℕ) (bytes : List ℕ) (m : Meter) (answer scratch : List ℕ) → length answer < answer_room → TooShort answer answer scratch (served key bytes m answer scratch)
  pub short_scratch : (key : ℕ) (bytes : List ℕ) (m : Meter) (answer scratch : List ℕ) → answer_room ≤ length answer → length scratch < scratch_room →
      TooShort scratch answer scratch (served key bytes m answer scratch)
  pub wiped : (key : ℕ) (bytes : List ℕ) (m : Meter) (answer scratch : List ℕ) → answer_room ≤ length answer → scratch_room ≤ length scratch → (served key bytes m answer scratch).scratch ≡ wiped scratch
  pub coded : (key : ℕ) (bytes : List ℕ) (m : Meter) (answer scratch : List ℕ) (e : ServiceFault) → answer_room ≤ length answer → scratch_room ≤ length scratch →
      (served key bytes m answer scratch).result ≡ Err e → Coded e (served key bytes m answer scratch).answer
  pub accepted : (key : ℕ) (bytes : List ℕ) (m : Meter) (answer scratch : List ℕ) (n : ℕ) →
      (served key bytes m answer scratch).result ≡ Ok n → Answered n answer (served key bytes m answer scratch)
