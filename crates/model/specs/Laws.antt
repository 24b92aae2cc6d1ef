-- What stands of every call of the plain meter: what a refusal leaves, and the buffers.
use Rattle.std.specs.Prelude.{◌≡◌, ℕ, ◌<◌, ◌≤◌, ◌⊎◌, List, length, drop, Ok, Err}
use Rattle.memory.specs.declared.fault.MemoryFault.{MemoryFault}
use Rattle.memory.specs.Blocks.{Block}
use Rattle.refusals.specs.declared.fault.MeterFault.{MeterFault}
use Rattle.refusals.specs.declared.fault.ServiceFault.{ServiceFault}
use Rattle.request.specs.Answers.{wiped, refused}
use Rattle.model.specs.States.{Meter}
use Rattle.model.specs.Calls.{format, started, tick, energy}
use Rattle.model.specs.Serving.{served}

-- A refused call leaves the blocks, the clock and the response as they were.
pub record RefusalsLeave : Type 0 where
  pub format : (bs : List Block) (e : MemoryFault) → (format bs).answer ≡ Err e → (format bs).blocks ≡ bs
  pub start : (bs : List Block) (s : ℕ) (e : MeterFault) → (started bs s).answer ≡ Err e → (started bs s).blocks ≡ bs
  pub tick : (m : Meter) (e : MeterFault) → (tick m).answer ≡ Err e → (tick m).meter ≡ m
  pub energy : (wh : ℕ) (m : Meter) (e : MeterFault) → (energy wh m).answer ≡ Err e → (energy wh m).meter ≡ m
  pub serve : (key : ℕ) (bytes : List ℕ) (m : Meter) (answer scratch : List ℕ) (e : ServiceFault) → (served key bytes m answer scratch).result ≡ Err e → (served key bytes m answer scratch).meter ≡ m

-- Buffers that are too short are not touched. Otherwise the scratch is wiped however the call ends, a refusal puts its code at the front of the answer,
-- and what lies behind the bytes of an answer stays.
pub record BuffersLeft : Type 0 where
  pub short : (key : ℕ) (bytes : List ℕ) (m : Meter) (answer scratch : List ℕ) → (length answer < 1028) ⊎ (length scratch < 510) →
      ((served key bytes m answer scratch).answer ≡ answer) × ((served key bytes m answer scratch).scratch ≡ scratch)
  pub wiped : (key : ℕ) (bytes : List ℕ) (m : Meter) (answer scratch : List ℕ) → 1028 ≤ length answer → 510 ≤ length scratch → (served key bytes m answer scratch).scratch ≡ wiped scratch
  pub coded : (key : ℕ) (bytes : List ℕ) (m : Meter) (answer scratch : List ℕ) (e : ServiceFault) → 1028 ≤ length answer → 510 ≤ length scratch →
      (served key bytes m answer scratch).result ≡ Err e → (served key bytes m answer scratch).answer ≡ refused e answer
  pub behind : (key : ℕ) (bytes : List ℕ) (m : Meter) (answer scratch : List ℕ) (n : ℕ) → (served key bytes m answer scratch).result ≡ Ok n → drop n (served key bytes m answer scratch).answer ≡ drop n answer
