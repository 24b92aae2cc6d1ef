-- The bytes of an answer, and what a service leaves in its buffers.
use Rattle.std.specs.Prelude.{◌≡◌, ℕ, ◌-◌, ◌%◌, cond, List, [], ◌∷◌, ◌++◌, length, replicate, Some, None, Ok, Err, sum, Option, Result, nat_lt}
use Rattle.fields.specs.Words.{be_bytes}
use Rattle.fields.specs.Patches.{overlay}
use Rattle.numbers.specs.declared.service.AnswerCode.{AnswerCode}
use Rattle.numbers.specs.declared.service.AnswerCode.TheVariants as code
use Rattle.numbers.specs.Names.{code_number}
use Rattle.refusals.specs.declared.fault.ServiceFault.{ServiceFault}
use Rattle.refusals.specs.declared.fault.ServiceFault.TheVariants.{ShortBuffer}
use Rattle.refusals.specs.Causes.{code_of}
use Rattle.refusals.specs.Refusals.{service_cause}

-- What makes bytes sum to 0 modulo 256.
abbrev pub check_byte : List ℕ → ℕ
check_byte bytes = (256 - sum bytes % 256) % 256

abbrev pub with_check : List ℕ → List ℕ
with_check bytes = bytes ++ (check_byte bytes ∷ [])

-- Success, the count, the bytes and their check.
abbrev pub answer_bytes : List ℕ → List ℕ
answer_bytes bytes = code_number code.Ok ∷ (be_bytes 2 (length bytes) ++ with_check bytes)

-- An answer buffer that begins with a refusal's code, if it has one.
abbrev pub coded : Option AnswerCode → List ℕ → List ℕ
coded None old = old
coded (Some c) old = overlay (code_number c ∷ []) old

abbrev pub refused : ServiceFault → List ℕ → List ℕ
refused fault old = coded (code_of (service_cause fault)) old

-- A scratch whose first 510 bytes are zero.
unfoldable pub zeroed : ℕ → List ℕ → List ℕ
zeroed count old = overlay (replicate count 0) old

abbrev pub wiped : List ℕ → List ℕ
wiped old = zeroed 510 old

-- A scratch is wiped to the same, whatever was written over the part that is wiped.
abbrev pub WipesAlike : Type 0
WipesAlike = (work scratch : List ℕ) → length work ≡ 510 → wiped (overlay work scratch) ≡ wiped scratch

-- The answer has room for 1028 bytes and the scratch for 510; of two short buffers the answer is told.
abbrev pub buffer_verdict : ℕ → ℕ → Result (Unit {0}) ServiceFault
buffer_verdict answer scratch = cond (nat_lt answer 1028) (Err (ShortBuffer answer)) (cond (nat_lt scratch 510) (Err (ShortBuffer scratch)) (Ok tt))
