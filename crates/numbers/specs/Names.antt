-- The names of the service and their numbers.
use Rattle.std.specs.Prelude.{◌≡◌, ℕ, cond, List, [], ◌∷◌, Some, None, Option, ◌==◌}
use Rattle.numbers.specs.declared.log.LogName.{LogName}
use Rattle.numbers.specs.declared.log.LogName.TheVariants.{History, SelfReads, LoadProfile}
use Rattle.numbers.specs.declared.service.Service.{Service}
use Rattle.numbers.specs.declared.service.Service.TheVariants.{FullRead, PartialRead, FullWrite, PartialWrite}
use Rattle.numbers.specs.declared.service.Key.{Key}
use Rattle.numbers.specs.declared.service.Key.TheVariants.{Reader, Master}
use Rattle.numbers.specs.declared.service.AnswerCode.{AnswerCode}
use Rattle.numbers.specs.declared.service.AnswerCode.TheVariants as code
use Rattle.numbers.specs.declared.procedure.Procedure.{Procedure}
use Rattle.numbers.specs.declared.procedure.Procedure.TheVariants as procedure
use Rattle.numbers.specs.declared.procedure.ProcedureResult.{ProcedureResult}
use Rattle.numbers.specs.declared.procedure.ProcedureResult.TheVariants.{Completed, InvalidParameter, Conflict, Unrecognized}
use Rattle.numbers.specs.declared.tier.Tier.{Tier}
use Rattle.numbers.specs.declared.tier.Tier.TheVariants.{First, Second, Third, Fourth}

-- The first of some names that has a number.
abbrev pub first_with : {X : Type 0} → (X → ℕ) → ℕ → List X → Option X
first_with number n [] = None
first_with number n (x ∷ xs) = cond (number x == n) (Some x) (first_with number n xs)

-- A number that was read: what was found has it, and a name that has it was found.
pub record Reads {X : Type 0} (number : X → ℕ) (n : ℕ) (found : Option X) : Type 0 where
  pub right : (x : X) → found ≡ Some x → number x ≡ n
  pub whole : (x : X) → number x ≡ n → found ≡ Some x

-- Each kind of name: its numbers, and the name that has a number.
abbrev pub log_number : LogName → ℕ
log_number History = 1
log_number SelfReads = 2
log_number LoadProfile = 3

abbrev pub log_numbered : ℕ → Option LogName
log_numbered n = first_with log_number n (History ∷ (SelfReads ∷ (LoadProfile ∷ [])))

-- The place of a log among the logs, from 0.
abbrev pub log_index : LogName → ℕ
log_index History = 0
log_index SelfReads = 1
log_index LoadProfile = 2

abbrev pub service_number : Service → ℕ
service_number FullRead = 0x30
service_number PartialRead = 0x3F
service_number FullWrite = 0x40
service_number PartialWrite = 0x4F

abbrev pub service_numbered : ℕ → Option Service
service_numbered n = first_with service_number n (FullRead ∷ (PartialRead ∷ (FullWrite ∷ (PartialWrite ∷ []))))

abbrev pub key_number : Key → ℕ
key_number Reader = 1
key_number Master = 2

abbrev pub key_numbered : ℕ → Option Key
key_numbered n = first_with key_number n (Reader ∷ (Master ∷ []))

abbrev pub code_number : AnswerCode → ℕ
code_number code.Ok = 0
code_number code.Error = 1
code_number code.ServiceNotSupported = 2
code_number code.InsufficientClearance = 3
code_number code.OperationNotPossible = 4
code_number code.InappropriateAction = 5
code_number code.DataNotReady = 7

abbrev pub procedure_number : Procedure → ℕ
procedure_number procedure.ResetList = 4
procedure_number procedure.UpdateLastRead = 5
procedure_number procedure.SetDateTime = 10
procedure_number procedure.ActivateAll = 12
procedure_number procedure.ActivateOne = 13
procedure_number procedure.WithdrawAll = 14
procedure_number procedure.WithdrawOne = 15
procedure_number procedure.TakeSelfRead = 20

abbrev pub procedures : List Procedure
procedures =
    procedure.ResetList
    ∷ (procedure.UpdateLastRead
    ∷ (procedure.SetDateTime
    ∷ (procedure.ActivateAll
    ∷ (procedure.ActivateOne ∷ (procedure.WithdrawAll ∷ (procedure.WithdrawOne ∷ (procedure.TakeSelfRead ∷ [])))))))

abbrev pub procedure_numbered : ℕ → Option Procedure
procedure_numbered n = first_with procedure_number n procedures

abbrev pub result_number : ProcedureResult → ℕ
result_number Completed = 0
result_number InvalidParameter = 2
result_number Conflict = 3
result_number Unrecognized = 6

abbrev pub result_numbered : ℕ → Option ProcedureResult
result_numbered n = first_with result_number n (Completed ∷ (InvalidParameter ∷ (Conflict ∷ (Unrecognized ∷ []))))

abbrev pub tier_number : Tier → ℕ
tier_number First = 1
tier_number Second = 2
tier_number Third = 3
tier_number Fourth = 4

abbrev pub tier_numbered : ℕ → Option Tier
tier_numbered n = first_with tier_number n (First ∷ (Second ∷ (Third ∷ (Fourth ∷ []))))
