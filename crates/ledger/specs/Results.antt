-- The result of a procedure, from its number, its parameters and the ledger alone.
use Rattle.std.specs.Prelude.{◌≡◌, ℕ, Bool, false, cond, not, ◌&&◌, ◌||◌, List, [], ◌∷◌, length, Some, None, Ok, Err, Option, ◌==◌, nat_lt, slice_index}
use Rattle.calendar.specs.Calendar.{is_real, dated}
use Rattle.fields.specs.Words.{word}
use Rattle.numbers.specs.declared.procedure.ProcedureResult.{ProcedureResult}
use Rattle.numbers.specs.declared.procedure.ProcedureResult.TheVariants.{Completed, InvalidParameter, Conflict, Unrecognized}
use Rattle.pending.specs.declared.table.PendingTable.TheVariants.{Calendar, Outputs, Override}
use Rattle.fates.specs.Stagings.{Pending, waiting_in}
use Rattle.ledger.specs.Meanings.{Answer, plain, served, Meaning, nothing, started, ticked, wrote, staged_for, called, meant}
use Rattle.ledger.specs.Ledger.{Fed, Ledger, history_book, self_read_book, profile_book, noted}

abbrev pub is_one_of : ℕ → List ℕ → Bool
is_one_of n [] = false
is_one_of n (x ∷ xs) = n == x || is_one_of n xs

-- A list byte names a log: 1 history, 2 self-reads, 3 load profile. How many entries of it the ledger holds unread.
abbrev pub is_list : ℕ → Bool
is_list list = is_one_of list (1 ∷ 2 ∷ 3 ∷ [])

abbrev pub unread_of : Ledger → ℕ → ℕ
unread_of l list =
    cond (list == 1) (length (history_book l).fresh) (cond (list == 2) (length (self_read_book l).fresh) (cond (list == 3) (length (profile_book l).fresh) 0))

-- The numbers of the tables that can be staged, and the stagings of one of them that wait.
abbrev pub is_staged : ℕ → Bool
is_staged table = is_one_of table (54 ∷ 2053 ∷ 2095 ∷ [])

abbrev pub waiting_of : Ledger → ℕ → List Pending
waiting_of l table =
    cond (table == 54) (waiting_in Calendar l.account.stagings)
    (cond (table == 2053) (waiting_in Outputs l.account.stagings) (cond (table == 2095) (waiting_in Override l.account.stagings) []))

-- The numbers of the procedures, and how many parameter bytes each has: 12, 14 and 20 none.
abbrev pub is_procedure : ℕ → Bool
is_procedure number = is_one_of number (4 ∷ 5 ∷ 10 ∷ 12 ∷ 13 ∷ 14 ∷ 15 ∷ 20 ∷ [])

abbrev pub parameters_of : ℕ → ℕ
parameters_of number = cond (number == 4) 1 (cond (number == 5) 3 (cond (number == 10) 6 (cond (is_one_of number (13 ∷ 15 ∷ [])) 2 0)))

-- What is wrong in them: for 4 a list byte that names no log and is not 255, which is for all; for 5 one that names no log, or a count above what is unread;
-- for 10 a date-time that is not real; for 13 and 15 a number of no table that can be staged.
abbrev pub is_wrong : Ledger → ℕ → List ℕ → Bool
is_wrong l number p =
    cond (number == 4) (not (is_list (slice_index p 0) || slice_index p 0 == 255))
    (cond (number == 5) (not (is_list (slice_index p 0)) || nat_lt (unread_of l (slice_index p 0)) (word 2 1 p))
    (cond (number == 10) (not (is_real (dated (slice_index p 0) (slice_index p 1) (slice_index p 2) (slice_index p 3) (slice_index p 4) (slice_index p 5))))
    (cond (is_one_of number (13 ∷ 15 ∷ [])) (not (is_staged (word 2 0 p))) false)))

-- 13 and 15 are in conflict if nothing waits for the table.
abbrev pub is_in_conflict : Ledger → ℕ → List ℕ → Bool
is_in_conflict l number p = is_one_of number (13 ∷ 15 ∷ []) && length (waiting_of l (word 2 0 p)) == 0

-- No such procedure; then the number of parameter bytes and what they say; then a conflict.
abbrev pub judged : Ledger → ℕ → List ℕ → ProcedureResult
judged l number p =
    cond (not (is_procedure number)) Unrecognized
    (cond (not (length p == parameters_of number) || is_wrong l number p) InvalidParameter
    (cond (is_in_conflict l number p) Conflict Completed))

-- Only a procedure has a result.
abbrev pub result_meant : Ledger → Meaning → Option ProcedureResult
result_meant l nothing = None
result_meant l (started second) = None
result_meant l (ticked second) = None
result_meant l (wrote table offset bytes) = None
result_meant l (staged_for n bytes) = None
result_meant l (called number parameters) = Some (judged l number parameters)

-- The result in an answer, and the one due there: that of the meaning if a service was accepted, and none if it was refused.
abbrev pub result_in : Answer → Option ProcedureResult
result_in (plain r) = None
result_in (served bytes result) = result

abbrev pub result_due : Option ProcedureResult → Answer → Option ProcedureResult
result_due r (plain x) = None
result_due r (served (Ok bytes) result) = r
result_due r (served (Err e) result) = None

abbrev pub ResultRight : Ledger → Fed → Type 0
ResultRight l f = result_in f.answer ≡ result_due (result_meant l (meant l.clock f.call)) f.answer

abbrev pub AllResults : Ledger → List Fed → Type 0
AllResults l [] = Unit {0}
AllResults l (f ∷ fs) = ResultRight l f × AllResults (noted l f) fs
