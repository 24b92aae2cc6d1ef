-- A procedure's result is the one that the ledger judges.
use Rattle.std.proofs.Common.{◌≡◌, ℕ, Bool, true, false, cond, not, ◌||◌, eqb, ltb, List, [], ◌∷◌, map, length, get_or, drop, Some, None, Ok, Err, Option, Result, sym, refl, ap, ◌∙◌}
use Rattle.std.proofs.lemmas.Bool.{eqb-false, ne_eqb}
use Rattle.calendar.specs.Calendar.{second_if_real, second_of, is_real, of_bytes}
use Rattle.fields.specs.Words.{word}
use Rattle.memory.specs.Blocks.{Block}
use Rattle.numbers.specs.declared.log.LogName.{LogName}
use Rattle.numbers.specs.declared.log.LogName.TheVariants.{History, SelfReads, LoadProfile}
use Rattle.numbers.specs.declared.procedure.Procedure.{Procedure}
use Rattle.numbers.specs.declared.procedure.Procedure.TheVariants.{ResetList, UpdateLastRead, SetDateTime, ActivateAll, ActivateOne, WithdrawAll, WithdrawOne, TakeSelfRead}
use Rattle.numbers.specs.declared.procedure.ProcedureResult.{ProcedureResult}
use Rattle.numbers.specs.declared.procedure.ProcedureResult.TheVariants.{Completed, InvalidParameter, Conflict}
use Rattle.numbers.specs.Names.{first_with, log_number, log_numbered, procedure_number, procedure_numbered, procedures}
use Rattle.refusals.specs.declared.fault.ServiceFault.{ServiceFault}
use Rattle.pending.specs.declared.row.Row.{Row}
use Rattle.pending.specs.declared.row.Row.TheVariants.{Empty, Waiting}
use Rattle.pending.specs.declared.table.PendingTable.{PendingTable}
use Rattle.pending.specs.declared.table.PendingTable.TheVariants.{Calendar, Outputs, Override}
use Rattle.pending.specs.Rows.{is_waiting}
use Rattle.pending.specs.Tables.{table_of}
use Rattle.fates.specs.Stagings.{Pending, waiting_in, listed}
use Rattle.model.specs.States.{Meter, row_of, log_of}
use Rattle.model.specs.Calls.{log_names}
use Rattle.model.specs.Procedures.{Order, clear, acknowledge, activate, withdraw, sized, clear_order, acknowledge_order, clock_order, row_order, order_of, ordered, called_number, called_parameters, result_of}
use Rattle.model.specs.Procedures as procedure
use Rattle.model.specs.Requests.{Deed, reading, writing, staging, calling}
use Rattle.model.specs.Serving.{call_done, head_of, performed, admitted, answered, served_if}
use Rattle.model.proofs.Outcomes.{missing}
use Rattle.ledger.specs.Meanings.{Call, start, tick, energy, stop, serve, served, written_by, write_means}
use Rattle.ledger.specs.Ledger.{Ledger}
use Rattle.ledger.specs.Lives.{bytes_of, State, cold, running, step}
use Rattle.request.specs.Answers.{buffer_verdict}
use Rattle.ledger.specs.Statement.{head_in}
use Rattle.ledger.proofs.Seen.{seen_row}
use Rattle.ledger.specs.Results.{is_one_of, is_list, unread_of, is_staged, waiting_of, judged, result_meant, ResultRight, AllResults}
use Rattle.ledger.proofs.Asked.{Means, admitted_means, found_by_number, reading_means, calling_means, writing_means, staging_means}
use Rattle.ledger.proofs.Fitting.{Fits, FitsState}

-- a number by which nothing was found is no one's
eqb_back : (a b : ℕ) → eqb a b ≡ false → eqb b a ≡ false
eqb_back a b h = ne_eqb b a (λ e. eqb-false a b h (sym e))

not_found : {X : Type 0} (number : X → ℕ) (n : ℕ) (xs : List X) → first_with number n xs ≡ None → is_one_of n (map number xs) ≡ false
not_found number n [] h = refl
not_found number n (x ∷ xs) h = go (eqb (number x) n) refl h (not_found number n xs)
  where
    go : (b : Bool) → eqb (number x) n ≡ b → cond b (Some x) (first_with number n xs) ≡ None → (first_with number n xs ≡ None → is_one_of n (map number xs) ≡ false) →
        (eqb n (number x) || is_one_of n (map number xs)) ≡ false
    go true e k rest = absurd (missing k)
    go false e k rest = rw (eqb_back (number x) n e) (rest k)

-- the number of the parameter bytes is judged before what they say
sized_judged : (n : ℕ) (p : List ℕ) (r : Result Order ProcedureResult) (wrong : Bool) (z : ProcedureResult) → result_of r ≡ cond wrong InvalidParameter z →
    result_of (sized n p r) ≡ cond (not (eqb (length p) n) || wrong) InvalidParameter z
sized_judged n p r wrong z h = go (eqb (length p) n)
  where
    go : (b : Bool) → result_of (cond b r (Err InvalidParameter)) ≡ cond (not b || wrong) InvalidParameter z
    go true = h
    go false = refl

clear_judged : (list : ℕ) (found : Option LogName) → log_numbered list ≡ found → result_of (clear_order list) ≡ cond (not (is_list list || eqb list 255)) InvalidParameter Completed
clear_judged list None e = rw (e, not_found log_number list (History ∷ SelfReads ∷ LoadProfile ∷ []) e) (go (eqb list 255))
  where
    go : (b : Bool) → result_of (cond b (Ok (clear log_names)) (Err InvalidParameter)) ≡ cond (not (false || b)) InvalidParameter Completed
    go true = refl
    go false = refl
clear_judged list (Some name) e = rw (found_by_number log_number list (History ∷ SelfReads ∷ LoadProfile ∷ []) name e) (go name)
  where
    go : (name : LogName) → result_of (clear_order (log_number name)) ≡ cond (not (is_list (log_number name) || eqb (log_number name) 255)) InvalidParameter Completed
    go History = refl
    go SelfReads = refl
    go LoadProfile = refl

clock_judged : (p : List ℕ) → result_of (clock_order (second_if_real (of_bytes p))) ≡ cond (not (is_real (of_bytes p))) InvalidParameter Completed
clock_judged p = go (is_real (of_bytes p))
  where
    go : (b : Bool) → result_of (clock_order (cond b (Some (second_of (of_bytes p))) None)) ≡ cond (not b) InvalidParameter Completed
    go true = refl
    go false = refl

module _ (bs : List Block) (l : Ledger) (fits : Fits bs l) where
  unread_held : (name : LogName) → (log_of name (head_in bs)).unread ≡ unread_of l (log_number name)
  unread_held History = fits.logs.history.matches.unread
  unread_held SelfReads = fits.logs.self_reads.matches.unread
  unread_held LoadProfile = fits.logs.profile.matches.unread

  list_named : (name : LogName) → is_list (log_number name) ≡ true
  list_named History = refl
  list_named SelfReads = refl
  list_named LoadProfile = refl

  acknowledge_judged : (list count : ℕ) (found : Option LogName) → log_numbered list ≡ found →
      result_of (acknowledge_order found count (head_in bs)) ≡ cond (not (is_list list) || ltb (unread_of l list) count) InvalidParameter Completed
  acknowledge_judged list count None e = rw (not_found log_number list (History ∷ SelfReads ∷ LoadProfile ∷ []) e) refl
  acknowledge_judged list count (Some name) e =
      rw (found_by_number log_number list (History ∷ SelfReads ∷ LoadProfile ∷ []) name e, list_named name, unread_held name) (go (ltb (unread_of l (log_number name)) count))
    where
      go : (b : Bool) → result_of (cond b (Err InvalidParameter) (Ok (acknowledge name count))) ≡ cond b InvalidParameter Completed
      go true = refl
      go false = refl

  waits_judged : (order : List PendingTable → Order) (t : PendingTable) →
      result_of (row_order order (Some t) (head_in bs)) ≡ cond (eqb (length (waiting_in t l.account.stagings)) 0) Conflict Completed
  waits_judged order t = rw (fits.agrees.rows t) (go (row_of t (head_in bs)))
    where
      go : (r : Row) → result_of (cond (is_waiting r) (Ok (order (t ∷ []))) (Err Conflict)) ≡ cond (eqb (length (listed (seen_row t r bs))) 0) Conflict Completed
      go Empty = refl
      go (Waiting plan due) = refl

  row_judged : (order : List PendingTable → Order) (table : ℕ) →
      result_of (row_order order (table_of table) (head_in bs)) ≡ cond (not (is_staged table)) InvalidParameter (cond (eqb (length (waiting_of l table)) 0) Conflict Completed)
  row_judged order table = go (eqb table 54) (eqb table 2053) (eqb table 2095)
    where
      waits : PendingTable → List Pending
      waits t = waiting_in t l.account.stagings

      go : (a b c : Bool) → result_of (row_order order (cond a (Some Calendar) (cond b (Some Outputs) (cond c (Some Override) None))) (head_in bs))
          ≡ cond (not (a || (b || (c || false)))) InvalidParameter (cond (eqb (length (cond a (waits Calendar) (cond b (waits Outputs) (cond c (waits Override) [])))) 0) Conflict Completed)
      go true b c = waits_judged order Calendar
      go false true c = waits_judged order Outputs
      go false false true = waits_judged order Override
      go false false false = refl

  order_judged : (q : Procedure) (p : List ℕ) → result_of (order_of q p (head_in bs)) ≡ judged l (procedure_number q) p
  order_judged ResetList p = sized_judged 1 p _ _ _ (clear_judged (get_or p 0 0) (log_numbered (get_or p 0 0)) refl)
  order_judged UpdateLastRead p = sized_judged 3 p _ _ _ (acknowledge_judged (get_or p 0 0) (word 2 1 p) (log_numbered (get_or p 0 0)) refl)
  order_judged SetDateTime p = sized_judged 6 p _ _ _ (clock_judged p)
  order_judged ActivateAll p = sized_judged 0 p _ false Completed refl
  order_judged ActivateOne p = sized_judged 2 p _ _ _ (row_judged activate (word 2 0 p))
  order_judged WithdrawAll p = sized_judged 0 p _ false Completed refl
  order_judged WithdrawOne p = sized_judged 2 p _ _ _ (row_judged withdraw (word 2 0 p))
  order_judged TakeSelfRead p = sized_judged 0 p _ false Completed refl

  any_judged : (n : ℕ) (q : Option Procedure) (p : List ℕ) → procedure_numbered n ≡ q → result_of (ordered q p (head_in bs)) ≡ judged l n p
  any_judged n None p e = rw (not_found procedure_number n procedures e) refl
  any_judged n (Some q) p e = rw (found_by_number procedure_number n procedures q e) (order_judged q p)

  pub called_judged : (x : List ℕ) → result_of (procedure.called x (head_in bs)) ≡ judged l (called_number x) (drop 3 x)
  called_judged x = any_judged (called_number x) (procedure_numbered (called_number x)) (called_parameters x) refl

-- an answer has the result of its deed
call_result : (m : Meter) (x : List ℕ) (r : Result Order ProcedureResult) → (call_done m x r).procedure ≡ Some (result_of r)
call_result m x (Ok o) = refl
call_result m x (Err r) = refl

module _ (key : ℕ) (request answer scratch : List ℕ) (m : Meter) (l : Ledger) (fits : Fits m.blocks l) where
  deed_result : (d : Deed) → Means m.clock request d → (performed d m).procedure ≡ result_meant l (write_means (written_by request))
  unfolding performed
  deed_result (reading t p) means = sym (ap (result_meant l) (reading_means request means))
  deed_result (writing t from x) means = sym (ap (result_meant l) (writing_means request t from x means))
  deed_result (staging t table x) means = sym (ap (result_meant l) (staging_means m.clock request t table x means))
  deed_result (calling x) means =
      call_result m x (procedure.called x (head_of m)) ∙ (ap (λ (r : ProcedureResult). Some r) (called_judged m.blocks l fits x) ∙ sym (ap (result_meant l) (calling_means request x means)))

  answer_result : (v : Result Deed ServiceFault) → admitted key request m ≡ v → let o = answered v m answer scratch in
      ResultRight l (record { call = serve key request answer scratch; answer = served (bytes_of o.result o.answer) o.procedure; entries = o.entries })
  answer_result (Err e) is = refl
  answer_result (Ok d) is = deed_result d (admitted_means key request m d is)

  pub result_right : (v : Result (Unit {0}) ServiceFault) → let o = served_if v key request m answer scratch in
      ResultRight l (record { call = serve key request answer scratch; answer = served (bytes_of o.result o.answer) o.procedure; entries = o.entries })
  result_right (Err e) = refl
  result_right (Ok x) = answer_result (admitted key request m) refl

-- and so it is in every step of a life
pub step_results : (s : State) (l : Ledger) → FitsState s l → (c : Call) → AllResults l (step s c).fed
step_results (cold bs) l fits (start second) = (refl, tt)
step_results (cold bs) l fits tick = tt
step_results (cold bs) l fits (energy wh) = tt
step_results (cold bs) l fits (serve key request answer scratch) = tt
step_results (cold bs) l fits stop = tt
step_results (running m) l fits (start second) = tt
step_results (running m) l fits tick = (refl, tt)
step_results (running m) l fits (energy wh) = (refl, tt)
step_results (running m) l fits (serve key request answer scratch) = (result_right key request answer scratch m l fits.0 (buffer_verdict (length answer) (length scratch)), tt)
step_results (running m) l fits stop = (refl, tt)
