-- A procedure that is carried out does what its number and parameters mean.
use Rattle.std.proofs.Common.{◌≡◌, ℕ, ◌<◌, false, eqb, ltb, List, [], ◌∷◌, ◌++◌, length, get_or, Some, None, Ok, Err, Option, Result, sym, refl, ap, ◌∙◌, subst, ap₂, arith}
use Rattle.std.proofs.lemmas.Bool.{cond_both}
use Rattle.access.specs.Ready.{content_of}
use Rattle.calendar.specs.Calendar.{seconds_in_all, date_of, second_of, of_bytes, second_if_real}
use Rattle.fields.specs.Words.{word}
use Rattle.memory.specs.Blocks.{Block}
use Rattle.numbers.specs.declared.log.LogName.{LogName}
use Rattle.numbers.specs.declared.log.LogName.TheVariants.{History, SelfReads, LoadProfile}
use Rattle.numbers.specs.declared.procedure.Procedure.{Procedure}
use Rattle.numbers.specs.declared.procedure.Procedure.TheVariants.{ResetList, UpdateLastRead, SetDateTime, ActivateAll, ActivateOne, WithdrawAll, WithdrawOne, TakeSelfRead}
use Rattle.numbers.specs.declared.procedure.ProcedureResult.{ProcedureResult}
use Rattle.numbers.specs.declared.procedure.ProcedureResult.TheVariants.{InvalidParameter, Conflict}
use Rattle.numbers.specs.Names.{log_numbered, procedure_numbered}
use Rattle.records.specs.declared.event.Event.TheVariants.{TimeChanged, ProcedureInvoked}
use Rattle.records.specs.declared.history.EventRecord.{EventRecord}
use Rattle.records.specs.declared.self_read.SelfRead.{SelfRead}
use Rattle.records.specs.declared.interval.Interval.{Interval}
use Rattle.pending.specs.declared.table.PendingTable.{PendingTable}
use Rattle.pending.specs.Rows.{is_waiting}
use Rattle.pending.specs.Tables.{table_of, all_tables}
use Rattle.head.specs.declared.head.Head.{Head}
use Rattle.fates.specs.Stagings.{run, any_due, due_by, Agrees}
use Rattle.model.specs.States.{begun, row_of, log_of, on_head}
use Rattle.model.specs.Calls.{log_names}
use Rattle.model.specs.Procedures.{Order, clear, acknowledge, set_clock, activate, withdraw, read_self, mark_set, obeyed, carried_out, sized, clear_one, clear_order, acknowledge_order, clock_order, row_order, order_of, ordered, called_number, called_parameters}
use Rattle.model.specs.Procedures as procedure
use Rattle.model.proofs.Keeping.{Kept, raised}
use Rattle.model.proofs.Ordering.{SafeOrder, carried_kept}
use Rattle.ledger.specs.Meanings.{is_done, called}
use Rattle.ledger.specs.Ledger.{Ledger}
use Rattle.ledger.specs.Entries.{event, activations_of}
use Rattle.ledger.specs.Statement.{head_in}
use Rattle.ledger.proofs.Seen.{said_of}
use Rattle.ledger.proofs.Ordered.{Ordered, clears_one, clears_all, acknowledges, sets, activates_all, activates_one, withdraws_all, withdraws_one, reads_self, order_happens, order_asks, order_brings, ordered_number, ordered_clock, ordered_happens, ordered_asks, ordered_brings, all_activations_lem, one_activation}
use Rattle.ledger.proofs.Outlines.{outlines, brings_seen, if_outline, each_outline, noted_outline, self_read_outline, event_then_time, rows_account}
use Rattle.ledger.proofs.Tied.{Pasts, Tied}
use Rattle.ledger.proofs.TiedSteps.{along}
use Rattle.ledger.proofs.TiedOrders.{ordered_pasts, Covered, carried_along}
use Rattle.ledger.proofs.Views.{seen_of}
use Rattle.ledger.proofs.ViewsForce.{waiting_tests}
use Rattle.ledger.proofs.ViewsCalls.{clear_unseen, acknowledge_unseen, read_unseen, clock_seen, activate_all_seen, activate_one_seen, withdraw_all_seen, withdraw_one_seen}
use Rattle.ledger.proofs.Fitting.{pasts_of, asked_pasts, Fits, Works}

-- what an order asks of the logs is what its call asked of them
pasts_ordered : {h : Head} {p : List ℕ} {n : ℕ} {o : Order} → Ordered h p n o → (base : Pasts) →
    ordered_pasts o base ≡ record { history = order_asks History o ++ base.history; self_reads = order_asks SelfReads o ++ base.self_reads; profile = order_asks LoadProfile o ++ base.profile }
pasts_ordered (clears_one History is) base = refl
pasts_ordered (clears_one SelfReads is) base = refl
pasts_ordered (clears_one LoadProfile is) base = refl
pasts_ordered (clears_all is) base = refl
pasts_ordered (acknowledges History is few) base = refl
pasts_ordered (acknowledges SelfReads is few) base = refl
pasts_ordered (acknowledges LoadProfile is few) base = refl
pasts_ordered (sets real) base = refl
pasts_ordered activates_all base = refl
pasts_ordered (activates_one t is waits) base = refl
pasts_ordered withdraws_all base = refl
pasts_ordered (withdraws_one t is waits) base = refl
pasts_ordered reads_self base = refl

pasts_asked : {h : Head} {p : List ℕ} {n : ℕ} {o : Order} → Ordered h p n o → (base : Pasts) → ordered_pasts o base ≡ asked_pasts (called n p) base
pasts_asked ord base =
    pasts_ordered ord base
    ∙ sym (rw (ordered_asks EventRecord History ord, ordered_asks SelfRead SelfReads ord, ordered_asks Interval LoadProfile ord))

covered : {h : Head} {p : List ℕ} {n : ℕ} {o : Order} → Ordered h p n o → Covered o h
covered (clears_one name is) = tt
covered (clears_all is) = tt
covered (acknowledges name is few) = few
covered (sets real) = tt
covered activates_all = tt
covered (activates_one t is waits) = tt
covered withdraws_all = tt
covered (withdraws_one t is waits) = tt
covered reads_self = tt

module _ (bs : List Block) (clock : ℕ) (real : clock < seconds_in_all) (kept : Kept (content_of bs 0) 0 (begun bs)) where
  -- rows and tables
  order_view : {p : List ℕ} {n : ℕ} {o : Order} (ord : Ordered (head_in bs) p n o) → seen_of (carried_out (procedure.clock_after clock o) n o (begun bs)) ≡ run (said_of bs) (order_happens ord)
  order_view (clears_one name is) = clear_unseen clock 4 (name ∷ []) (begun bs)
  order_view (clears_all is) = clear_unseen clock 4 log_names (begun bs)
  order_view {p} (acknowledges name is few) = acknowledge_unseen clock 5 name (word 2 1 p) (begun bs)
  order_view {p} (sets within) = clock_seen 0 10 (second_of (of_bytes p)) (begun bs) within (omega arith) kept
  order_view activates_all = activate_all_seen 0 clock 12 (begun bs) real (omega arith) kept
  order_view (activates_one t is waits) = activate_one_seen 0 clock 13 t (begun bs) (omega arith) kept
  order_view withdraws_all = withdraw_all_seen clock 14 (begun bs) kept
  order_view (withdraws_one t is waits) = withdraw_one_seen clock 15 t (begun bs) kept
  order_view reads_self = read_unseen clock 20 (begun bs)

-- the entries before its own event
order_outline : (bs : List Block) (l : Ledger) → Agrees (said_of bs) l.account → {p : List ℕ} {n : ℕ} {o : Order} → Ordered (head_in bs) p n o →
    outlines (obeyed (procedure.clock_after l.clock o) o (begun bs)) ≡ order_brings l o
unfolding obeyed
order_outline bs l agrees (clears_one name is) = refl
order_outline bs l agrees (clears_all is) = refl
order_outline bs l agrees (acknowledges name is few) = refl
order_outline bs l agrees {p} (sets within) =
    let s = second_of (of_bytes p) in
    event_then_time s TimeChanged (on_head mark_set (begun bs))
    ∙ ap (λ xs. event (date_of s) TimeChanged ∷ xs) (sym (rows_account (due_by s) s l.account (λ t. row_of t (head_in bs)) bs agrees.rows) ∙ all_activations_lem (due_by s) s l.account)
order_outline bs l agrees activates_all =
    each_outline l.clock is_waiting any_due waiting_tests (begun bs)
    ∙ sym (rows_account any_due l.clock l.account (λ t. row_of t (head_in bs)) bs agrees.rows) ∙ all_activations_lem any_due l.clock l.account
order_outline bs l agrees (activates_one t is waits) =
    if_outline t l.clock is_waiting any_due waiting_tests (begun bs)
    ∙ sym (ap (activations_of any_due l.clock t) (agrees.rows t) ∙ brings_seen any_due l.clock t (row_of t (head_in bs)) bs) ∙ sym (one_activation any_due l.clock l.account t)
order_outline bs l agrees withdraws_all = refl
order_outline bs l agrees (withdraws_one t is waits) = refl
order_outline bs l agrees reads_self = self_read_outline l.clock (begun bs)

pub order_works : (bs : List Block) (l : Ledger) → l.clock < seconds_in_all → Fits bs l → Kept (content_of bs 0) 0 (begun bs) → {p : List ℕ} {n : ℕ} {o : Order} → SafeOrder o → Ordered (head_in bs) p n o →
    Works bs l (called n p) (carried_out (procedure.clock_after l.clock o) n o (begun bs))
unfolding carried_out
order_works bs l real fits kept {p} {n} {o} safe ord =
    let clock = procedure.clock_after l.clock o in
    record {
      view = order_view bs l.clock real kept ord ∙ sym (ap (run (said_of bs)) (ordered_happens l.clock ord));
      tied = subst (λ (b : Pasts). Tied b (carried_out clock n o (begun bs))) (pasts_asked ord (pasts_of l))
          (carried_along (pasts_of l) clock n o (begun bs) (ordered_number ord) refl (covered ord) (along (pasts_of l) (begun bs) kept.formed fits.logs)).tied;
      outline = noted_outline clock (ProcedureInvoked n) (obeyed clock o (begun bs))
          ∙ ap₂ (λ xs c. xs ++ event (date_of c) (ProcedureInvoked n) ∷ []) (order_outline bs l fits.agrees ord ∙ sym (ordered_brings l ord)) (sym (ordered_clock l.clock ord));
      kept = raised 12 _ (omega arith) (carried_kept l.clock n o (begun bs) real safe kept);
    }

-- a procedure that is not carried out has a result that is not 0
abbrev NotDone : Result Order ProcedureResult → Type 0
NotDone (Ok o) = Unit {0}
NotDone (Err r) = is_done (Some r) ≡ false

sized_not : (n : ℕ) (p : List ℕ) (r : Result Order ProcedureResult) → NotDone r → NotDone (sized n p r)
sized_not n p r h = cond_both (eqb (length p) n) r (Err InvalidParameter) (λ (x : Result Order ProcedureResult). NotDone x) (λ _. h) (λ _. refl)

clear_one_not : (name : Option LogName) → NotDone (clear_one name)
clear_one_not None = refl
clear_one_not (Some name) = tt

acknowledge_not : (name : Option LogName) (count : ℕ) (h : Head) → NotDone (acknowledge_order name count h)
acknowledge_not None count h = refl
acknowledge_not (Some name) count h =
    cond_both (ltb (log_of name h).unread count) (Err InvalidParameter) (Ok (acknowledge name count)) (λ (x : Result Order ProcedureResult). NotDone x) (λ _. refl) (λ _. tt)

clock_not : (s : Option ℕ) → NotDone (clock_order s)
clock_not None = refl
clock_not (Some s) = tt

row_not : (order : List PendingTable → Order) (t : Option PendingTable) (h : Head) → NotDone (row_order order t h)
row_not order None h = refl
row_not order (Some t) h = cond_both (is_waiting (row_of t h)) (Ok (order (t ∷ []))) (Err Conflict) (λ (x : Result Order ProcedureResult). NotDone x) (λ _. tt) (λ _. refl)

order_not : (q : Procedure) (p : List ℕ) (h : Head) → NotDone (order_of q p h)
order_not ResetList p h =
    sized_not 1 p (clear_order (get_or p 0 0))
    (cond_both (eqb (get_or p 0 0) 255) (Ok (clear log_names)) (clear_one (log_numbered (get_or p 0 0))) (λ (x : Result Order ProcedureResult). NotDone x) (λ _. tt) (λ _. clear_one_not (log_numbered (get_or p 0 0))))
order_not UpdateLastRead p h = sized_not 3 p (acknowledge_order (log_numbered (get_or p 0 0)) (word 2 1 p) h) (acknowledge_not (log_numbered (get_or p 0 0)) (word 2 1 p) h)
order_not SetDateTime p h = sized_not 6 p (clock_order (second_if_real (of_bytes p))) (clock_not (second_if_real (of_bytes p)))
order_not ActivateAll p h = sized_not 0 p (Ok (activate all_tables)) tt
order_not ActivateOne p h = sized_not 2 p (row_order activate (table_of (word 2 0 p)) h) (row_not activate (table_of (word 2 0 p)) h)
order_not WithdrawAll p h = sized_not 0 p (Ok (withdraw all_tables)) tt
order_not WithdrawOne p h = sized_not 2 p (row_order withdraw (table_of (word 2 0 p)) h) (row_not withdraw (table_of (word 2 0 p)) h)
order_not TakeSelfRead p h = sized_not 0 p (Ok read_self) tt

ordered_not : (q : Option Procedure) (p : List ℕ) (h : Head) → NotDone (ordered q p h)
ordered_not None p h = refl
ordered_not (Some q) p h = order_not q p h

pub refused_result : (x : List ℕ) (h : Head) (r : ProcedureResult) → procedure.called x h ≡ Err r → is_done (Some r) ≡ false
refused_result x h r e = subst NotDone e (ordered_not (procedure_numbered (called_number x)) (called_parameters x) h)
