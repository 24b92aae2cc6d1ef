-- What a procedure leaves, by the deed that it is.
use Rattle.std.proofs.Common.{◌≡◌, ℕ, ◌≢◌, List, [], length, get_or, Some, None, Ok, Err, Result, sym, refl, ap, ◌∙◌}
use Rattle.access.specs.Ready.{ready_verdict}
use Rattle.fields.specs.Words.{word}
use Rattle.numbers.specs.declared.procedure.ProcedureResult.{ProcedureResult}
use Rattle.numbers.specs.declared.procedure.ProcedureResult.TheVariants.{Completed}
use Rattle.refusals.specs.declared.fault.ServiceFault.{ServiceFault}
use Rattle.request.specs.Answers.{buffer_verdict}
use Rattle.request.specs.Asks.{Ask, full_write, ask_in, table_of, service_of}
use Rattle.numbers.specs.declared.service.Service.TheVariants.{FullWrite}
use Rattle.directory.specs.declared.entry.Access.TheVariants as access
use Rattle.directory.specs.declared.entry.Source.TheVariants.{Initiate}
use Rattle.directory.specs.Uses.{table_for, count_verdict}
use Rattle.directory.specs.Tables.{entry, listed}
use Rattle.model.specs.States.{Meter}
use Rattle.model.specs.Procedures.{Order, called}
use Rattle.model.specs.Requests.{Deed, reading, writing, staging, calling, and_then, key_verdict, fitted, decided, content_verdict, present_verdict}
use Rattle.model.specs.Serving.{call_done, head_of, performed, of_meter, limited, admitted, answered, served_if}
use Rattle.model.specs.Calls.{of_memory}
use Rattle.model.proofs.Accepting.{then_ok}
use Rattle.model.proofs.Outcomes.{missing, ok_same}
use Rattle.causes.specs.Answering.{ProceduresAnswer}

-- a call, by what it orders
call_leaves : (m : Meter) (sent : List ℕ) (o : Result Order ProcedureResult) (r : ProcedureResult) → (call_done m sent o).procedure ≡ Some r → r ≢ Completed →
    ((call_done m sent o).meter.blocks ≡ m.blocks) × ((call_done m sent o).meter.clock ≡ m.clock) × ((call_done m sent o).entries ≡ [])
call_leaves m sent (Ok order) r h other = let same : r ≡ Completed = cc in absurd (other same)
call_leaves m sent (Err e) r h other = (refl, refl, refl)

call_responds : (m : Meter) (sent : List ℕ) (o : Result Order ProcedureResult) (r : ProcedureResult) → (call_done m sent o).procedure ≡ Some r →
    (call_done m sent o).meter.response ≡ Some (record { procedure = word 2 0 sent; sequence = get_or sent 2 0; result = r })
call_responds m sent (Ok order) r h = let same : Completed ≡ r = cc in ap (λ x. Some (record { procedure = word 2 0 sent; sequence = get_or sent 2 0; result = x })) same
call_responds m sent (Err e) r h = let same : e ≡ r = cc in ap (λ x. Some (record { procedure = word 2 0 sent; sequence = get_or sent 2 0; result = x })) same

-- a deed
deed_leaves : (d : Deed) (m : Meter) (r : ProcedureResult) → (performed d m).procedure ≡ Some r → r ≢ Completed →
    ((performed d m).meter.blocks ≡ m.blocks) × ((performed d m).meter.clock ≡ m.clock) × ((performed d m).entries ≡ [])
unfolding performed
deed_leaves (reading t p) m r h other = absurd (missing (sym h))
deed_leaves (writing t from x) m r h other = absurd (missing (sym h))
deed_leaves (staging t table x) m r h other = absurd (missing (sym h))
deed_leaves (calling sent) m r h other = call_leaves m sent (called sent (head_of m)) r h other

answered_leaves : (v : Result Deed ServiceFault) (m : Meter) (a s : List ℕ) (r : ProcedureResult) → (answered v m a s).procedure ≡ Some r → r ≢ Completed →
    ((answered v m a s).meter.blocks ≡ m.blocks) × ((answered v m a s).meter.clock ≡ m.clock) × ((answered v m a s).entries ≡ [])
answered_leaves (Ok d) m a s r h other = deed_leaves d m r h other
answered_leaves (Err e) m a s r h other = absurd (missing (sym h))

-- a full write to table 7 is a call
is_call : (key : ℕ) (bytes sent : List ℕ) (d : Deed) → ask_in bytes ≡ Ok (full_write 7 sent) → decided key bytes ≡ Ok d → d ≡ calling sent
unfolding listed
is_call key bytes sent d asks h =
    let read : decided key bytes ≡ and_then (key_verdict key (full_write 7 sent)) (λ _. and_then (table_for 7 FullWrite) (λ t. fitted t (full_write 7 sent))) =
    ap (λ (x : Result Ask ServiceFault). and_then x (λ ask. and_then (key_verdict key ask) (λ _. and_then (table_for (table_of ask) (service_of ask)) (λ t. fitted t ask)))) asks in
    let keyed = then_ok (key_verdict key (full_write 7 sent)) _ d (sym read ∙ h) in
    let fit : fitted (entry 7 9 None None access.FullWrite Initiate) (full_write 7 sent) ≡ Ok d = keyed.2 in
    let counted = then_ok (count_verdict (entry 7 9 None None access.FullWrite Initiate) (length sent)) _ d fit in
    sym (ok_same counted.2)

admitted_decided : (key : ℕ) (bytes : List ℕ) (m : Meter) (d : Deed) → admitted key bytes m ≡ Ok d → decided key bytes ≡ Ok d
admitted_decided key bytes m d h =
    let ready = then_ok (of_meter (of_memory (ready_verdict m.blocks))) _ d h in
    let deed = then_ok (decided key bytes) _ d ready.2 in
    let content = then_ok (content_verdict deed.0 m.clock m.blocks) _ d deed.2 in
    let present = then_ok (present_verdict deed.0 m.response (head_of m)) _ d content.2 in
    let limit = then_ok (limited deed.0 m.blocks) _ d present.2 in
    let same : deed.0 ≡ d = ok_same limit.2 in
    deed.1 ∙ ap (λ (x : Deed). Ok x) same

deed_responds : (m : Meter) (sent : List ℕ) (d : Deed) (r : ProcedureResult) → d ≡ calling sent → (performed d m).procedure ≡ Some r →
    (performed d m).meter.response ≡ Some (record { procedure = word 2 0 sent; sequence = get_or sent 2 0; result = r })
unfolding performed
deed_responds m sent d r same h =
    ap (λ (x : Deed). (performed x m).meter.response) same ∙ call_responds m sent (called sent (head_of m)) r (sym (ap (λ (x : Deed). (performed x m).procedure) same) ∙ h)

answered_responds : (key : ℕ) (bytes sent : List ℕ) (v : Result Deed ServiceFault) (m : Meter) (a s : List ℕ) (r : ProcedureResult) → ask_in bytes ≡ Ok (full_write 7 sent) → admitted key bytes m ≡ v →
    (answered v m a s).procedure ≡ Some r → (answered v m a s).meter.response ≡ Some (record { procedure = word 2 0 sent; sequence = get_or sent 2 0; result = r })
answered_responds key bytes sent (Ok d) m a s r asks is h = deed_responds m sent d r (is_call key bytes sent d asks (admitted_decided key bytes m d is)) h
answered_responds key bytes sent (Err e) m a s r asks is h = absurd (missing (sym h))

module _ (key : ℕ) (bytes : List ℕ) (m : Meter) (a s : List ℕ) (r : ProcedureResult) where
  served_leaves : (v : Result (Unit {0}) ServiceFault) → (served_if v key bytes m a s).procedure ≡ Some r → r ≢ Completed →
      ((served_if v key bytes m a s).meter.blocks ≡ m.blocks) × ((served_if v key bytes m a s).meter.clock ≡ m.clock) × ((served_if v key bytes m a s).entries ≡ [])
  served_leaves (Ok x) h other = answered_leaves (admitted key bytes m) m a s r h other
  served_leaves (Err e) h other = absurd (missing (sym h))

  served_responds : (v : Result (Unit {0}) ServiceFault) (sent : List ℕ) → ask_in bytes ≡ Ok (full_write 7 sent) → (served_if v key bytes m a s).procedure ≡ Some r →
      (served_if v key bytes m a s).meter.response ≡ Some (record { procedure = word 2 0 sent; sequence = get_or sent 2 0; result = r })
  served_responds (Ok x) sent asks h = answered_responds key bytes sent (admitted key bytes m) m a s r asks refl h
  served_responds (Err e) sent asks h = absurd (missing (sym h))

pub procedures_answer : ProceduresAnswer
procedures_answer = record {
  response = λ key bytes m a s sent r asks h. served_responds key bytes m a s r (buffer_verdict (length a) (length s)) sent asks h;
  nothing_else = λ key bytes m a s r h other. served_leaves key bytes m a s r (buffer_verdict (length a) (length s)) h other;
}
