-- The verdicts on a deed, and the whole admission of a request.
use Rattle.std.proofs.Common.{◌≡◌, ℕ, Bool, true, false, cond, ltb, ◌⊎◌, List, [], ◌∷◌, ◌++◌, length, take, drop, is_some, Some, None, Ok, Err, Option, Result, sym, refl, ◌∙◌, subst, inl, inr, arith}
use Rattle.std.proofs.lemmas.Bool.{both_ways, true≢false, ltb-true, ltb-false}
use Rattle.access.specs.Ready.{ready_verdict}
use Rattle.fields.specs.Patches.{patch}
use Rattle.memory.specs.Blocks.{Block}
use Rattle.numbers.specs.declared.service.Service.{Service}
use Rattle.refusals.specs.declared.cause.Cause.TheVariants as cause
use Rattle.refusals.specs.declared.fault.MeterFault.{MeterFault}
use Rattle.refusals.specs.declared.fault.ServiceFault.{ServiceFault}
use Rattle.refusals.specs.declared.fault.ServiceFault.TheVariants as service
use Rattle.refusals.specs.Refusals.{meter_cause, meter_place, service_cause, service_place}
use Rattle.request.specs.Answers.{buffer_verdict}
use Rattle.request.specs.Asks.{ask_in, table_of, service_of}
use Rattle.pending.specs.declared.plan.Plan.{Plan}
use Rattle.pending.specs.declared.trigger.Due.{Due}
use Rattle.pending.specs.declared.row.Row.{Row}
use Rattle.pending.specs.declared.row.Row.TheVariants.{Empty, Waiting}
use Rattle.pending.specs.Rows.{is_waiting}
use Rattle.pending.specs.Triggers.{plan_of}
use Rattle.directory.specs.declared.entry.View.{View}
use Rattle.directory.specs.declared.entry.View.TheVariants as view
use Rattle.directory.specs.declared.entry.Source.{Source}
use Rattle.directory.specs.declared.entry.Source.TheVariants as source
use Rattle.directory.specs.declared.entry.TableEntry.{TableEntry}
use Rattle.directory.specs.Tables.{numbered, or_unknown}
use Rattle.directory.specs.Uses.{allows, usable, table_for}
use Rattle.model.specs.States.{Meter, Response, row_of}
use Rattle.model.specs.Calls.{of_memory, totals_verdict}
use Rattle.model.specs.Tables.{current_table}
use Rattle.model.specs.Tariffs.{is_right}
use Rattle.model.specs.Requests.{Deed, reading, writing, staging, calling, key_verdict, fitted, decided, ruled, staged_due, write_verdict, content_verdict, view_verdict, source_verdict, present_verdict}
use Rattle.model.specs.Serving.{head_of, of_meter, limited, admitted, answered, served_if}
use Rattle.model.proofs.FoundTables.{used_if, known_some}
use Rattle.model.proofs.Outcomes.{missing, ok_same}
use Rattle.causes.specs.Leaving.{answer_room, scratch_room}
use Rattle.causes.specs.Firsts.{Ground}
use Rattle.causes.specs.Possible.{FirstOver, ShortAnswer, ShortScratch, EmptyRequest, Misshapen, UnknownService, Uncleared, UnknownTable, NoSuchUse, BadPart, WrongTable, Wrong, BadContent, NoView, NothingIn, Lacking, NotReady, IsWrite, WriteOver}
use Rattle.causes.proofs.Firsts.{Judged, later, first_more, judged_if, judged_first, judged_done, judged_ok, judged_err, judged_then}
use Rattle.causes.proofs.Memory.{memory_grounds, ready_judged, memory_judged, totals_judged}
use Rattle.causes.proofs.Asking.{ask_judged, key_judged, table_judged, fitted_judged}

-- up to the part
found_so : (n : ℕ) (s : Service) (o : Option TableEntry) (t : TableEntry) → usable (or_unknown n o) s ≡ Ok t → (o ≡ Some t) × (allows t.access s ≡ true)
found_so n s o t h = let u = used_if s (or_unknown n o) t h in (known_some n o t u.0, u.1)

abbrev ask_grounds : List ℕ → List Ground
ask_grounds bytes = (cause.Malformed, EmptyRequest bytes) ∷ ((cause.UnknownService, UnknownService bytes) ∷ ((cause.Malformed, Misshapen bytes) ∷ []))

abbrev table_grounds : List ℕ → List Ground
table_grounds bytes = (cause.UnknownTable, UnknownTable bytes) ∷ ((cause.NoSuchUse, NoSuchUse bytes) ∷ [])

abbrev decided_grounds : ℕ → List ℕ → List Ground
decided_grounds key bytes = ask_grounds bytes ++ ((cause.Clearance, Uncleared key bytes) ∷ [] ++ (table_grounds bytes ++ ((cause.BadPart, BadPart bytes) ∷ [])))

decided_judged : (key : ℕ) (bytes : List ℕ) → Judged service_cause service_place (decided_grounds key bytes) (decided key bytes)
decided_judged key bytes =
    judged_then (ask_grounds bytes) _ (ask_in bytes) _ (ask_judged bytes)
    (λ ask is. judged_then ((cause.Clearance, Uncleared key bytes) ∷ []) _ (key_verdict key ask) _ (key_judged key bytes ask is)
    (λ _ _. judged_then (table_grounds bytes) _ (table_for (table_of ask) (service_of ask)) (λ t. fitted t ask) (table_judged bytes ask is (numbered (table_of ask)) refl)
    (λ t found. let so = found_so (table_of ask) (service_of ask) (numbered (table_of ask)) t found in fitted_judged bytes ask is t so.0 so.1)))

-- what a deed lets be possible
module _ (key : ℕ) (bytes : List ℕ) (deed : Deed) (is : decided key bytes ≡ Ok deed) where
  same_deed : (other : Deed) → decided key bytes ≡ Ok other → other ≡ deed
  same_deed other h = ok_same (sym h ∙ is)

  content_passes : (m : Meter) → (Wrong deed m → ⊥) → Judged {X = Unit {0}} service_cause service_place ((cause.BadContent, BadContent key bytes m) ∷ []) (Ok tt)
  content_passes m not = judged_ok service_cause service_place tt (cause.BadContent, BadContent key bytes m) (λ place h. not (subst (λ (d : Deed). Wrong d m) (same_deed h.0 h.1) h.2))

  content_fails : (m : Meter) → Wrong deed m → Judged {X = Unit {0}} service_cause service_place ((cause.BadContent, BadContent key bytes m) ∷ []) (Err service.BadContent)
  content_fails m wrong = judged_err service_cause service_place (Unit {0}) service.BadContent (cause.BadContent, BadContent key bytes m) [] (refl, (deed, is, wrong, refl))

  present_passes : (m : Meter) → (Lacking deed m → ⊥) → Judged {X = Unit {0}} service_cause service_place ((cause.NotReady, NotReady key bytes m) ∷ []) (Ok tt)
  present_passes m not = judged_ok service_cause service_place tt (cause.NotReady, NotReady key bytes m) (λ place h. not (subst (λ (d : Deed). Lacking d m) (same_deed h.0 h.1) h.2))

  present_fails : (m : Meter) → Lacking deed m → Judged {X = Unit {0}} service_cause service_place ((cause.NotReady, NotReady key bytes m) ∷ []) (Err service.NotReady)
  present_fails m lacking = judged_err service_cause service_place (Unit {0}) service.NotReady (cause.NotReady, NotReady key bytes m) [] (refl, (deed, is, lacking, refl))

  limit_passes : (bs : List Block) → (IsWrite deed → ⊥) → Judged {X = Unit {0}} service_cause service_place ((cause.LogLimit, WriteOver key bytes bs) ∷ []) (Ok tt)
  limit_passes bs not = judged_ok service_cause service_place tt (cause.LogLimit, WriteOver key bytes bs) (λ place h. not (subst IsWrite (same_deed h.0 h.1) h.2))

  limit_judged : (bs : List Block) → IsWrite deed → (v : Result (Unit {0}) MeterFault) → Judged meter_cause meter_place ((cause.LogLimit, FirstOver bs) ∷ []) v →
      Judged service_cause service_place ((cause.LogLimit, WriteOver key bytes bs) ∷ []) (of_meter v)
  unfolding Judged
  limit_judged bs write (Ok x) j = (λ place h. j.0 place h.3, tt)
  limit_judged bs write (Err e) (inl (c, over)) = inl (c, (deed, is, write, over))
  limit_judged bs write (Err e) (inr (c, f)) = absurd f

-- a verdict by one ground
abbrev By : Ground → Result (Unit {0}) ServiceFault → Type 0
By g v = Judged service_cause service_place (g ∷ []) v

module _ (g : Ground) where
  by_rule : (b : Bool) → (b ≡ true → By g (Ok tt)) → (b ≡ false → By g (Err service.BadContent)) → By g (ruled b)
  by_rule true p q = p refl
  by_rule false p q = q refl

  by_source : (src : Source) (from : ℕ) (bytes : List ℕ) (bs : List Block) → ((WrongTable src from bytes bs → ⊥) → By g (Ok tt)) → (WrongTable src from bytes bs → By g (Err service.BadContent)) → By g (write_verdict src from bytes bs)
  by_source (source.Computed v) from bytes bs p q = p (λ x. x)
  by_source source.Initiate from bytes bs p q = p (λ x. x)
  by_source source.Utility from bytes bs p q = p (λ x. x)
  by_source (source.Staged t) from bytes bs p q = by_rule (is_right t (patch from bytes (current_table t bs))) (λ e. p (λ x. both_ways _ x e)) q
  by_source (source.Pending t) from bytes bs p q = p (λ x. x)
  by_source (source.Log name) from bytes bs p q = p (λ x. x)

  by_view : (v : View) (m : Meter) (o : Option Response) → m.response ≡ o → ((NoView v m → ⊥) → By g (Ok tt)) → (NoView v m → By g (Err service.NotReady)) → By g (view_verdict v o)
  by_view view.PendingStatus m o e p q = p (λ x. x)
  by_view view.Response m None e p q = q e
  by_view view.Response m (Some r) e p q = p (λ x. missing (sym e ∙ x))
  by_view view.Registers m o e p q = p (λ x. x)
  by_view view.Clock m o e p q = p (λ x. x)

  by_row : (row : Row) → ((row ≡ Empty → ⊥) → By g (Ok tt)) → (row ≡ Empty → By g (Err service.NotReady)) → By g (cond (is_waiting row) (Ok tt) (Err service.NotReady))
  by_row Empty p q = q refl
  by_row (Waiting plan due) p q = p (λ h. let z : ◌≡◌ {A = ℕ} 0 1 = cc in omega arith)

  by_place : (src : Source) (m : Meter) → ((NothingIn src m → ⊥) → By g (Ok tt)) → (NothingIn src m → By g (Err service.NotReady)) → By g (source_verdict src m.response (head_of m))
  by_place (source.Computed v) m p q = by_view v m m.response refl p q
  by_place source.Initiate m p q = p (λ x. x)
  by_place source.Utility m p q = p (λ x. x)
  by_place (source.Staged t) m p q = p (λ x. x)
  by_place (source.Pending t) m p q = by_row (row_of t (head_of m)) p q
  by_place (source.Log name) m p q = p (λ x. x)

  by_trigger : (o : Option (Plan × Due)) (b : Bool) → (((o ≡ None) ⊎ (b ≡ false) → ⊥) → By g (Ok tt)) → ((o ≡ None) ⊎ (b ≡ false) → By g (Err service.BadContent)) →
      By g (cond (is_some o) (ruled b) (Err service.BadContent))
  by_trigger None b p q = q (inl refl)
  by_trigger (Some x) false p q = q (inr refl)
  by_trigger (Some x) true p q = p right
    where
      right : (◌≡◌ {A = Option (Plan × Due)} (Some x) None) ⊎ (true ≡ false) → ⊥
      right (inl h) = missing h
      right (inr h) = true≢false h

content_judged : (key : ℕ) (bytes : List ℕ) (m : Meter) (deed : Deed) → decided key bytes ≡ Ok deed → By (cause.BadContent, BadContent key bytes m) (content_verdict deed m.clock m.blocks)
content_judged key bytes m (reading t p) is = content_passes key bytes _ is m (λ x. x)
content_judged key bytes m (writing t from new) is = by_source _ t.source from new m.blocks (content_passes key bytes _ is m) (content_fails key bytes _ is m)
content_judged key bytes m (staging t table new) is =
    by_trigger _ (staged_due (plan_of (take 6 new)) m.clock) (is_right table (drop 6 new)) (content_passes key bytes _ is m) (content_fails key bytes _ is m)
content_judged key bytes m (calling new) is = content_passes key bytes _ is m (λ x. x)

present_judged : (key : ℕ) (bytes : List ℕ) (m : Meter) (deed : Deed) → decided key bytes ≡ Ok deed → By (cause.NotReady, NotReady key bytes m) (present_verdict deed m.response (head_of m))
present_judged key bytes m (reading t p) is = by_place _ t.source m (present_passes key bytes _ is m) (present_fails key bytes _ is m)
present_judged key bytes m (writing t from new) is = present_passes key bytes _ is m (λ x. x)
present_judged key bytes m (staging t table new) is = present_passes key bytes _ is m (λ x. x)
present_judged key bytes m (calling new) is = present_passes key bytes _ is m (λ x. x)

limited_judged : (key : ℕ) (bytes : List ℕ) (bs : List Block) (deed : Deed) → decided key bytes ≡ Ok deed → By (cause.LogLimit, WriteOver key bytes bs) (limited deed bs)
limited_judged key bytes bs (reading t p) is = limit_passes key bytes _ is bs (λ x. x)
limited_judged key bytes bs (writing t from new) is = limit_judged key bytes _ is bs tt (totals_verdict bs) (totals_judged bs)
limited_judged key bytes bs (staging t table new) is = limit_judged key bytes _ is bs tt (totals_verdict bs) (totals_judged bs)
limited_judged key bytes bs (calling new) is = limit_judged key bytes _ is bs tt (totals_verdict bs) (totals_judged bs)

-- the whole
meter_judged : (gs : List Ground) (v : Result (Unit {0}) MeterFault) → Judged meter_cause meter_place gs v → Judged service_cause service_place gs (of_meter v)
unfolding Judged
meter_judged gs (Ok x) j = j
meter_judged gs (Err e) j = j

abbrev deed_grounds : ℕ → List ℕ → Meter → List Ground
deed_grounds key bytes m = (cause.BadContent, BadContent key bytes m) ∷ ((cause.NotReady, NotReady key bytes m) ∷ ((cause.LogLimit, WriteOver key bytes m.blocks) ∷ []))

abbrev pub admitted_grounds : ℕ → List ℕ → Meter → List Ground
admitted_grounds key bytes m = memory_grounds m.blocks ++ (decided_grounds key bytes ++ deed_grounds key bytes m)

pub admitted_judged : (key : ℕ) (bytes : List ℕ) (m : Meter) → Judged service_cause service_place (admitted_grounds key bytes m) (admitted key bytes m)
admitted_judged key bytes m =
    let bs = m.blocks in
    judged_then (memory_grounds bs) _ (of_meter (of_memory (ready_verdict bs))) _ (meter_judged _ (of_memory (ready_verdict bs)) (memory_judged _ (ready_verdict bs) (ready_judged bs)))
    (λ _ _. judged_then (decided_grounds key bytes) _ (decided key bytes) _ (decided_judged key bytes)
    (λ deed is. judged_then ((cause.BadContent, BadContent key bytes m) ∷ []) _ (content_verdict deed m.clock bs) _ (content_judged key bytes m deed is)
    (λ _ _. judged_then ((cause.NotReady, NotReady key bytes m) ∷ []) _ (present_verdict deed m.response (head_of m)) _ (present_judged key bytes m deed is)
    (λ _ _. judged_then ((cause.LogLimit, WriteOver key bytes bs) ∷ []) [] (limited deed bs) _ (limited_judged key bytes bs deed is)
    (λ _ _. judged_done service_cause service_place deed)))))

abbrev buffer_grounds : List ℕ → List ℕ → List Ground
buffer_grounds answer scratch = (cause.ShortBuffer, ShortAnswer answer) ∷ ((cause.ShortBuffer, ShortScratch scratch) ∷ [])

buffers_judged : (answer scratch : List ℕ) → Judged service_cause service_place (buffer_grounds answer scratch) (buffer_verdict (length answer) (length scratch))
buffers_judged answer scratch =
    judged_first service_cause service_place (ltb (length answer) answer_room) (service.ShortBuffer (length answer)) _ (cause.ShortBuffer, ShortAnswer answer) _
    (λ e. (refl, (ltb-true _ _ e, refl))) (λ e place h. omega (arith, ltb-false _ _ e, h.0))
    (λ _. judged_if service_cause service_place (ltb (length scratch) scratch_room) (service.ShortBuffer (length scratch)) tt (cause.ShortBuffer, ShortScratch scratch)
    (λ e. (refl, (ltb-true _ _ e, refl))) (λ e place h. omega (arith, ltb-false _ _ e, h.0)))

answered_judged : (gs : List Ground) (v : Result Deed ServiceFault) (m : Meter) (a s : List ℕ) → Judged service_cause service_place gs v → Judged service_cause service_place gs (answered v m a s).result
unfolding Judged
answered_judged gs (Ok d) m a s j = j
answered_judged gs (Err e) m a s j = j

served_if_lem : (gs hs : List Ground) (v : Result (Unit {0}) ServiceFault) (key : ℕ) (bytes : List ℕ) (m : Meter) (a s : List ℕ) → Judged service_cause service_place gs v → Judged service_cause service_place hs (admitted key bytes m) →
    Judged service_cause service_place (gs ++ hs) (served_if v key bytes m a s).result
unfolding Judged
served_if_lem gs hs (Ok x) key bytes m a s j k = later service_cause service_place gs hs (answered (admitted key bytes m) m a s).result j (answered_judged hs (admitted key bytes m) m a s k)
served_if_lem gs hs (Err e) key bytes m a s j k = first_more gs hs (service_cause e) (service_place e) j

pub served_judged : (key : ℕ) (bytes : List ℕ) (m : Meter) (a s : List ℕ) →
    Judged service_cause service_place (buffer_grounds a s ++ admitted_grounds key bytes m) (served_if (buffer_verdict (length a) (length s)) key bytes m a s).result
served_judged key bytes m a s = served_if_lem (buffer_grounds a s) (admitted_grounds key bytes m) (buffer_verdict (length a) (length s)) key bytes m a s (buffers_judged a s) (admitted_judged key bytes m)
