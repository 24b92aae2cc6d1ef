-- A service keeps a meter and its ledger together.
use Rattle.std.proofs.Common.{◌≡◌, ℕ, ◌+◌, ◌<◌, ◌≤◌, true, List, [], ◌∷◌, map, length, take, drop, Some, None, Ok, Err, Option, Result, sym, refl, ap, ◌∙◌, subst, ap₂, arith}
use Rattle.std.proofs.lemmas.List.{length-drop}
use Rattle.access.specs.Ready.{content_of}
use Rattle.calendar.specs.Calendar.{seconds_in_all, date_of}
use Rattle.numbers.specs.declared.procedure.ProcedureResult.{ProcedureResult}
use Rattle.numbers.specs.declared.procedure.ProcedureResult.TheVariants.{Completed}
use Rattle.refusals.specs.declared.fault.ServiceFault.{ServiceFault}
use Rattle.request.specs.declared.part.Part.{Part}
use Rattle.records.specs.declared.event.Event.TheVariants.{TableWritten}
use Rattle.pending.specs.declared.table.PendingTable.{PendingTable}
use Rattle.pending.specs.Tables.{table_number}
use Rattle.pending.specs.Triggers.{plan_of}
use Rattle.directory.specs.declared.entry.TableEntry.{TableEntry}
use Rattle.directory.specs.Geometry.{current_block, pending_block, staged_length}
use Rattle.fates.specs.Stagings.{run, after, written, staged}
use Rattle.model.specs.States.{Meter, Recorded, begun, set_row, on_head, on_blocks}
use Rattle.model.specs.Calls.{totals_verdict}
use Rattle.model.specs.Procedures.{Order, called_number, carried_out}
use Rattle.model.specs.Procedures as procedure
use Rattle.model.specs.Requests.{Deed, reading, writing, staging, calling, staged_due}
use Rattle.model.specs.Serving.{put_in, write_done, stage_done, row_for, call_done, head_of, performed, limited, admitted, answered, served_if}
use Rattle.model.proofs.Keeping.{Kept, raised, noted_kept}
use Rattle.model.proofs.Admitting.{Placed, Safe}
use Rattle.model.proofs.Ordering.{SafeOrder, called_safe, clock_after_lem}
use Rattle.model.proofs.StayingSound.{begun_kept}
use Rattle.model.proofs.ServingSound.{of_meter_lem, admitted_safe, put_kept, row_kept, row_formed, waits_in}
use Rattle.ledger.specs.Meanings.{serve, served, has_effect, Meaning, reads_only, bytes_to, written_by, nothing, wrote, staged_for, called, meant, happened, due_named, pending_from}
use Rattle.ledger.specs.Ledger.{Fed, Ledger, marked}
use Rattle.ledger.specs.Entries.{outline_of, event, brings}
use Rattle.ledger.specs.Lives.{State, running, blocks_in, serve_step}
use Rattle.ledger.proofs.Seen.{said_of}
use Rattle.ledger.proofs.Asked.{Goes, to_utility, to_table, Writing, Staging, Means, admitted_means, named_table, reading_means, calling_means, writing_means, staging_means}
use Rattle.ledger.proofs.Outlines.{noted_outline}
use Rattle.ledger.proofs.TiedSteps.{Low, along, noted_along, head_along, put_along}
use Rattle.ledger.proofs.Views.{seen_of, pending_low}
use Rattle.ledger.proofs.ViewsCalls.{write_seen, write_unseen, stage_seen}
use Rattle.ledger.proofs.ViewsImages.{ended_seen}
use Rattle.ledger.proofs.Ordered.{is_ordered, ordered_clock}
use Rattle.ledger.proofs.Procedures.{order_works, refused_result}
use Rattle.ledger.proofs.Fitting.{pasts_of, Fits, FitsState, StepFits, without_effect, with_effect, Works, ended_fits}

-- an effect whose meaning is known
meant_effect : (s s' : State) (l : Ledger) (f : Fed) (m : Meaning) → meant l.clock f.call ≡ m → has_effect f.answer ≡ true → FitsState s' (marked m f.entries l) →
    map outline_of f.entries ≡ brings l m → said_of (blocks_in s') ≡ run (said_of (blocks_in s)) (happened l.clock m) → StepFits s l (record { state = s'; fed = f ∷ [] })
meant_effect s s' l f m is effect fits outline view =
    with_effect s s' l f effect (subst (λ x. FitsState s' (marked x f.entries l)) (sym is) fits) (outline ∙ ap (brings l) (sym is))
    (view ∙ ap (λ x. run (said_of (blocks_in s)) (happened l.clock x)) (sym is))

-- a write
low_where : (t : TableEntry) (from : ℕ) (x : List ℕ) → Goes t from x → Low t.block (from + length x)
low_where t from x (to_utility n place fits) = rw place (omega arith, omega arith)
low_where t from x (to_table w n place fits) = rw place (go w fits)
  where
    go : (w : PendingTable) → from + length x ≤ staged_length w → (current_block w < 8) × (from + length x ≤ 510)
    go PendingTable.Calendar h = (omega arith, omega arith)
    go PendingTable.Outputs h = (omega arith, omega arith)
    go PendingTable.Override h = (omega arith, omega arith)

write_view : (m : Meter) (l : Ledger) (t : TableEntry) (from : ℕ) (x : List ℕ) → Kept (content_of m.blocks 0) 0 (begun m.blocks) → Goes t from x →
    seen_of (write_done m t from x) ≡ run (said_of m.blocks) (happened l.clock (wrote t.number from x))
write_view m l t from x kept (to_utility n place fits) =
    write_unseen m t 1 from x place (omega arith) ∙ sym (ap (λ k. run (said_of m.blocks) (happened l.clock (wrote k from x))) n)
write_view m l t from x kept (to_table w n place fits) =
    write_seen m t w from x place kept fits ∙ sym (ap (run (said_of m.blocks)) (named_table t.number w (λ u. written u from x) n))

write_works : (m : Meter) (l : Ledger) (t : TableEntry) (from : ℕ) (x : List ℕ) → m.clock ≡ l.clock → Fits m.blocks l → totals_verdict m.blocks ≡ Ok tt →
    Placed t.block (from + length x) → t.number < 65536 → Goes t from x → Works m.blocks l (wrote t.number from x) (write_done m t from x)
write_works m l t from x clock fits totals placed number goes =
    let kept : Kept (content_of m.blocks 0) 0 (begun m.blocks) = begun_kept m.blocks fits.image totals in
    let put = on_blocks (put_in t.block from x) (begun m.blocks) in
    record {
      view = write_view m l t from x kept goes;
      tied = (noted_along (pasts_of l) m.clock (TableWritten t.number) put number
          (put_along (pasts_of l) t.block from x (begun m.blocks) (low_where t from x goes) (along (pasts_of l) (begun m.blocks) kept.formed fits.logs))).tied;
      outline = noted_outline m.clock (TableWritten t.number) put ∙ ap (λ c. event (date_of c) (TableWritten t.number) ∷ []) clock;
      kept = raised 12 _ (omega arith) (noted_kept 0 m.clock (TableWritten t.number) put (omega arith) (put_kept t.block from x (begun m.blocks) placed kept));
    }

-- a staging
table_small : (t : PendingTable) → table_number t < 61440
table_small PendingTable.Calendar = omega arith
table_small PendingTable.Outputs = omega arith
table_small PendingTable.Override = omega arith

stage_works : (m : Meter) (l : Ledger) (bytes : List ℕ) (t : TableEntry) (table : PendingTable) (x : List ℕ) → m.clock ≡ l.clock → Fits m.blocks l → totals_verdict m.blocks ≡ Ok tt →
    length x ≤ 516 → Staging m.clock bytes t table x → Works m.blocks l (staged_for (table_number table) x) (stage_done m t table x)
stage_works m l bytes t table x clock fits totals safe s =
    let bs = m.blocks in
    let kept : Kept (content_of bs 0) 0 (begun bs) = begun_kept bs fits.image totals in
    let room : length (drop 6 x) ≤ 510 = rw length-drop (omega arith) in
    let put = on_blocks (put_in (Some (pending_block table)) 0 (drop 6 x)) (begun bs) in
    let row = row_for (staged_due (plan_of (take 6 x)) m.clock) in
    let small : t.number < 65536 = omega (arith, table_small table, s.number) in
    let due : due_named l.clock (take 6 x) ≡ s.due = ap (λ c. due_named c (take 6 x)) (sym clock) ∙ s.timed in
    record {
      view = stage_seen m t table x s.plan s.due kept s.planned s.shown s.long
          ∙ sym (ap (run (said_of bs)) (named_table (table_number table) table (λ u. staged u (pending_from l.clock x)) refl)
          ∙ ap (λ d. after (said_of bs) (staged table (record { trigger = take 6 x; due = d; bytes = drop 6 x }))) due);
      tied = (noted_along (pasts_of l) m.clock (TableWritten t.number) (on_head (set_row table row) put) small
          (head_along (pasts_of l) (set_row table row) put refl kept.formed.registers
          (put_along (pasts_of l) (Some (pending_block table)) 0 (drop 6 x) (begun bs) (omega (arith, pending_low table), omega arith) (along (pasts_of l) (begun bs) kept.formed fits.logs)))).tied;
      outline = noted_outline m.clock (TableWritten t.number) (on_head (set_row table row) put) ∙ ap₂ (λ c n. event (date_of c) (TableWritten n) ∷ []) clock s.number;
      kept = raised 12 _ (omega arith) (noted_kept 0 m.clock (TableWritten t.number) (on_head (set_row table row) put) (omega arith)
          (row_kept table row put (row_formed (plan_of (take 6 x)) m.clock) (put_kept (Some (pending_block table)) 0 (drop 6 x) (begun bs) (waits_in table (0 + length (drop 6 x)) (omega arith)) kept)));
    }

-- every deed
module _ (key : ℕ) (request answer scratch : List ℕ) (m : Meter) (l : Ledger) (clock : m.clock ≡ l.clock) (real : m.clock < seconds_in_all) (fits : Fits m.blocks l) where
  fed : List ℕ → Option ProcedureResult → List Recorded → Fed
  fed bytes result entries = record { call = serve key request answer scratch; answer = served (Ok bytes) result; entries = entries }

  read_fits : (t : TableEntry) (p : Part) → written_by request ≡ reads_only → StepFits (running m) l (serve_step (serve key request answer scratch) (answered (Ok (reading t p)) m answer scratch))
  unfolding performed fed
  read_fits t p what = meant_effect (running m) (running m) l (fed _ None []) nothing (reading_means request what) refl (fits, clock, real) refl refl

  write_fits : (t : TableEntry) (from : ℕ) (x : List ℕ) → totals_verdict m.blocks ≡ Ok tt → Placed t.block (from + length x) → Writing request t from x →
      StepFits (running m) l (serve_step (serve key request answer scratch) (answered (Ok (writing t from x)) m answer scratch))
  unfolding performed fed
  write_fits t from x totals placed w =
      let g = write_done m t from x in
      let works = write_works m l t from x clock fits totals placed w.number w.goes in
      meant_effect (running m) _ l (fed _ None g.entries) (wrote t.number from x) (writing_means request t from x w) refl
      (ended_fits m.blocks l (wrote t.number from x) g fits works, clock, real) works.outline (ended_seen g works.kept ∙ works.view)

  stage_fits : (t : TableEntry) (table : PendingTable) (x : List ℕ) → totals_verdict m.blocks ≡ Ok tt → length x ≤ 516 → Staging m.clock request t table x →
      StepFits (running m) l (serve_step (serve key request answer scratch) (answered (Ok (staging t table x)) m answer scratch))
  unfolding performed fed
  stage_fits t table x totals safe s =
      let g = stage_done m t table x in
      let works = stage_works m l request t table x clock fits totals safe s in
      meant_effect (running m) _ l (fed _ None g.entries) (staged_for (table_number table) x) (staging_means m.clock request t table x s) refl
      (ended_fits m.blocks l (staged_for (table_number table) x) g fits works, clock, real) works.outline (ended_seen g works.kept ∙ works.view)

  call_fits : (x : List ℕ) (bytes : List ℕ) (r : Result Order ProcedureResult) → r ≡ procedure.called x (head_of m) → totals_verdict m.blocks ≡ Ok tt → written_by request ≡ bytes_to 7 0 x →
      StepFits (running m) l (record { state = running (call_done m x r).meter; fed = fed bytes (call_done m x r).procedure (call_done m x r).entries ∷ [] })
  unfolding fed
  call_fits x bytes (Err r) is totals what =
      without_effect (running m) _ l (fed bytes (Some r) []) (refused_result x (head_of m) r (sym is)) refl (fits, clock, real) refl
  call_fits x bytes (Ok o) is totals what =
      let n = called_number x in
      let p = drop 3 x in
      let safe : SafeOrder o = called_safe x (head_of m) o (sym is) in
      let ord = is_ordered x (head_of m) o (sym is) in
      let kept = begun_kept m.blocks fits.image totals in
      let within : l.clock < seconds_in_all = subst (λ c. c < seconds_in_all) clock real in
      let g = carried_out (procedure.clock_after m.clock o) n o (begun m.blocks) in
      let works : Works m.blocks l (called n p) g =
      subst (λ c. Works m.blocks l (called n p) (carried_out (procedure.clock_after c o) n o (begun m.blocks))) (sym clock) (order_works m.blocks l within fits kept safe ord) in
      meant_effect (running m) _ l (fed bytes (Some Completed) g.entries) (called n p) (calling_means request x what) refl
      (ended_fits m.blocks l (called n p) g fits works, ap (λ c. procedure.clock_after c o) clock ∙ sym (ordered_clock l.clock ord), clock_after_lem m.clock o real safe) works.outline
      (ended_seen g works.kept ∙ works.view)

  deed_fits : (d : Deed) → Means m.clock request d → Safe d → limited d m.blocks ≡ Ok tt → StepFits (running m) l (serve_step (serve key request answer scratch) (answered (Ok d) m answer scratch))
  unfolding performed fed
  deed_fits (reading t p) means safe within = read_fits t p means
  deed_fits (writing t from x) means safe within = write_fits t from x (of_meter_lem (totals_verdict m.blocks) within) safe means
  deed_fits (staging t table x) means safe within = stage_fits t table x (of_meter_lem (totals_verdict m.blocks) within) safe means
  deed_fits (calling x) means safe within = call_fits x _ (procedure.called x (head_of m)) refl (of_meter_lem (totals_verdict m.blocks) within) means

  answer_fits : (v : Result Deed ServiceFault) → admitted key request m ≡ v → StepFits (running m) l (serve_step (serve key request answer scratch) (answered v m answer scratch))
  answer_fits (Err e) is = without_effect (running m) (running m) l (record { call = serve key request answer scratch; answer = served (Err e) None; entries = [] }) refl refl (fits, clock, real) refl
  answer_fits (Ok d) is = let safe = admitted_safe key request m d is in deed_fits d (admitted_means key request m d is) safe.0 safe.1

  pub serve_fits : (v : Result (Unit {0}) ServiceFault) → StepFits (running m) l (serve_step (serve key request answer scratch) (served_if v key request m answer scratch))
  serve_fits (Err e) = without_effect (running m) (running m) l (record { call = serve key request answer scratch; answer = served (Err e) None; entries = [] }) refl refl (fits, clock, real) refl
  serve_fits (Ok x) = answer_fits (admitted key request m) refl
