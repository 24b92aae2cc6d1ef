-- Each call keeps a meter and its ledger together.
use Rattle.std.proofs.Common.{◌≡◌, ℕ, ◌+◌, ◌%◌, ◌<◌, ◌≤◌, cond, eqb, List, [], ◌∷◌, ◌++◌, length, get_or, Ok, Err, Result, sym, refl, ap, ◌∙◌, subst, ap₂, arith}
use Rattle.access.specs.Ready.{content_of, ready_verdict}
use Rattle.calendar.specs.Calendar.{seconds_in_all, date_of}
use Rattle.memory.specs.Blocks.{Block}
use Rattle.logs.specs.Heads.{empty_head}
use Rattle.refusals.specs.declared.fault.MeterFault.{MeterFault}
use Rattle.head.specs.declared.head.Head.{Head}
use Rattle.pending.specs.declared.table.PendingTable.TheVariants.{Calendar}
use Rattle.records.specs.declared.event.Event.TheVariants.{PowerUp}
use Rattle.fates.specs.Stagings.{Memory, Agrees, due_by}
use Rattle.fates.specs.Stagings as fate
use Rattle.fates.proofs.Matching.{after_agrees}
use Rattle.model.specs.States.{Meter, begun, ended, row_of}
use Rattle.model.specs.Calls.{or_else, of_memory, totals_verdict, order_verdict, image_verdict, second_verdict, start_verdict, started_if, meter_of, power_up, tick_verdict, tick_if, ticked, energy_if, feeding}
use Rattle.model.specs.Steps.{time_changed}
use Rattle.model.specs.Tables.{current_table}
use Rattle.model.proofs.Keeping.{Kept, raised}
use Rattle.model.proofs.Activating.{power_kept, ticked_kept}
use Rattle.model.proofs.StayingSound.{ended_head, both_pass, in_time, begun_kept, fed_formed, fed_sound}
use Rattle.request.specs.Answers.{buffer_verdict}
use Rattle.ledger.specs.Meanings.{Call, start, tick, energy, serve, stop, plain, Meaning, nothing, started}
use Rattle.ledger.specs.Meanings as meaning
use Rattle.ledger.specs.Ledger.{Ledger}
use Rattle.ledger.specs.Entries.{event, reading, interval, asks_reading}
use Rattle.ledger.specs.Lives.{State, cold, running, start_step, plain_step, step}
use Rattle.ledger.specs.Statement.{head_in}
use Rattle.ledger.proofs.Seen.{said_of}
use Rattle.ledger.proofs.Outlines.{rows_account, power_outline, tick_outline}
use Rattle.ledger.proofs.Growing.{tick_grown}
use Rattle.ledger.proofs.TiedSteps.{along, ticked_along, power_along, feeding_tied}
use Rattle.ledger.proofs.TiedEnds.{ended_tied}
use Rattle.ledger.proofs.ViewsForce.{table_then, ticked_seen, power_seen}
use Rattle.ledger.proofs.ViewsImages.{ended_shows, feeding_unseen}
use Rattle.ledger.proofs.Serves.{serve_fits}
use Rattle.ledger.proofs.Fitting.{pasts_of, Fits, FitsState, StepFits, without_effect, with_effect, idle_fits, Works, ended_fits, left_fits}

-- start
start_works : (bs : List Block) (l : Ledger) (s : ℕ) → Fits bs l → s < seconds_in_all → totals_verdict bs ≡ Ok tt → Works bs l (started s) (power_up s (begun bs))
start_works bs l s fits real totals =
    let kept : Kept (content_of bs 0) 0 (begun bs) = begun_kept bs fits.image totals in
    record {
      view = power_seen 0 s (begun bs) real (omega arith) kept;
      tied = (power_along (pasts_of l) s (begun bs) (along (pasts_of l) (begun bs) kept.formed fits.logs)).tied;
      outline = power_outline s (begun bs) ∙ ap (λ xs. event (date_of s) PowerUp ∷ xs) (sym (rows_account (due_by s) s l.account (λ t. row_of t (head_in bs)) bs fits.agrees.rows));
      kept = raised 12 (power_up s (begun bs)) (omega arith) (power_kept 0 s (begun bs) real (omega arith) kept);
    }

pub start_fits : (bs : List Block) (l : Ledger) (s : ℕ) → Fits bs l → (v : Result (Unit {0}) MeterFault) → start_verdict bs s ≡ v → StepFits (cold bs) l (start_step s (started_if v s (begun bs)))
start_fits bs l s fits (Err e) is = without_effect (cold bs) (cold bs) l (record { call = start s; answer = plain (Err e); entries = [] }) refl refl fits refl
start_fits bs l s fits (Ok x) is =
    let parts = both_pass (image_verdict bs) (second_verdict s) is in
    let image = both_pass (of_memory (ready_verdict bs)) (or_else (order_verdict bs) (totals_verdict bs)) parts.0 in
    let totals = both_pass (order_verdict bs) (totals_verdict bs) image.1 in
    let real = in_time s parts.1 in
    let g = power_up s (begun bs) in
    let w = start_works bs l s fits real totals.1 in
    with_effect (cold bs) (running (meter_of (ended g) s)) l (record { call = start s; answer = plain (Ok tt); entries = g.entries }) refl
    (ended_fits bs l (started s) g fits w, refl, real) w.outline (ended_shows g w.kept.formed w.kept.ready ∙ w.view)

-- a started meter: its ledger has its clock
abbrev pub at : ℕ → Ledger → Ledger
at clock l = record { clock = clock; account = l.account; history = l.history; self_reads = l.self_reads; profile = l.profile }

-- tick
tick_works : (bs : List Block) (clock : ℕ) (l : Ledger) → Fits bs l → clock + 1 < seconds_in_all → totals_verdict bs ≡ Ok tt → Works bs (at clock l) (meaning.ticked (clock + 1)) (ticked (clock + 1) (begun bs))
tick_works bs clock l fits real totals =
    let s = clock + 1 in
    let kept : Kept (content_of bs 0) 0 (begun bs) = begun_kept bs fits.image totals in
    let calendar : current_table Calendar (time_changed s (begun bs)).blocks ≡ (fate.noted l.account (fate.time_changed s)).tables Calendar =
    table_then 0 s Calendar (begun bs) real (omega arith) kept ∙ (after_agrees (said_of bs) l.account (fate.time_changed s) fits.agrees).tables Calendar in
    record {
      view = ticked_seen 0 s (begun bs) real (omega arith) kept;
      tied = (ticked_along (pasts_of l) s (begun bs) (along (pasts_of l) (begun bs) kept.formed fits.logs)).tied;
      outline = tick_outline s (begun bs)
          ∙ ap₂ (λ xs c. xs ++ (cond (asks_reading c s) (reading s) [] ++ cond (eqb (s % 900) 0) (interval (date_of s) ∷ []) []))
          (sym (rows_account (due_by s) s l.account (λ t. row_of t (head_in bs)) bs fits.agrees.rows)) calendar;
      kept = ticked_kept 0 s (begun bs) real (omega arith) kept;
    }

pub tick_fits : (m : Meter) (l : Ledger) → Fits m.blocks l → m.clock < seconds_in_all → (v : Result (Unit {0}) MeterFault) → tick_verdict m ≡ v →
    StepFits (running m) (at m.clock l) (plain_step tick (tick_if v m (ticked (m.clock + 1) (begun m.blocks))))
tick_fits m l fits real (Err e) is =
    without_effect (running m) (running m) (at m.clock l) (record { call = tick; answer = plain (Err e); entries = [] }) refl refl
    (record { image = fits.image; agrees = fits.agrees; logs = fits.logs; bounded = fits.bounded }, refl, real) refl
tick_fits m l fits real (Ok x) is =
    let bs = m.blocks in
    let s = m.clock + 1 in
    let parts = both_pass (of_memory (ready_verdict bs)) (or_else (totals_verdict bs) (second_verdict s)) is in
    let more = both_pass (totals_verdict bs) (second_verdict s) parts.1 in
    let next = in_time s more.1 in
    let g = ticked s (begun bs) in
    let w = tick_works bs m.clock l fits next more.0 in
    let here : Fits bs (at m.clock l) = record { image = fits.image; agrees = fits.agrees; logs = fits.logs; bounded = fits.bounded } in
    let left = left_fits bs (at m.clock l) (meaning.ticked s) g here w (tick_grown s (begun bs)) in
    with_effect (running m) _ (at m.clock l) (record { call = tick; answer = plain (Ok tt); entries = g.entries }) refl (left.fits, refl, next) w.outline left.view

-- energy
energy_leaves : (bs : List Block) (l : Ledger) (s wh : ℕ) → Fits bs l → Fits (ended (feeding s wh (begun bs))) l × (said_of (ended (feeding s wh (begun bs))) ≡ said_of bs)
unfolding feeding
energy_leaves bs l s wh fits =
    let g = feeding s wh (begun bs) in
    let formed = fed_formed s wh bs fits.image in
    let seen : said_of (ended g) ≡ said_of bs = ended_shows g formed fits.image.ready ∙ feeding_unseen s wh (begun bs) in (
      record {
        image = fed_sound s wh bs fits.image;
        agrees = subst (λ (x : Memory). Agrees x l.account) (sym seen) fits.agrees;
        logs = ended_tied (pasts_of l) g formed (feeding_tied (pasts_of l) s wh (begun bs) fits.logs);
        bounded = λ k. subst (λ (h : Head). (get_or h.logs k empty_head).total ≤ 4000000012) (sym (ended_head g formed fits.image.ready)) (fits.bounded k);
      },
      seen,
    )

pub energy_fits : (m : Meter) (l : Ledger) (wh : ℕ) → FitsState (running m) l → (v : Result (Unit {0}) MeterFault) →
    StepFits (running m) l (plain_step (energy wh) (energy_if v m (feeding m.clock wh (begun m.blocks))))
energy_fits m l wh fits (Err e) = without_effect (running m) (running m) l (record { call = energy wh; answer = plain (Err e); entries = [] }) refl refl fits refl
energy_fits m l wh fits (Ok x) =
    let left = energy_leaves m.blocks l m.clock wh fits.0 in
    with_effect (running m) _ l (record { call = energy wh; answer = plain (Ok tt); entries = [] }) refl (left.0, fits.1, fits.2) refl left.1

-- stop
pub stop_fits : (m : Meter) (l : Ledger) → Fits m.blocks l → StepFits (running m) l (step (running m) stop)
stop_fits m l fits = with_effect (running m) (cold m.blocks) l (record { call = stop; answer = plain (Ok tt); entries = [] }) refl fits refl refl

-- any call
pub step_fits : (s : State) (l : Ledger) (c : Call) → FitsState s l → StepFits s l (step s c)
step_fits (cold bs) l (start second) fits = start_fits bs l second fits (start_verdict bs second) refl
step_fits (cold bs) l tick fits = idle_fits (cold bs) l fits
step_fits (cold bs) l (energy wh) fits = idle_fits (cold bs) l fits
step_fits (cold bs) l (serve key request answer scratch) fits = idle_fits (cold bs) l fits
step_fits (cold bs) l stop fits = idle_fits (cold bs) l fits
step_fits (running m) l (start second) fits = idle_fits (running m) l fits
step_fits (running m) l tick fits = subst (λ c. StepFits (running m) (at c l) (step (running m) tick)) fits.1 (tick_fits m l fits.0 fits.2 (tick_verdict m) refl)
step_fits (running m) l (energy wh) fits = energy_fits m l wh fits (of_memory (ready_verdict m.blocks))
step_fits (running m) l (serve key request answer scratch) fits = serve_fits key request answer scratch m l fits.1 fits.2 fits.0 (buffer_verdict (length answer) (length scratch))
step_fits (running m) l stop fits = stop_fits m l fits.0
