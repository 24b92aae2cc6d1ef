-- From one call to every life.
use Rattle.std.proofs.Common.{◌≡◌, zero, suc, ◌-◌, ◌<◌, ◌≤◌, Bool, true, false, cond, ltb, List, [], ◌∷◌, ◌++◌, length, Ok, Err, sym, refl, ap, ◌∙◌, subst, append_assoc, arith}
use Rattle.std.proofs.lemmas.Bool.{ltb-false, le-ltb}
use Rattle.access.specs.Ready.{needed}
use Rattle.calendar.specs.Calendar.{seconds_in_all}
use Rattle.memory.specs.Blocks.{Block, Whole}
use Rattle.numbers.specs.declared.log.LogName.{LogName}
use Rattle.numbers.specs.Names.{log_number}
use Rattle.memory.specs.declared.fault.MemoryFault.TheVariants.{TooSmall}
use Rattle.fields.specs.Words.{word}
use Rattle.fields.specs.Patches.{patch}
use Rattle.head.specs.Heads.{logs_from}
use Rattle.logs.specs.declared.head.LogHead.{LogHead}
use Rattle.directory.specs.Geometry.{log_place}
use Rattle.fates.specs.Stagings.{Happening, Account, Memory, run}
use Rattle.fates.specs.Stagings as fate
use Rattle.fates.specs.Fates.{Tells, Continues}
use Rattle.fates.proofs.AllLaws.{fate_laws}
use Rattle.fates.proofs.Running.{run_append, kept_append}
use Rattle.model.specs.States.{log_of}
use Rattle.model.specs.Calls.{format, format_if, formatted}
use Rattle.model.proofs.Outcomes.{never}
use Rattle.model.proofs.StayingSound.{formed_of}
use Rattle.model.proofs.ServingSound.{stays_sound}
use Rattle.ledger.specs.Meanings.{Call, has_effect}
use Rattle.ledger.specs.Ledger.{Fed, Ledger, opened, noted, kept, happened_by, happenings}
use Rattle.ledger.specs.Entries.{AllBring}
use Rattle.ledger.specs.Results.{AllResults}
use Rattle.ledger.proofs.Results.{step_results}
use Rattle.ledger.specs.Lives.{State, cold, running, blocks_in, step, live, told}
use Rattle.ledger.specs.Statement.{head_in, memory_of, AnswersIn, born, meter_after, memory_after, feed_of, ledger_after, happened_in, ClockIs, Stands, EveryLife}
use Rattle.ledger.proofs.Seen.{said_of}
use Rattle.ledger.proofs.Fitting.{pasts_of, Bounded, Fits, FitsState}
use Rattle.ledger.proofs.Calls.{step_fits}
use Rattle.ledger.proofs.TiedEnds.{fresh_tied}
use Rattle.ledger.proofs.LogTables.{total_shown_lem, held_shown_lem, unread_shown_lem, total_fits, held_fits, unread_fits, history_stands, self_reads_stand, profile_stands}
use Rattle.ledger.proofs.Showing.{shown_said, counts_said}
use Rattle.ledger.proofs.Answering.{answers}
use Rattle.ledger.proofs.ViewsImages.{first_agrees}

-- lists of what was fed, one after another
kept_on : (l : Ledger) (xs ys : List Fed) → kept l (xs ++ ys) ≡ kept (kept l xs) ys
kept_on l [] ys = refl
kept_on l (f ∷ xs) ys = kept_on (noted l f) xs ys

bring_on : (l : Ledger) (xs ys : List Fed) → AllBring l xs → AllBring (kept l xs) ys → AllBring l (xs ++ ys)
bring_on l [] ys a b = b
bring_on l (f ∷ xs) ys a b = (a.0, bring_on (noted l f) xs ys a.1 b)

results_on : (l : Ledger) (xs ys : List Fed) → AllResults l xs → AllResults (kept l xs) ys → AllResults l (xs ++ ys)
results_on l [] ys a b = b
results_on l (f ∷ xs) ys a b = (a.0, results_on (noted l f) xs ys a.1 b)

happenings_on : (l : Ledger) (xs ys : List Fed) → happenings l (xs ++ ys) ≡ happenings l xs ++ happenings (kept l xs) ys
happenings_on l [] ys = refl
happenings_on l (f ∷ xs) ys = ap (λ hs. happened_by l f ++ hs) (happenings_on (noted l f) xs ys) ∙ sym (append_assoc (happened_by l f) (happenings (noted l f) xs) _)

-- the ledger's account is that of what happened
noted_account : (l : Ledger) (f : Fed) → (noted l f).account ≡ fate.kept l.account (happened_by l f)
noted_account l f = go (has_effect f.answer) refl
  where
    go : (b : Bool) → has_effect f.answer ≡ b → (noted l f).account ≡ fate.kept l.account (happened_by l f)
    go true e = rw e
    go false e = rw e

pub account_kept : (l : Ledger) (fs : List Fed) → (kept l fs).account ≡ fate.kept l.account (happenings l fs)
account_kept l [] = refl
account_kept l (f ∷ fs) =
    account_kept (noted l f) fs ∙ ap (λ (a : Account). fate.kept a (happenings (noted l f) fs)) (noted_account l f) ∙ sym (kept_append l.account (happened_by l f) (happenings (noted l f) fs))

-- calls, one after another
pub record Along (s : State) (l : Ledger) (cs : List Call) : Type 0 where
  pub fits : FitsState (live s cs) (kept l (told s cs))
  pub brought : AllBring l (told s cs)
  pub results : AllResults l (told s cs)
  pub view : said_of (blocks_in (live s cs)) ≡ run (said_of (blocks_in s)) (happenings l (told s cs))

pub along : (s : State) (l : Ledger) (cs : List Call) → FitsState s l → Along s l cs
along s l [] fits = record { fits = fits; brought = tt; results = tt; view = refl }
along s l (c ∷ cs) fits =
    let one = step_fits s l c fits in
    let fed = (step s c).fed in
    let rest = along (step s c).state (kept l fed) cs one.fits in
    record {
      fits = rw (kept_on l fed (told (step s c).state cs)) rest.fits;
      brought = bring_on l fed (told (step s c).state cs) one.brought rest.brought;
      results = results_on l fed (told (step s c).state cs) (step_results s l fits c) rest.results;
      view = rest.view ∙ ap (λ m. run m (happenings (kept l fed) (told (step s c).state cs))) one.view
          ∙ sym (run_append (said_of (blocks_in s)) (happenings l fed) _) ∙ ap (run (said_of (blocks_in s))) (sym (happenings_on l fed (told (step s c).state cs)));
    }

told_on : (s : State) (cs rest : List Call) → told s (cs ++ rest) ≡ told s cs ++ told (live s cs) rest
told_on s [] rest = refl
told_on s (c ∷ cs) rest = ap (λ fs. (step s c).fed ++ fs) (told_on (step s c).state cs rest) ∙ sym (append_assoc (step s c).fed (told (step s c).state cs) _)

-- a new meter
format_done : (bs : List Block) → (format bs).answer ≡ Ok tt → (needed ≤ length bs) × ((format bs).blocks ≡ formatted bs)
format_done bs h = go (ltb (length bs) needed) refl h
  where
    go : (b : Bool) → ltb (length bs) needed ≡ b → (format_if (cond b (Err (TooSmall (length bs))) (Ok tt)) bs).answer ≡ Ok tt →
        (needed ≤ length bs) × ((format_if (cond (ltb (length bs) needed) (Err (TooSmall (length bs))) (Ok tt)) bs).blocks ≡ formatted bs)
    go true e k = absurd (never (sym k))
    go false e k = (ltb-false (length bs) needed e, rw e)

format_passes : (bs : List Block) → needed ≤ length bs → (format bs).answer ≡ Ok tt
format_passes bs enough = let room : ltb (length bs) needed ≡ false = le-ltb (length bs) needed enough in rw room

fresh_bounded : (bs : List Block) → Bounded (head_in (formatted bs))
unfolding formatted patch logs_from word
fresh_bounded bs zero = omega arith
fresh_bounded bs (suc zero) = omega arith
fresh_bounded bs (suc (suc zero)) = omega arith
fresh_bounded bs (suc (suc (suc k))) = omega arith

born_fits : (bs : List Block) → Whole bs → (format bs).answer ≡ Ok tt → Fits (format bs).blocks opened
born_fits bs whole h =
    let done = format_done bs h in
    rw done.1 (record { image = stays_sound.format bs done.0 whole; agrees = first_agrees bs; logs = fresh_tied bs done.0 whole; bounded = fresh_bounded bs })

state_image : (s : State) (l : Ledger) → FitsState s l → Fits (blocks_in s) l
state_image (cold bs) l f = f
state_image (running m) l f = f.0

state_clock : (s : State) (l : Ledger) → FitsState s l → ClockIs s l.clock
state_clock (cold bs) l f = tt
state_clock (running m) l f = (f.1, subst (λ c. c < seconds_in_all) f.1 f.2)

state_answers : (s : State) (l : Ledger) → FitsState s l → AnswersIn s l
state_answers (cold bs) l f = tt
state_answers (running m) l f = answers m l f.0

pub life_stands : (bs : List Block) → Whole bs → needed ≤ length bs → (cs : List Call) → Stands bs cs
life_stands bs whole enough cs =
    let first = born_fits bs whole (format_passes bs enough) in
    let now = along (born bs) opened cs first in
    let l = ledger_after bs cs in
    let bs' = memory_after bs cs in
    let fits = state_image (meter_after bs cs) l now.fits in
    let account = account_kept opened (feed_of bs cs) in
    let formed = formed_of bs' fits.image in
    let shown : memory_of bs' ≡ said_of bs' = shown_said bs' fits.image in
    let log : (name : LogName) → LogHead = λ name. log_of name (head_in bs') in
    let counts = counts_said bs' fits.image in
    record {
      brought = now.brought;
      results = now.results;
      clock = state_clock (meter_after bs cs) l now.fits;
      rows = λ t. fits.agrees.rows t ∙ ap (λ (m : Memory). fate.listed (m.rows t)) (sym shown);
      tables = λ t. ap (λ (m : Memory). m.tables t) shown ∙ fits.agrees.tables t;
      answers = state_answers (meter_after bs cs) l now.fits;
      fates = subst (λ (a : Account). Tells (happened_in bs cs) a.stagings) (sym account) (fate_laws.told opened.account (happened_in bs cs) refl);
      whole = λ before quiet t p e is ns ends.
          let all = shown ∙ now.view ∙ ap (run (said_of (format bs).blocks)) is in
          let z = fate_laws.whole (said_of (format bs).blocks) before t p quiet e ns ends in
          (ap (λ (m : Memory). m.tables t) all ∙ z.0, ap (λ (m : Memory). m.rows t) all ∙ z.1);
      in_time = λ before clock t p second is row due.
          let all = shown ∙ now.view ∙ ap (run (said_of (format bs).blocks)) is in
          fate_laws.in_time (said_of (format bs).blocks) before clock t p second (sym (ap (λ (m : Memory). m.rows t) all) ∙ row) due;
      history = history_stands (pasts_of l) (head_in bs') bs' formed fits.logs;
      self_reads = self_reads_stand (pasts_of l) (head_in bs') bs' formed fits.logs;
      profile = profile_stands (pasts_of l) (head_in bs') bs' formed fits.logs;
      totals = λ name. ap (λ (x : LogHead). x.total) (counts name) ∙ sym (total_shown_lem (log_place name) (log name) bs' (total_fits (head_in bs') name formed));
      helds = λ name. ap (λ (x : LogHead). x.held) (counts name) ∙ sym (held_shown_lem (log_place name) (log name) bs' (held_fits (head_in bs') name formed));
      unreads = λ name. ap (λ (x : LogHead). x.unread) (counts name) ∙ sym (unread_shown_lem (log_place name) (log name) bs' (unread_fits (head_in bs') name formed));
      order = stays_sound.order bs' fits.image;
      small = λ name. omega (arith, total_shown_lem (log_place name) (log name) bs' (total_fits (head_in bs') name formed), fits.bounded (log_number name - 1));
    }

pub lasting : (bs : List Block) (cs rest : List Call) → Continues (ledger_after bs cs).account.stagings (ledger_after bs (cs ++ rest)).account.stagings
lasting bs cs rest =
    let l = ledger_after bs cs in
    let more = told (meter_after bs cs) rest in
    let same : ledger_after bs (cs ++ rest) ≡ kept l more = ap (kept opened) (told_on (born bs) cs rest) ∙ kept_on opened (feed_of bs cs) more in
    subst (λ (a : Account). Continues l.account.stagings a.stagings) (sym (ap (λ (x : Ledger). x.account) same ∙ account_kept l more)) (fate_laws.last l.account (happenings l more))

pub every_life : EveryLife
every_life = record {
  formats = format_passes;
  stands = life_stands;
  one_fate = fate_laws.one_fate;
  never_late = fate_laws.never_late;
  lasting = lasting;
}
