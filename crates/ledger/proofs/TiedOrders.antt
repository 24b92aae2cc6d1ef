-- What a procedure does to the three logs: it clears or acknowledges first, and then come its entries.
use Rattle.std.proofs.Common.{◌≡◌, ℕ, ◌-◌, ◌<◌, ◌≤◌, List, [], ◌∷◌, length, sym, refl, ◌∙◌, subst, arith}
use Rattle.std.proofs.lemmas.List.{length-set}
use Rattle.memory.specs.Blocks.{Block}
use Rattle.numbers.specs.declared.log.LogName.{LogName}
use Rattle.numbers.specs.declared.log.LogName.TheVariants.{History, SelfReads, LoadProfile}
use Rattle.numbers.specs.Names.{log_number}
use Rattle.records.specs.declared.event.Event.TheVariants.{TimeChanged, ProcedureInvoked}
use Rattle.records.specs.declared.history.EventRecord.{EventRecord}
use Rattle.records.specs.declared.self_read.SelfRead.{SelfRead}
use Rattle.records.specs.declared.interval.Interval.{Interval}
use Rattle.records.specs.Layouts.{event_record_of, self_read_of, interval_of, RegistersFit}
use Rattle.logs.specs.declared.head.LogHead.{LogHead}
use Rattle.logs.specs.Heads.{acknowledged, cleared}
use Rattle.logs.specs.Places.{history_log, self_read_log, load_profile_log}
use Rattle.logs.specs.Deeds.{Deed, acknowledging, clearing}
use Rattle.pending.specs.declared.row.Row.TheVariants.{Empty}
use Rattle.pending.specs.declared.table.PendingTable.{PendingTable}
use Rattle.pending.specs.Rows.{is_waiting}
use Rattle.head.specs.declared.head.Head.{Head}
use Rattle.model.specs.States.{Going, Recorded, log_of, set_log, set_row}
use Rattle.model.specs.Procedures.{Order, clear, acknowledge, set_clock, activate, withdraw, read_self, logs_cleared, rows_withdrawn, mark_set, obeyed, carried_out}
use Rattle.ledger.proofs.Tied.{TiedLog, Pasts, TiedAll, entered_all, history_done, self_reads_done, profile_done, here, elsewhere}
use Rattle.ledger.proofs.TiedSteps.{Along, noted_along, self_read_along, head_along, each_along, time_along}

-- what an order asks of the logs, before its entries
abbrev pub cleared_in : LogName → Pasts → Pasts
cleared_in History p = record { history = clearing ∷ p.history; self_reads = p.self_reads; profile = p.profile }
cleared_in SelfReads p = record { history = p.history; self_reads = clearing ∷ p.self_reads; profile = p.profile }
cleared_in LoadProfile p = record { history = p.history; self_reads = p.self_reads; profile = clearing ∷ p.profile }

abbrev pub all_cleared : List LogName → Pasts → Pasts
all_cleared [] p = p
all_cleared (name ∷ names) p = all_cleared names (cleared_in name p)

abbrev pub read_in : LogName → ℕ → Pasts → Pasts
read_in History n p = record { history = acknowledging n ∷ p.history; self_reads = p.self_reads; profile = p.profile }
read_in SelfReads n p = record { history = p.history; self_reads = acknowledging n ∷ p.self_reads; profile = p.profile }
read_in LoadProfile n p = record { history = p.history; self_reads = p.self_reads; profile = acknowledging n ∷ p.profile }

abbrev pub ordered_pasts : Order → Pasts → Pasts
ordered_pasts (clear names) p = all_cleared names p
ordered_pasts (acknowledge name n) p = read_in name n p
ordered_pasts (set_clock s) p = p
ordered_pasts (activate ts) p = p
ordered_pasts (withdraw ts) p = p
ordered_pasts read_self p = p

-- one log with another head and another past
module _ (p : Pasts) (l : LogHead) (h : Head) (bs : List Block) (three : length h.logs ≡ 3) (t : TiedAll p h bs) where
  history_set : (past : List (Deed EventRecord)) → TiedLog event_record_of history_log l bs past → TiedAll (record { history = past; self_reads = p.self_reads; profile = p.profile }) (set_log History l h) bs
  history_set past new = record {
    history = here h.logs 0 l (omega arith) new;
    self_reads = elsewhere h.logs 1 0 l (λ e. omega arith) t.self_reads;
    profile = elsewhere h.logs 2 0 l (λ e. omega arith) t.profile;
  }

  self_reads_set : (past : List (Deed SelfRead)) → TiedLog self_read_of self_read_log l bs past → TiedAll (record { history = p.history; self_reads = past; profile = p.profile }) (set_log SelfReads l h) bs
  self_reads_set past new = record {
    history = elsewhere h.logs 0 1 l (λ e. omega arith) t.history;
    self_reads = here h.logs 1 l (omega arith) new;
    profile = elsewhere h.logs 2 1 l (λ e. omega arith) t.profile;
  }

  profile_set : (past : List (Deed Interval)) → TiedLog interval_of load_profile_log l bs past → TiedAll (record { history = p.history; self_reads = p.self_reads; profile = past }) (set_log LoadProfile l h) bs
  profile_set past new = record {
    history = elsewhere h.logs 0 2 l (λ e. omega arith) t.history;
    self_reads = elsewhere h.logs 1 2 l (λ e. omega arith) t.self_reads;
    profile = here h.logs 2 l (omega arith) new;
  }

log_cleared : (p : Pasts) (name : LogName) (h : Head) (bs : List Block) → length h.logs ≡ 3 → TiedAll p h bs → TiedAll (cleared_in name p) (set_log name (cleared (log_of name h)) h) bs
log_cleared p History h bs three t = history_set p _ h bs three t _ (history_done (log_of History h) bs p.history clearing tt t.history)
log_cleared p SelfReads h bs three t = self_reads_set p _ h bs three t _ (self_reads_done (log_of SelfReads h) bs p.self_reads clearing tt t.self_reads)
log_cleared p LoadProfile h bs three t = profile_set p _ h bs three t _ (profile_done (log_of LoadProfile h) bs p.profile clearing tt t.profile)

logs_cleared_lem : (p : Pasts) (names : List LogName) (h : Head) (bs : List Block) → length h.logs ≡ 3 → TiedAll p h bs → TiedAll (all_cleared names p) (logs_cleared names h) bs
logs_cleared_lem p [] h bs three t = t
logs_cleared_lem p (name ∷ names) h bs three t =
    logs_cleared_lem (cleared_in name p) names (set_log name (cleared (log_of name h)) h) bs (length-set h.logs (log_number name - 1) _ ∙ three) (log_cleared p name h bs three t)

log_read : (p : Pasts) (name : LogName) (n : ℕ) (h : Head) (bs : List Block) → length h.logs ≡ 3 → n ≤ (log_of name h).unread → TiedAll p h bs →
    TiedAll (read_in name n p) (set_log name (acknowledged n (log_of name h)) h) bs
log_read p History n h bs three few t = history_set p _ h bs three t _ (history_done (log_of History h) bs p.history (acknowledging n) few t.history)
log_read p SelfReads n h bs three few t = self_reads_set p _ h bs three t _ (self_reads_done (log_of SelfReads h) bs p.self_reads (acknowledging n) few t.self_reads)
log_read p LoadProfile n h bs three few t = profile_set p _ h bs three t _ (profile_done (log_of LoadProfile h) bs p.profile (acknowledging n) few t.profile)

-- the heads stay three and the registers as they were
cleared_shape : (names : List LogName) (h : Head) → (length (logs_cleared names h).logs ≡ length h.logs) × ((logs_cleared names h).registers ≡ h.registers)
cleared_shape [] h = (refl, refl)
cleared_shape (name ∷ names) h =
    let rest = cleared_shape names (set_log name (cleared (log_of name h)) h) in
    (rest.0 ∙ length-set h.logs (log_number name - 1) _, rest.1)

withdrawn_shape : (ts : List PendingTable) (h : Head) → ((rows_withdrawn ts h).logs ≡ h.logs) × ((rows_withdrawn ts h).registers ≡ h.registers)
withdrawn_shape [] h = (refl, refl)
withdrawn_shape (t ∷ ts) h = withdrawn_shape ts (set_row t Empty h)

-- no entry was recorded yet
begins : (base : Pasts) (es : List Recorded) (h : Head) (bs : List Block) → es ≡ [] → TiedAll base h bs → TiedAll (entered_all es base) h bs
begins base es h bs none t = subst (λ (x : List Recorded). TiedAll (entered_all x base) h bs) (sym none) t

before : (base : Pasts) (es : List Recorded) (h : Head) (bs : List Block) → es ≡ [] → TiedAll (entered_all es base) h bs → TiedAll base h bs
before base es h bs none t = subst (λ (x : List Recorded). TiedAll (entered_all x base) h bs) none t

-- no more is acknowledged than is unread
abbrev pub Covered : Order → Head → Type 0
Covered (clear names) h = Unit {0}
Covered (acknowledge name n) h = n ≤ (log_of name h).unread
Covered (set_clock s) h = Unit {0}
Covered (activate ts) h = Unit {0}
Covered (withdraw ts) h = Unit {0}
Covered read_self h = Unit {0}

pub obeyed_along : (base : Pasts) (clock : ℕ) (o : Order) (g : Going) → g.entries ≡ [] → Covered o g.head → Along base g → Along (ordered_pasts o base) (obeyed clock o g)
unfolding obeyed
obeyed_along base clock (clear names) g none ok a =
    let shape = cleared_shape names g.head in
    record {
      three = shape.0 ∙ a.three;
      registers = subst RegistersFit (sym shape.1) a.registers;
      tied = begins (all_cleared names base) g.entries _ g.blocks none (logs_cleared_lem base names g.head g.blocks a.three (before base g.entries _ g.blocks none a.tied));
    }
obeyed_along base clock (acknowledge name n) g none ok a = record {
  three = length-set g.head.logs (log_number name - 1) _ ∙ a.three;
  registers = a.registers;
  tied = begins (read_in name n base) g.entries _ g.blocks none (log_read base name n g.head g.blocks a.three ok (before base g.entries _ g.blocks none a.tied));
}
obeyed_along base clock (set_clock s) g none ok a = time_along base clock _ (noted_along base clock TimeChanged _ (omega arith) (head_along base mark_set g refl a.registers a))
obeyed_along base clock (activate ts) g none ok a = each_along base is_waiting clock ts g a
obeyed_along base clock (withdraw ts) g none ok a =
    let shape = withdrawn_shape ts g.head in
    head_along base (rows_withdrawn ts) g shape.0 (subst RegistersFit (sym shape.1) a.registers) a
obeyed_along base clock read_self g none ok a = self_read_along base clock g a

pub carried_along : (base : Pasts) (clock number : ℕ) (o : Order) (g : Going) → number < 65536 → g.entries ≡ [] → Covered o g.head → Along base g → Along (ordered_pasts o base) (carried_out clock number o g)
unfolding carried_out
carried_along base clock number o g small none ok a = noted_along (ordered_pasts o base) clock (ProcedureInvoked number) _ small (obeyed_along base clock o g none ok a)
