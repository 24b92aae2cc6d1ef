-- Procedures keep what the steps keep.
use Rattle.std.proofs.Common.{◌≡◌, ℕ, suc, ◌+◌, ◌-◌, ◌*◌, ◌<◌, ◌≤◌, Bool, true, false, cond, eqb, ltb, leb, List, [], ◌∷◌, length, get_or, set, Some, None, Ok, Err, Option, Result, sym, refl, ap, ◌∙◌, inl, inr, arith}
use Rattle.std.proofs.lemmas.List.{get_or-set_same, get_or-set_other}
use Rattle.std.proofs.lemmas.Bool.{cases_eq, and_parts, and_from, leb-true, le-leb}
use Rattle.calendar.specs.declared.DateTime.{DateTime}
use Rattle.calendar.specs.Calendar.{seconds_in_all, second_if_real, second_of, is_real, of_bytes}
use Rattle.calendar.proofs.Whole.{in_range}
use Rattle.fields.specs.Words.{word}
use Rattle.numbers.specs.declared.log.LogName.{LogName}
use Rattle.numbers.specs.declared.log.LogName.TheVariants.{History, SelfReads, LoadProfile}
use Rattle.numbers.specs.declared.procedure.Procedure.{Procedure}
use Rattle.numbers.specs.declared.procedure.Procedure.TheVariants.{ResetList, UpdateLastRead, SetDateTime, ActivateAll, ActivateOne, WithdrawAll, WithdrawOne, TakeSelfRead}
use Rattle.numbers.specs.declared.procedure.ProcedureResult.{ProcedureResult}
use Rattle.numbers.specs.declared.procedure.ProcedureResult.TheVariants.{InvalidParameter, Conflict}
use Rattle.numbers.specs.Names.{log_number, log_numbered, procedure_numbered}
use Rattle.logs.specs.declared.head.LogHead.{LogHead}
use Rattle.logs.specs.Heads.{empty_head, acknowledged, cleared}
use Rattle.pending.specs.declared.row.Row.{Row}
use Rattle.pending.specs.declared.row.Row.TheVariants.{Empty}
use Rattle.pending.specs.declared.table.PendingTable.{PendingTable}
use Rattle.pending.specs.Rows.{is_waiting}
use Rattle.pending.specs.Tables.{table_index, table_of, all_tables}
use Rattle.pending.proofs.RowSeconds.{real}
use Rattle.head.specs.declared.head.Head.{Head}
use Rattle.head.specs.Layout.{log_sizes}
use Rattle.head.specs.Order.{LogFormed}
use Rattle.head.proofs.Frames.{frames}
use Rattle.head.proofs.HeadLaws.{logs_three}
use Rattle.model.specs.States.{Going, row_of, log_of, set_log, on_head}
use Rattle.model.specs.Steps.{activated_if, each_activated}
use Rattle.model.specs.Procedures.{Order, clear, acknowledge, set_clock, activate, withdraw, read_self, sized, clear_one, clear_order, acknowledge_order, clock_order, row_order, order_of, ordered, called, called_number, called_parameters, clock_after, logs_cleared, rows_withdrawn, obeyed, carried_out}
use Rattle.model.proofs.Places.{log_low}
use Rattle.model.proofs.Keeping.{Kept, raised, logs_at, noted_kept, self_read_kept, status_kept}
use Rattle.model.proofs.Activating.{if_kept, time_kept}
use Rattle.model.proofs.Outcomes.{never, ok_same}

-- a log head that counts no more than before, in the same log
log_kept : {c : List ℕ} {n : ℕ} (k : ℕ) (l : LogHead) (g : Going) → k < 3 → l.total ≡ (get_or g.head.logs k empty_head).total → LogFormed (get_or log_sizes k 0) l → Kept c n g →
    Kept c n (on_head (λ h. record { rows = h.rows; logs = set h.logs k l; activation = h.activation; registers = h.registers; status = h.status }) g)
log_kept k l g third same formed kept =
    let three : length g.head.logs ≡ 3 = logs_three g.head.logs kept.formed.logs in
    record {
      formed = frames.log_kept g.head k l kept.formed formed;
      totals = λ j. elim (cases_eq j k) [
        | inl here ↦
            let at : get_or (set g.head.logs k l) j empty_head ≡ l = ap (λ i. get_or (set g.head.logs k l) i empty_head) here ∙ get_or-set_same g.head.logs k l empty_head (omega arith) in
            omega (arith, ap (λ (x : LogHead). x.total) at, kept.totals k)
        | inr other ↦ omega (arith, ap (λ (x : LogHead). x.total) (get_or-set_other g.head.logs k j l empty_head other), kept.totals j)
      ];
      ready = kept.ready;
      whole = kept.whole;
      zero = kept.zero;
    }

cleared_formed : (size : ℕ) (l : LogHead) → LogFormed size l → LogFormed size (cleared l)
cleared_formed size l f = record { counts = and_from _ _ refl (and_from _ _ (le-leb 0 size (omega arith)) (le-leb 0 l.total (omega arith))); fits = f.fits }

acknowledged_formed : (size count : ℕ) (l : LogHead) → LogFormed size l → LogFormed size (acknowledged count l)
acknowledged_formed size count l f =
    let parts = and_parts (leb l.unread l.held) _ f.counts in
    let a : l.unread ≤ l.held = leb-true _ _ parts.0 in
    record { counts = and_from _ _ (le-leb (l.unread - count) l.held (omega arith)) parts.1; fits = f.fits }

log_formed : {c : List ℕ} {n : ℕ} (name : LogName) (g : Going) → Kept c n g → LogFormed (get_or log_sizes (log_number name - 1) 0) (log_of name g.head)
log_formed name g kept = logs_at log_sizes g.head.logs (log_number name - 1) empty_head kept.formed.logs (log_low name)

one_cleared : {c : List ℕ} {n : ℕ} (name : LogName) (g : Going) → Kept c n g → Kept c n (on_head (λ h. set_log name (cleared (log_of name h)) h) g)
one_cleared name g kept = log_kept (log_number name - 1) (cleared (log_of name g.head)) g (log_low name) refl (cleared_formed _ _ (log_formed name g kept)) kept

clear_kept : {c : List ℕ} {n : ℕ} (names : List LogName) (g : Going) → Kept c n g → Kept c n (on_head (logs_cleared names) g)
clear_kept [] g kept = kept
clear_kept (name ∷ names) g kept = clear_kept names (on_head (λ h. set_log name (cleared (log_of name h)) h) g) (one_cleared name g kept)

acknowledge_kept : {c : List ℕ} {n : ℕ} (name : LogName) (count : ℕ) (g : Going) → Kept c n g → Kept c n (on_head (λ h. set_log name (acknowledged count (log_of name h)) h) g)
acknowledge_kept name count g kept = log_kept (log_number name - 1) (acknowledged count (log_of name g.head)) g (log_low name) refl (acknowledged_formed _ count _ (log_formed name g kept)) kept

row_emptied : {c : List ℕ} {n : ℕ} (t : PendingTable) (g : Going) → Kept c n g → Kept c n (on_head (λ h. record { rows = set h.rows (table_index t) Empty; logs = h.logs; activation = h.activation; registers = h.registers; status = h.status }) g)
row_emptied t g kept = record { formed = frames.row_kept g.head (table_index t) Empty kept.formed refl; totals = kept.totals; ready = kept.ready; whole = kept.whole; zero = kept.zero }

withdraw_kept : {c : List ℕ} {n : ℕ} (ts : List PendingTable) (g : Going) → Kept c n g → Kept c n (on_head (rows_withdrawn ts) g)
withdraw_kept [] g kept = kept
withdraw_kept (t ∷ ts) g kept = withdraw_kept ts _ (row_emptied t g kept)

each_kept : {c : List ℕ} (n clock : ℕ) (test : Row → Bool) (ts : List PendingTable) (g : Going) → clock < seconds_in_all → n + 3 * length ts < 80000000 → Kept c n g → Kept c (n + 3 * length ts) (each_activated test clock ts g)
each_kept n clock test [] g real few kept = raised (n + 3 * 0) g (omega arith) kept
each_kept n clock test (t ∷ ts) g real few kept =
    raised (n + 3 * suc (length ts)) _ (omega arith) (each_kept (n + 3) clock test ts (activated_if test clock t g) real (omega arith) (if_kept n clock test t g real (omega arith) kept))

-- what an order leans on: a second of the calendar, no more rows than there are
abbrev pub SafeOrder : Order → Type 0
SafeOrder (clear names) = Unit {0}
SafeOrder (acknowledge name count) = Unit {0}
SafeOrder (set_clock s) = s < seconds_in_all
SafeOrder (activate ts) = length ts ≤ 3
SafeOrder (withdraw ts) = Unit {0}
SafeOrder read_self = Unit {0}

pub obeyed_kept : {c : List ℕ} (clock : ℕ) (o : Order) (g : Going) → clock < seconds_in_all → SafeOrder o → Kept c 0 g → Kept c 10 (obeyed (clock_after clock o) o g)
unfolding obeyed
obeyed_kept clock (clear names) g real safe kept = raised 10 _ (omega arith) (clear_kept names g kept)
obeyed_kept clock (acknowledge name count) g real safe kept = raised 10 _ (omega arith) (acknowledge_kept name count g kept)
obeyed_kept clock (set_clock s) g real safe kept = time_kept 1 s _ safe (omega arith) (noted_kept 0 s _ _ (omega arith) (status_kept _ g kept))
obeyed_kept clock (activate ts) g real safe kept = raised 10 _ (omega arith) (each_kept 0 clock is_waiting ts g real (omega arith) kept)
obeyed_kept clock (withdraw ts) g real safe kept = raised 10 _ (omega arith) (withdraw_kept ts g kept)
obeyed_kept clock read_self g real safe kept = raised 10 _ (omega arith) (self_read_kept 0 clock g (omega arith) kept)

pub carried_kept : {c : List ℕ} (clock number : ℕ) (o : Order) (g : Going) → clock < seconds_in_all → SafeOrder o → Kept c 0 g → Kept c 11 (carried_out (clock_after clock o) number o g)
unfolding carried_out
carried_kept clock number o g real safe kept = noted_kept 10 (clock_after clock o) _ _ (omega arith) (obeyed_kept clock o g real safe kept)

pub clock_after_lem : (clock : ℕ) (o : Order) → clock < seconds_in_all → SafeOrder o → clock_after clock o < seconds_in_all
clock_after_lem clock (clear names) real safe = real
clock_after_lem clock (acknowledge name count) real safe = real
clock_after_lem clock (set_clock s) real safe = safe
clock_after_lem clock (activate ts) real safe = real
clock_after_lem clock (withdraw ts) real safe = real
clock_after_lem clock read_self real safe = real

-- orders that procedures give are safe
sized_safe : (n : ℕ) (p : List ℕ) (r : Result Order ProcedureResult) (o : Order) → (r ≡ Ok o → SafeOrder o) → sized n p r ≡ Ok o → SafeOrder o
sized_safe n p r o then h = go (eqb (length p) n) h
  where
    go : (b : Bool) → cond b r (Err InvalidParameter) ≡ Ok o → SafeOrder o
    go true e = then e
    go false e = absurd (never (sym e))

plain_safe : (x o : Order) → SafeOrder x → ◌≡◌ {A = Result Order ProcedureResult} (Ok x) (Ok o) → SafeOrder o
plain_safe x o safe h = let same : x ≡ o = ok_same h in rw (← same) safe

clear_one_safe : (l : Option LogName) (o : Order) → clear_one l ≡ Ok o → SafeOrder o
clear_one_safe None o h = absurd (never (sym h))
clear_one_safe (Some name) o h = plain_safe (clear (name ∷ [])) o tt h

clear_safe : (b : ℕ) (o : Order) → clear_order b ≡ Ok o → SafeOrder o
clear_safe b o h = go (eqb b 255) h
  where
    go : (t : Bool) → cond t (Ok (clear (History ∷ SelfReads ∷ LoadProfile ∷ []))) (clear_one (log_numbered b)) ≡ Ok o → SafeOrder o
    go true e = plain_safe (clear (History ∷ SelfReads ∷ LoadProfile ∷ [])) o tt e
    go false e = clear_one_safe (log_numbered b) o e

acknowledge_safe : (l : Option LogName) (count : ℕ) (h : Head) (o : Order) → acknowledge_order l count h ≡ Ok o → SafeOrder o
acknowledge_safe None count h o e = absurd (never (sym e))
acknowledge_safe (Some name) count h o e = go (ltb (log_of name h).unread count) e
  where
    go : (t : Bool) → cond t (Err InvalidParameter) (Ok (acknowledge name count)) ≡ Ok o → SafeOrder o
    go true k = absurd (never (sym k))
    go false k = plain_safe (acknowledge name count) o tt k

second_safe : (t : DateTime) (o : Order) → clock_order (second_if_real t) ≡ Ok o → SafeOrder o
second_safe t o h = go (is_real t) refl h
  where
    go : (b : Bool) → is_real t ≡ b → clock_order (cond b (Some (second_of t)) None) ≡ Ok o → SafeOrder o
    go true e k = plain_safe (set_clock (second_of t)) o (in_range t (real t e)) k
    go false e k = absurd (never (sym k))

row_safe : (f : List PendingTable → Order) (x : Option PendingTable) (h : Head) (o : Order) → ((t : PendingTable) → SafeOrder (f (t ∷ []))) → row_order f x h ≡ Ok o → SafeOrder o
row_safe f None h o safe e = absurd (never (sym e))
row_safe f (Some t) h o safe e = go (is_waiting (row_of t h)) e
  where
    go : (b : Bool) → cond b (Ok (f (t ∷ []))) (Err Conflict) ≡ Ok o → SafeOrder o
    go true k = plain_safe (f (t ∷ [])) o (safe t) k
    go false k = absurd (never (sym k))

order_safe : (q : Procedure) (p : List ℕ) (h : Head) (o : Order) → order_of q p h ≡ Ok o → SafeOrder o
order_safe ResetList p h o e = sized_safe 1 p (clear_order (get_or p 0 0)) o (clear_safe (get_or p 0 0) o) e
order_safe UpdateLastRead p h o e = sized_safe 3 p (acknowledge_order (log_numbered (get_or p 0 0)) (word 2 1 p) h) o (acknowledge_safe (log_numbered (get_or p 0 0)) (word 2 1 p) h o) e
order_safe SetDateTime p h o e = sized_safe 6 p (clock_order (second_if_real (of_bytes p))) o (second_safe (of_bytes p) o) e
order_safe ActivateAll p h o e = sized_safe 0 p (Ok (activate all_tables)) o (plain_safe (activate all_tables) o (omega arith)) e
order_safe ActivateOne p h o e = sized_safe 2 p (row_order activate (table_of (word 2 0 p)) h) o (row_safe activate (table_of (word 2 0 p)) h o (λ t. omega arith)) e
order_safe WithdrawAll p h o e = sized_safe 0 p (Ok (withdraw all_tables)) o (plain_safe (withdraw all_tables) o tt) e
order_safe WithdrawOne p h o e = sized_safe 2 p (row_order withdraw (table_of (word 2 0 p)) h) o (row_safe withdraw (table_of (word 2 0 p)) h o (λ t. tt)) e
order_safe TakeSelfRead p h o e = sized_safe 0 p (Ok read_self) o (plain_safe read_self o tt) e

ordered_safe : (q : Option Procedure) (p : List ℕ) (h : Head) (o : Order) → ordered q p h ≡ Ok o → SafeOrder o
ordered_safe None p h o e = absurd (never (sym e))
ordered_safe (Some q) p h o e = order_safe q p h o e

pub called_safe : (bytes : List ℕ) (h : Head) (o : Order) → called bytes h ≡ Ok o → SafeOrder o
called_safe bytes h o e = ordered_safe (procedure_numbered (called_number bytes)) (called_parameters bytes) h o e
