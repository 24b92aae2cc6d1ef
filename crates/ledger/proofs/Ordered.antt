-- What a procedure ordered, from its number and its parameters.
use Rattle.std.proofs.Common.{◌≡◌, ℕ, ◌<◌, ◌≤◌, Bool, true, false, cond, ◌||◌, eqb, ltb, List, [], ◌∷◌, ◌++◌, length, get_or, drop, Some, None, Ok, Err, Option, Result, sym, refl, ap, arith}
use Rattle.std.proofs.lemmas.List.{append-nil}
use Rattle.std.proofs.lemmas.Bool.{eqb-true, ltb-false}
use Rattle.calendar.specs.Calendar.{seconds_in_all, second_if_real, second_of, date_of, is_real, of_bytes}
use Rattle.calendar.proofs.Whole.{in_range}
use Rattle.fields.specs.Words.{word}
use Rattle.numbers.specs.declared.log.LogName.{LogName}
use Rattle.numbers.specs.declared.log.LogName.TheVariants.{History, SelfReads, LoadProfile}
use Rattle.numbers.specs.declared.procedure.Procedure.{Procedure}
use Rattle.numbers.specs.declared.procedure.Procedure.TheVariants.{ResetList, UpdateLastRead, SetDateTime, ActivateAll, ActivateOne, WithdrawAll, WithdrawOne, TakeSelfRead}
use Rattle.numbers.specs.declared.procedure.ProcedureResult.{ProcedureResult}
use Rattle.numbers.specs.declared.procedure.ProcedureResult.TheVariants.{InvalidParameter, Conflict}
use Rattle.numbers.specs.Names.{log_number, log_numbered, procedure_number, procedure_numbered, procedures}
use Rattle.logs.specs.Deeds.{Deed, acknowledging, clearing}
use Rattle.pending.specs.declared.table.PendingTable.{PendingTable}
use Rattle.pending.specs.declared.table.PendingTable.TheVariants.{Calendar, Outputs, Override}
use Rattle.pending.specs.Rows.{is_waiting}
use Rattle.pending.specs.Tables.{table_number, first_with, table_of, all_tables}
use Rattle.pending.proofs.RowSeconds.{real}
use Rattle.head.specs.declared.head.Head.{Head}
use Rattle.model.specs.States.{row_of, log_of}
use Rattle.model.specs.Calls.{log_names}
use Rattle.model.specs.Procedures.{Order, clear, acknowledge, set_clock, activate, withdraw, read_self, sized, clear_one, clear_order, acknowledge_order, clock_order, row_order, order_of, ordered, called, called_number, called_parameters}
use Rattle.model.specs.Procedures as procedure
use Rattle.model.proofs.Outcomes.{never, missing, ok_same}
use Rattle.records.specs.declared.event.Event.TheVariants.{TimeChanged}
use Rattle.pending.specs.declared.trigger.Due.{Due}
use Rattle.fates.specs.Stagings.{Happening, Account, any_due, due_by, withdrew_all, withdrew, activated_all, activated, time_changed}
use Rattle.ledger.specs.Meanings as meaning
use Rattle.ledger.specs.Meanings.{clock_after, happened, asked_of}
use Rattle.ledger.specs.Ledger.{Ledger}
use Rattle.ledger.specs.Entries.{Outline, event, reading, activations_in, all_activations, joined, procedure_brings}
use Rattle.ledger.proofs.Asked.{found_by_number, named_table}

pub data Ordered (h : Head) (p : List ℕ) : ℕ → Order → Type 0 where
  clears_one : (name : LogName) → get_or p 0 0 ≡ log_number name → Ordered h p 4 (clear (name ∷ []))
  clears_all : get_or p 0 0 ≡ 255 → Ordered h p 4 (clear log_names)
  acknowledges : (name : LogName) → get_or p 0 0 ≡ log_number name → word 2 1 p ≤ (log_of name h).unread → Ordered h p 5 (acknowledge name (word 2 1 p))
  sets : second_of (of_bytes p) < seconds_in_all → Ordered h p 10 (set_clock (second_of (of_bytes p)))
  activates_all : Ordered h p 12 (activate all_tables)
  activates_one : (t : PendingTable) → word 2 0 p ≡ table_number t → is_waiting (row_of t h) ≡ true → Ordered h p 13 (activate (t ∷ []))
  withdraws_all : Ordered h p 14 (withdraw all_tables)
  withdraws_one : (t : PendingTable) → word 2 0 p ≡ table_number t → is_waiting (row_of t h) ≡ true → Ordered h p 15 (withdraw (t ∷ []))
  reads_self : Ordered h p 20 read_self

-- an order that is given is that order
given : (P : Order → Type 0) (x o : Order) → P x → ◌≡◌ {A = Result Order ProcedureResult} (Ok x) (Ok o) → P o
given P x o y h = let same : x ≡ o = ok_same h in rw (← same) y

in_size : (P : Order → Type 0) (n : ℕ) (p : List ℕ) (r : Result Order ProcedureResult) (o : Order) → (r ≡ Ok o → P o) → sized n p r ≡ Ok o → P o
in_size P n p r o then h = go (eqb (length p) n) h
  where
    go : (b : Bool) → cond b r (Err InvalidParameter) ≡ Ok o → P o
    go true e = then e
    go false e = absurd (never (sym e))

log_found : (n : ℕ) (name : LogName) → log_numbered n ≡ Some name → n ≡ log_number name
log_found n name h = found_by_number log_number n (History ∷ SelfReads ∷ LoadProfile ∷ []) name h

table_found : (n : ℕ) (ts : List PendingTable) (t : PendingTable) → first_with n ts ≡ Some t → n ≡ table_number t
table_found n [] t h = absurd (missing (sym h))
table_found n (u ∷ us) t h = go (eqb n (table_number u)) refl h (table_found n us t)
  where
    go : (b : Bool) → eqb n (table_number u) ≡ b → cond b (Some u) (first_with n us) ≡ Some t → (first_with n us ≡ Some t → n ≡ table_number t) → n ≡ table_number t
    go true e k rest = let same : u ≡ t = cc in rw (← same) (eqb-true n (table_number u) e)
    go false e k rest = rest k

clear_one_ordered : (h : Head) (p : List ℕ) (l : Option LogName) (o : Order) → log_numbered (get_or p 0 0) ≡ l → clear_one l ≡ Ok o → Ordered h p 4 o
clear_one_ordered h p None o e k = absurd (never (sym k))
clear_one_ordered h p (Some name) o e k = given (λ o. Ordered h p 4 o) (clear (name ∷ [])) o (clears_one name (log_found (get_or p 0 0) name e)) k

clear_ordered : (h : Head) (p : List ℕ) (o : Order) → clear_order (get_or p 0 0) ≡ Ok o → Ordered h p 4 o
clear_ordered h p o e = go (eqb (get_or p 0 0) 255) refl e
  where
    go : (b : Bool) → eqb (get_or p 0 0) 255 ≡ b → cond b (Ok (clear log_names)) (clear_one (log_numbered (get_or p 0 0))) ≡ Ok o → Ordered h p 4 o
    go true t k = given (λ o. Ordered h p 4 o) (clear log_names) o (clears_all (eqb-true (get_or p 0 0) 255 t)) k
    go false t k = clear_one_ordered h p (log_numbered (get_or p 0 0)) o refl k

acknowledge_ordered : (h : Head) (p : List ℕ) (l : Option LogName) (o : Order) → log_numbered (get_or p 0 0) ≡ l → acknowledge_order l (word 2 1 p) h ≡ Ok o → Ordered h p 5 o
acknowledge_ordered h p None o e k = absurd (never (sym k))
acknowledge_ordered h p (Some name) o e k = go (ltb (log_of name h).unread (word 2 1 p)) refl k
  where
    go : (b : Bool) → ltb (log_of name h).unread (word 2 1 p) ≡ b → cond b (Err InvalidParameter) (Ok (acknowledge name (word 2 1 p))) ≡ Ok o → Ordered h p 5 o
    go true t g = absurd (never (sym g))
    go false t g =
        given (λ o. Ordered h p 5 o) (acknowledge name (word 2 1 p)) o
        (acknowledges name (log_found (get_or p 0 0) name e) (ltb-false (log_of name h).unread (word 2 1 p) t)) g

clock_ordered : (h : Head) (p : List ℕ) (o : Order) → clock_order (second_if_real (of_bytes p)) ≡ Ok o → Ordered h p 10 o
clock_ordered h p o e = go (is_real (of_bytes p)) refl e
  where
    go : (b : Bool) → is_real (of_bytes p) ≡ b → clock_order (cond b (Some (second_of (of_bytes p))) None) ≡ Ok o → Ordered h p 10 o
    go true t k = given (λ o. Ordered h p 10 o) (set_clock (second_of (of_bytes p))) o (sets (in_range (of_bytes p) (real (of_bytes p) t))) k
    go false t k = absurd (never (sym k))

row_ordered_lem : (h : Head) (p : List ℕ) (n : ℕ) (order : List PendingTable → Order) (t : Option PendingTable) (o : Order) →
    ((u : PendingTable) → word 2 0 p ≡ table_number u → is_waiting (row_of u h) ≡ true → Ordered h p n (order (u ∷ []))) →
    table_of (word 2 0 p) ≡ t → row_order order t h ≡ Ok o → Ordered h p n o
row_ordered_lem h p n order None o makes e k = absurd (never (sym k))
row_ordered_lem h p n order (Some t) o makes e k = go (is_waiting (row_of t h)) refl k
  where
    go : (b : Bool) → is_waiting (row_of t h) ≡ b → cond b (Ok (order (t ∷ []))) (Err Conflict) ≡ Ok o → Ordered h p n o
    go true w g = given (λ o. Ordered h p n o) (order (t ∷ [])) o (makes t (table_found (word 2 0 p) all_tables t e) w) g
    go false w g = absurd (never (sym g))

procedure_ordered : (q : Procedure) (p : List ℕ) (h : Head) (o : Order) → order_of q p h ≡ Ok o → Ordered h p (procedure_number q) o
procedure_ordered ResetList p h o e = in_size (λ o. Ordered h p 4 o) 1 p (clear_order (get_or p 0 0)) o (clear_ordered h p o) e
procedure_ordered UpdateLastRead p h o e =
    in_size (λ o. Ordered h p 5 o) 3 p (acknowledge_order (log_numbered (get_or p 0 0)) (word 2 1 p) h) o (acknowledge_ordered h p (log_numbered (get_or p 0 0)) o refl) e
procedure_ordered SetDateTime p h o e = in_size (λ o. Ordered h p 10 o) 6 p (clock_order (second_if_real (of_bytes p))) o (clock_ordered h p o) e
procedure_ordered ActivateAll p h o e = in_size (λ o. Ordered h p 12 o) 0 p (Ok (activate all_tables)) o (given (λ o. Ordered h p 12 o) (activate all_tables) o activates_all) e
procedure_ordered ActivateOne p h o e =
    in_size (λ o. Ordered h p 13 o) 2 p (row_order activate (table_of (word 2 0 p)) h) o (row_ordered_lem h p 13 activate (table_of (word 2 0 p)) o activates_one refl) e
procedure_ordered WithdrawAll p h o e = in_size (λ o. Ordered h p 14 o) 0 p (Ok (withdraw all_tables)) o (given (λ o. Ordered h p 14 o) (withdraw all_tables) o withdraws_all) e
procedure_ordered WithdrawOne p h o e =
    in_size (λ o. Ordered h p 15 o) 2 p (row_order withdraw (table_of (word 2 0 p)) h) o (row_ordered_lem h p 15 withdraw (table_of (word 2 0 p)) o withdraws_one refl) e
procedure_ordered TakeSelfRead p h o e = in_size (λ o. Ordered h p 20 o) 0 p (Ok read_self) o (given (λ o. Ordered h p 20 o) read_self o reads_self) e

any_ordered : (n : ℕ) (q : Option Procedure) (p : List ℕ) (h : Head) (o : Order) → procedure_numbered n ≡ q → ordered q p h ≡ Ok o → Ordered h p n o
any_ordered n None p h o e k = absurd (never (sym k))
any_ordered n (Some q) p h o e k = let same : n ≡ procedure_number q = found_by_number procedure_number n procedures q e in rw same (procedure_ordered q p h o k)

pub is_ordered : (x : List ℕ) (h : Head) (o : Order) → called x h ≡ Ok o → Ordered h (drop 3 x) (called_number x) o
is_ordered x h o e = any_ordered (called_number x) (procedure_numbered (called_number x)) (called_parameters x) h o refl e

pub ordered_number : {h : Head} {p : List ℕ} {n : ℕ} {o : Order} → Ordered h p n o → n < 65536
ordered_number (clears_one name e) = omega arith
ordered_number (clears_all e) = omega arith
ordered_number (acknowledges name e few) = omega arith
ordered_number (sets real) = omega arith
ordered_number activates_all = omega arith
ordered_number (activates_one t e w) = omega arith
ordered_number withdraws_all = omega arith
ordered_number (withdraws_one t e w) = omega arith
ordered_number reads_self = omega arith

pub ordered_clock : {h : Head} {p : List ℕ} {n : ℕ} {o : Order} (clock : ℕ) → Ordered h p n o → clock_after clock (meaning.called n p) ≡ procedure.clock_after clock o
ordered_clock clock (clears_one name e) = refl
ordered_clock clock (clears_all e) = refl
ordered_clock clock (acknowledges name e few) = refl
ordered_clock clock (sets real) = refl
ordered_clock clock activates_all = refl
ordered_clock clock (activates_one t e w) = refl
ordered_clock clock withdraws_all = refl
ordered_clock clock (withdraws_one t e w) = refl
ordered_clock clock reads_self = refl

-- what an order is to the stagings
abbrev pub order_happens : {h : Head} {p : List ℕ} {n : ℕ} {o : Order} → Ordered h p n o → List Happening
order_happens (clears_one name e) = []
order_happens (clears_all e) = []
order_happens (acknowledges name e few) = []
order_happens {p = p} (sets real) = time_changed (second_of (of_bytes p)) ∷ []
order_happens activates_all = activated_all ∷ []
order_happens (activates_one t e w) = activated t ∷ []
order_happens withdraws_all = withdrew_all ∷ []
order_happens (withdraws_one t e w) = withdrew t ∷ []
order_happens reads_self = []

pub ordered_happens : {h : Head} {p : List ℕ} {n : ℕ} {o : Order} (clock : ℕ) (x : Ordered h p n o) → happened clock (meaning.called n p) ≡ order_happens x
ordered_happens clock (clears_one name e) = refl
ordered_happens clock (clears_all e) = refl
ordered_happens clock (acknowledges name e few) = refl
ordered_happens clock (sets real) = refl
ordered_happens clock activates_all = refl
ordered_happens {p = p} clock (activates_one t e w) = named_table (word 2 0 p) t activated e
ordered_happens clock withdraws_all = refl
ordered_happens {p = p} clock (withdraws_one t e w) = named_table (word 2 0 p) t withdrew e
ordered_happens clock reads_self = refl

-- what an order asks of a log
abbrev pub is_log : LogName → LogName → Bool
is_log name log = eqb (log_number name) (log_number log)

abbrev pub is_among : LogName → List LogName → Bool
is_among log [] = false
is_among log (name ∷ names) = is_log name log || is_among log names

abbrev pub order_asks : {R : Type 0} → LogName → Order → List (Deed R)
order_asks log (clear names) = cond (is_among log names) (clearing ∷ []) []
order_asks log (acknowledge name count) = cond (is_log name log) (acknowledging count ∷ []) []
order_asks log (set_clock second) = []
order_asks log (activate tables) = []
order_asks log (withdraw tables) = []
order_asks log read_self = []

no_log_255 : (name : LogName) → eqb (log_number name) 255 ≡ false
no_log_255 History = refl
no_log_255 SelfReads = refl
no_log_255 LoadProfile = refl

clear_asks : (R : Type 0) (log name : LogName) (p : List ℕ) → get_or p 0 0 ≡ log_number name → asked_of {R = R} (log_number log) (meaning.called 4 p) ≡ order_asks log (clear (name ∷ []))
clear_asks R log name p e = simp (e, no_log_255 name) (go (is_log name log))
  where
    go : (b : Bool) → ◌≡◌ {A = List (Deed R)} (cond b (clearing ∷ []) []) (cond (b || false) (clearing ∷ []) [])
    go true = refl
    go false = refl

clear_all_asks : (R : Type 0) (log : LogName) (p : List ℕ) → get_or p 0 0 ≡ 255 → asked_of {R = R} (log_number log) (meaning.called 4 p) ≡ order_asks log (clear log_names)
clear_all_asks R History p e = simp e
clear_all_asks R SelfReads p e = simp e
clear_all_asks R LoadProfile p e = simp e

pub ordered_asks : {h : Head} {p : List ℕ} {n : ℕ} {o : Order} (R : Type 0) (log : LogName) → Ordered h p n o → asked_of {R = R} (log_number log) (meaning.called n p) ≡ order_asks log o
ordered_asks {p = p} R log (clears_one name e) = clear_asks R log name p e
ordered_asks {p = p} R log (clears_all e) = clear_all_asks R log p e
ordered_asks R log (acknowledges name e few) = simp e
ordered_asks R log (sets real) = refl
ordered_asks R log activates_all = refl
ordered_asks R log (activates_one t e w) = refl
ordered_asks R log withdraws_all = refl
ordered_asks R log (withdraws_one t e w) = refl
ordered_asks R log reads_self = refl

-- what an order brings before the procedure's own event
abbrev pub activations_for : (Due → Bool) → ℕ → Account → List PendingTable → List Outline
activations_for test clock a [] = []
activations_for test clock a (t ∷ ts) = activations_in test clock a t ++ activations_for test clock a ts

abbrev pub order_brings : Ledger → Order → List Outline
order_brings l (clear names) = []
order_brings l (acknowledge name count) = []
order_brings l (set_clock second) = event (date_of second) TimeChanged ∷ activations_for (due_by second) second l.account all_tables
order_brings l (activate tables) = activations_for any_due l.clock l.account tables
order_brings l (withdraw tables) = []
order_brings l read_self = reading l.clock

pub all_activations_lem : (test : Due → Bool) (clock : ℕ) (a : Account) → all_activations test clock a ≡ activations_for test clock a all_tables
all_activations_lem test clock a =
    ap (λ xs. activations_in test clock a Calendar ++ (activations_in test clock a Outputs ++ xs)) (sym (append-nil (activations_in test clock a Override)))

pub one_activation : (test : Due → Bool) (clock : ℕ) (a : Account) (t : PendingTable) → activations_for test clock a (t ∷ []) ≡ activations_in test clock a t
one_activation test clock a t = append-nil (activations_in test clock a t)

pub ordered_brings : {h : Head} {p : List ℕ} {n : ℕ} {o : Order} (l : Ledger) → Ordered h p n o → procedure_brings l n p ≡ order_brings l o
ordered_brings l (clears_one name e) = refl
ordered_brings l (clears_all e) = refl
ordered_brings l (acknowledges name e few) = refl
ordered_brings {p = p} l (sets real) =
    ap (λ xs. event (date_of (second_of (of_bytes p))) TimeChanged ∷ xs) (all_activations_lem (due_by (second_of (of_bytes p))) (second_of (of_bytes p)) l.account)
ordered_brings l activates_all = all_activations_lem any_due l.clock l.account
ordered_brings {p = p} l (activates_one t e w) = ap joined (named_table (word 2 0 p) t (activations_in any_due l.clock l.account) e)
ordered_brings l withdraws_all = refl
ordered_brings l (withdraws_one t e w) = refl
ordered_brings l reads_self = refl
