-- A step that changes anything records something: so a tick that recorded nothing changed nothing.
use Rattle.std.proofs.Common.{◌≡◌, ℕ, ◌%◌, Bool, true, false, eqb, List, [], ◌∷◌, ◌++◌, refl, ap, ◌∙◌, append_assoc}
use Rattle.std.proofs.lemmas.Bool.{cond_both}
use Rattle.records.specs.declared.event.Event.{Event}
use Rattle.records.specs.declared.event.Event.TheVariants.{PendingActivated}
use Rattle.pending.specs.declared.row.Row.{Row}
use Rattle.pending.specs.declared.row.Row.TheVariants.{Empty, Waiting}
use Rattle.pending.specs.declared.table.PendingTable.{PendingTable}
use Rattle.pending.specs.declared.table.PendingTable.TheVariants.{Calendar, Outputs, Override}
use Rattle.pending.specs.Rows.{is_due}
use Rattle.pending.specs.Tables.{table_number}
use Rattle.model.specs.States.{Going, Recorded, event, row_of, on_head, on_blocks}
use Rattle.model.specs.Steps.{entered, event_at, noted, self_read_taken, interval_taken, read_first, brought_in, row_spent, took_force, activated, activated_if, time_changed}
use Rattle.model.specs.Calls.{ticked, scheduled_read, interval_read}
use Rattle.model.specs.Tables.{current_table}
use Rattle.model.specs.Tariffs.{is_scheduled}

pub data Grown (g h : Going) : Type 0 where
  unchanged : h ≡ g → Grown g h
  grew : (x : Recorded) (xs : List Recorded) → h.entries ≡ g.entries ++ x ∷ xs → Grown g h

grown_on : (a b c : Going) → Grown a b → Grown b c → Grown a c
grown_on a b c (unchanged p) (unchanged q) = unchanged (q ∙ p)
grown_on a b c (unchanged p) (grew y ys q) = grew y ys (q ∙ ap (λ (g : Going). g.entries ++ y ∷ ys) p)
grown_on a b c (grew x xs p) (unchanged q) = grew x xs (ap (λ (g : Going). g.entries) q ∙ p)
grown_on a b c (grew x xs p) (grew y ys q) = grew x (xs ++ y ∷ ys) (q ∙ ap (λ es. es ++ y ∷ ys) p ∙ append_assoc a.entries (x ∷ xs) (y ∷ ys))

noted_entries : (clock : ℕ) (e : Event) (g : Going) → (noted clock e g).entries ≡ g.entries ++ event (event_at clock e) ∷ []
unfolding noted entered
noted_entries clock e g = refl

self_read_grown : (clock : ℕ) (g : Going) → Grown g (self_read_taken clock g)
unfolding self_read_taken noted entered
self_read_grown clock g = grew _ _ (append_assoc g.entries _ _)

interval_grown : (clock : ℕ) (g : Going) → Grown g (interval_taken clock g)
unfolding interval_taken entered
interval_grown clock g = grew _ _ refl

first_grown : (flag : Bool) (clock : ℕ) (g : Going) → Grown g (read_first flag clock g)
first_grown true clock g = self_read_grown clock g
first_grown false clock g = unchanged refl

-- what is done between two recordings need not be told
noted_after : (clock : ℕ) (e : Event) (a b c : Going) → c.entries ≡ b.entries → Grown a b → Grown a (noted clock e c)
noted_after clock e a b c same (unchanged p) = grew _ _ (noted_entries clock e c ∙ ap (λ es. es ++ event (event_at clock e) ∷ []) (same ∙ ap (λ (g : Going). g.entries) p))
noted_after clock e a b c same (grew x xs p) =
    grew x (xs ++ event (event_at clock e) ∷ []) (noted_entries clock e c ∙ ap (λ es. es ++ event (event_at clock e) ∷ []) (same ∙ p) ∙ append_assoc a.entries (x ∷ xs) _)

force_grown : (t : PendingTable) (clock : ℕ) (row : Row) (g : Going) → Grown g (took_force t clock row g)
force_grown t clock Empty g = unchanged refl
force_grown t clock (Waiting plan due) g =
    noted_after clock (PendingActivated (table_number t)) g (read_first plan.self_read clock g) (on_head (row_spent t clock) (on_blocks (brought_in t) (read_first plan.self_read clock g))) refl
    (first_grown plan.self_read clock g)

if_grown : (test : Row → Bool) (clock : ℕ) (t : PendingTable) (g : Going) → Grown g (activated_if test clock t g)
unfolding activated
if_grown test clock t g =
    cond_both (test (row_of t g.head)) (took_force t clock (row_of t g.head) g) g (λ (x : Going). Grown g x) (λ _. force_grown t clock (row_of t g.head) g) (λ _. unchanged refl)

time_grown : (clock : ℕ) (g : Going) → Grown g (time_changed clock g)
unfolding time_changed
time_grown clock g =
    let test : Row → Bool = λ row. is_due row clock in
    let a = activated_if test clock Calendar g in
    let b = activated_if test clock Outputs a in
    grown_on g b (activated_if test clock Override b) (grown_on g a b (if_grown test clock Calendar g) (if_grown test clock Outputs a)) (if_grown test clock Override b)

pub tick_grown : (s : ℕ) (g : Going) → Grown g (ticked s g)
unfolding ticked
tick_grown s g =
    let a = time_changed s g in
    let b = scheduled_read s a in
    let read : Grown a b = cond_both (is_scheduled (current_table Calendar a.blocks) s) (self_read_taken s a) a (λ (x : Going). Grown a x) (λ _. self_read_grown s a) (λ _. unchanged refl) in
    let last : Grown b (interval_read s b) = cond_both (eqb (s % 900) 0) (interval_taken s b) b (λ (x : Going). Grown b x) (λ _. interval_grown s b) (λ _. unchanged refl) in
    grown_on g b (interval_read s b) (grown_on g a b (time_grown s g) read) last
