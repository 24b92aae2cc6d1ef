-- What a step does hangs on the head and the blocks alone, not on the entries recorded before it.
use Rattle.std.proofs.Common.{◌≡◌, ℕ, zero, suc, ◌+◌, ◌%◌, ◌<◌, Bool, true, false, cond, ◌||◌, eqb, List, [], ◌∷◌, ◌++◌, get_or, take, sym, refl, ap, subst, ◌∙◌, append_assoc, append-nil, arith}
use Rattle.memory.specs.Blocks.{Block}
use Rattle.records.specs.declared.event.Event.{Event}
use Rattle.records.specs.declared.event.Event.TheVariants.{PowerUp, PendingActivated}
use Rattle.pending.specs.declared.row.Row.{Row}
use Rattle.pending.specs.declared.row.Row.TheVariants.{Empty, Waiting}
use Rattle.pending.specs.declared.table.PendingTable.{PendingTable}
use Rattle.pending.specs.declared.table.PendingTable.TheVariants.{Calendar, Outputs, Override}
use Rattle.pending.specs.Rows.{is_due}
use Rattle.pending.specs.Tables.{table_number, all_tables}
use Rattle.head.specs.declared.head.Head.{Head}
use Rattle.model.specs.States.{Going, Recorded, row_of, on_head, on_blocks}
use Rattle.model.specs.Steps.{entered, noted, self_read_taken, interval_taken, read_first, brought_in, row_spent, took_force, activated, activated_if, each_activated, time_changed}
use Rattle.model.specs.Calls.{scheduled_read, interval_read, ticked, mark_started, power_up}
use Rattle.model.specs.Tables.{current_table}
use Rattle.model.specs.Tariffs.{is_scheduled}
use Rattle.steps.specs.Work.{State, going, after, any_of, Did, forced}

-- the same with entries recorded before
abbrev pub told : List Recorded → Going → Going
told es g = record { head = g.head; blocks = g.blocks; entries = es ++ g.entries }

abbrev pub Steady : (Going → Going) → Type 0
Steady f = (es : List Recorded) (g : Going) → f (told es g) ≡ told es (f g)

pub both_steady : (f k : Going → Going) → Steady f → Steady k → Steady (λ g. k (f g))
both_steady f k sf sk es g = ap k (sf es g) ∙ sk es (f g)

pub if_steady : (test : Going → Bool) (f : Going → Going) → ((es : List Recorded) (g : Going) → test (told es g) ≡ test g) → Steady f → Steady (λ g. cond (test g) (f g) g)
if_steady test f same sf es g = go (test g) (same es g)
  where
    go : (b : Bool) → test (told es g) ≡ b → cond (test (told es g)) (f (told es g)) (told es g) ≡ told es (cond b (f g) g)
    go true e = rw e (sf es g)
    go false e = rw e refl

put_in : Head → List Block → List Recorded → Going
put_in h bs es = record { head = h; blocks = bs; entries = es }

two_more : (es xs a b : List Recorded) → ((es ++ xs) ++ a) ++ b ≡ es ++ ((xs ++ a) ++ b)
two_more es xs a b = simp append_assoc

pub noted_steady : (clock : ℕ) (e : Event) → Steady (noted clock e)
unfolding noted entered put_in
noted_steady clock e es g = ap (put_in _ _) (append_assoc es g.entries _)

pub self_read_steady : (clock : ℕ) → Steady (self_read_taken clock)
unfolding self_read_taken noted entered put_in
self_read_steady clock es g = ap (put_in _ _) (two_more es g.entries _ _)

pub interval_steady : (clock : ℕ) → Steady (interval_taken clock)
unfolding interval_taken entered put_in
interval_steady clock es g = ap (put_in _ _) (append_assoc es g.entries _)

pub read_first_steady : (flag : Bool) (clock : ℕ) → Steady (read_first flag clock)
read_first_steady true clock es g = self_read_steady clock es g
read_first_steady false clock es g = refl

force_steady : (t : PendingTable) (clock : ℕ) (row : Row) → Steady (took_force t clock row)
force_steady t clock Empty es g = refl
force_steady t clock (Waiting plan due) es g =
    both_steady (λ x. on_head (row_spent t clock) (on_blocks (brought_in t) (read_first plan.self_read clock x))) (noted clock (PendingActivated (table_number t)))
    (λ fs x. ap (λ y. on_head (row_spent t clock) (on_blocks (brought_in t) y)) (read_first_steady plan.self_read clock fs x))
    (noted_steady clock (PendingActivated (table_number t)))
    es g

pub activated_steady : (clock : ℕ) (t : PendingTable) → Steady (activated clock t)
unfolding activated
activated_steady clock t es g = force_steady t clock (row_of t g.head) es g

pub activated_if_steady : (test : Row → Bool) (clock : ℕ) (t : PendingTable) → Steady (activated_if test clock t)
activated_if_steady test clock t = if_steady (λ g. test (row_of t g.head)) (activated clock t) (λ es g. refl) (activated_steady clock t)

pub each_steady : (test : Row → Bool) (clock : ℕ) (ts : List PendingTable) → Steady (each_activated test clock ts)
each_steady test clock [] es g = refl
each_steady test clock (t ∷ ts) es g =
    both_steady (activated_if test clock t) (each_activated test clock ts) (activated_if_steady test clock t) (each_steady test clock ts) es g

pub time_steady : (clock : ℕ) → Steady (time_changed clock)
unfolding time_changed
time_steady clock = each_steady (λ row. is_due row clock) clock (Calendar ∷ Outputs ∷ Override ∷ [])

pub scheduled_steady : (s : ℕ) → Steady (scheduled_read s)
scheduled_steady s = if_steady (λ g. is_scheduled (current_table Calendar g.blocks) s) (self_read_taken s) (λ es g. refl) (self_read_steady s)

pub interval_read_steady : (s : ℕ) → Steady (interval_read s)
interval_read_steady s = if_steady (λ g. eqb (s % 900) 0) (interval_taken s) (λ es g. refl) (interval_steady s)

any_more : (xs ys : List Recorded) → (any_of xs || any_of ys) ≡ any_of (xs ++ ys)
any_more [] ys = refl
any_more (x ∷ xs) ys = refl

-- a step goes on from the head and the blocks alone
going_on : (f k : Going → Going) → Steady k → (s : State) → k (f (going s)) ≡ told (f (going s)).entries (k (going (after f s)))
going_on f k steady s =
    let start : told (f (going s)).entries (going (after f s)) ≡ f (going s) = rw (append-nil (f (going s)).entries) refl in
    sym (ap k start) ∙ steady (f (going s)).entries (going (after f s))

-- one step after another
pub after_both : (f k : Going → Going) → Steady k → (s : State) → after k (after f s) ≡ after (λ g. k (f g)) s
after_both f k steady s = ap (λ (g : Going). record { clock = s.clock; head = g.head; blocks = g.blocks; loan = s.loan }) (sym (going_on f k steady s))

pub did_both : (f k : Going → Going) → Steady k → {a b c : State} {some some' : Bool} → Did f a some b → Did k b some' c → Did (λ g. k (f g)) a (some || some') c
did_both f k steady {a} {b} {c} {some} {some'} first second = record {
  state = second.state ∙ ap (after k) first.state ∙ after_both f k steady a;
  any = rw (first.any, second.any, first.state) (any_more (f (going a)).entries (k (going (after f a))).entries ∙ sym (ap (λ (g : Going). any_of g.entries) (going_on f k steady a)));
}

-- a table takes force in four steps
pub forced_on : (t : PendingTable) (flag : Bool) (s : State) {a b c d : State} → a ≡ after (read_first flag s.clock) s → b ≡ after (on_blocks (brought_in t)) a → c ≡ after (on_head (row_spent t b.clock)) b → d ≡ after (noted c.clock (PendingActivated (table_number t))) c → d ≡ after (forced t s.clock flag) s
forced_on t flag s one two three four =
    let spent = λ (g : Going). on_head (row_spent t s.clock) (on_blocks (brought_in t) (read_first flag s.clock g)) in
    rw (four, three, two, one) (after_both spent (noted s.clock (PendingActivated (table_number t))) (noted_steady s.clock (PendingActivated (table_number t))) s)

-- a table takes force if a test of its row holds, and nothing happens if not
did_same : (f k : Going → Going) (s : State) {s' : State} {some : Bool} → f (going s) ≡ k (going s) → Did f s some s' → Did k s some s'
did_same f k s same did = record {
  state = did.state ∙ ap (λ (g : Going). record { clock = s.clock; head = g.head; blocks = g.blocks; loan = s.loan }) same;
  any = did.any ∙ ap (λ (g : Going). any_of g.entries) same;
}

pub did_chosen : (test : Row → Bool) (t : PendingTable) (a : State) {b : State} {some : Bool} → test (row_of t a.head) ≡ true → Did (activated a.clock t) a some b → Did (activated_if test a.clock t) a some b
did_chosen test t a holds did =
    did_same (activated a.clock t) (activated_if test a.clock t) a (ap (λ b. cond b (activated a.clock t (going a)) (going a)) (sym holds)) did

pub did_passed : (test : Row → Bool) (t : PendingTable) (a : State) → test (row_of t a.head) ≡ false → Did (activated_if test a.clock t) a false a
did_passed test t a fails =
    did_same (λ g. g) (activated_if test a.clock t) a (ap (λ b. cond b (activated a.clock t (going a)) (going a)) (sym fails)) (record { state = refl; any = refl })

-- one more of the three tables
did_next : (test : Row → Bool) (ts : List PendingTable) (t : PendingTable) (s : State) {a b : State} {some some' : Bool} → Did (each_activated test s.clock ts) s some a → Did (activated_if test a.clock t) a some' b → Did (λ g. activated_if test s.clock t (each_activated test s.clock ts g)) s (some || some') b
did_next test ts t s {a} {b} {some} {some'} first second =
    let clock : a.clock ≡ s.clock = ap (λ (x : State). x.clock) first.state in
    let then : Did (activated_if test s.clock t) a some' b = subst (λ c. Did (activated_if test c t) a some' b) clock second in
    did_both (each_activated test s.clock ts) (activated_if test s.clock t) (activated_if_steady test s.clock t) first then

pub did_more : (test : Row → Bool) (i : ℕ) (d : PendingTable) (s : State) {a b : State} {some some' : Bool} → i < 3 → Did (each_activated test s.clock (take i all_tables)) s some a → Did (activated_if test a.clock (get_or all_tables i d)) a some' b → Did (each_activated test s.clock (take (i + 1) all_tables)) s (some || some') b
did_more test zero d s h first second = did_next test [] Calendar s first second
did_more test (suc zero) d s h first second = did_next test (Calendar ∷ []) Outputs s first second
did_more test (suc (suc zero)) d s h first second = did_next test (Calendar ∷ Outputs ∷ []) Override s first second
did_more test (suc (suc (suc i))) d s h first second = absurd (omega arith)

pub did_quiet : (step : Going → Going) (s : State) {s' : State} (some : Bool) → Did step s (some || false) s' → Did step s some s'
did_quiet step s true did = did
did_quiet step s false did = did

-- a tick and a start
pub ticked_on : (s : State) {a b c : State} {some some' some'' : Bool} → Did (time_changed s.clock) s some a → Did (scheduled_read a.clock) a some' b → Did (interval_read b.clock) b some'' c → Did (ticked s.clock) s ((some || some') || some'') c
unfolding ticked
ticked_on s {a} {b} {c} {some} {some'} {some''} one two three =
    let at_a : a.clock ≡ s.clock = ap (λ (x : State). x.clock) one.state in
    let at_b : b.clock ≡ s.clock = ap (λ (x : State). x.clock) two.state ∙ at_a in
    let read : Did (scheduled_read s.clock) a some' b = subst (λ k. Did (scheduled_read k) a some' b) at_a two in
    let ended : Did (interval_read s.clock) b some'' c = subst (λ k. Did (interval_read k) b some'' c) at_b three in
    did_both (λ g. scheduled_read s.clock (time_changed s.clock g)) (interval_read s.clock) (interval_read_steady s.clock)
    (did_both (time_changed s.clock) (scheduled_read s.clock) (scheduled_steady s.clock) one read) ended

pub powered_on : (s : State) {a b c : State} → a ≡ after (on_head mark_started) s → b ≡ after (noted a.clock PowerUp) a → c ≡ after (time_changed b.clock) b → c ≡ after (power_up s.clock) s
unfolding power_up
powered_on s one two three = rw (three, two, one) (after_both (λ g. noted s.clock PowerUp (on_head mark_started g)) (time_changed s.clock) (time_steady s.clock) s)
