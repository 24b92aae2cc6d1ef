-- Start, tick and energy on memories that are alike, and what each leaves of a memory's own.
use Rattle.std.proofs.Common.{◌≡◌, ℕ, ◌+◌, ◌%◌, ◌<◌, Bool, true, false, cond, eqb, List, [], ◌∷◌, ◌++◌, Ok, Err, Result, sym, refl, ap, ◌∙◌, subst, ap₂, arith}
use Rattle.access.specs.Ready.{ready_verdict}
use Rattle.calendar.specs.Calendar.{seconds_in_all}
use Rattle.memory.specs.Blocks.{Block}
use Rattle.records.specs.declared.event.Event.{Event}
use Rattle.refusals.specs.declared.fault.MeterFault.{MeterFault}
use Rattle.pending.specs.declared.row.Row.{Row}
use Rattle.pending.specs.declared.row.Row.TheVariants.{Empty, Waiting}
use Rattle.pending.specs.declared.table.PendingTable.{PendingTable}
use Rattle.pending.specs.declared.table.PendingTable.TheVariants.{Calendar}
use Rattle.pending.specs.Rows.{is_due}
use Rattle.pending.specs.Tables.{all_tables}
use Rattle.head.specs.Order.{WellFormed}
use Rattle.model.specs.States.{Meter, Going, Recorded, begun, row_of}
use Rattle.model.specs.Steps.{entered, noted, self_read_taken, interval_taken, took_force, activated, activated_if, each_activated, time_changed}
use Rattle.model.specs.Tables.{current_table}
use Rattle.model.specs.Tariffs.{is_scheduled}
use Rattle.model.specs.Calls.{or_else, of_memory, order_verdict, totals_verdict, image_verdict, second_verdict, start_verdict, power_up, started_if, started, tick_verdict, scheduled_read, interval_read, ticked, ended_if_any, tick_if, tick}
use Rattle.model.specs.Soundness.{SoundImage, SoundMeter}
use Rattle.model.proofs.Activating.{ticked_kept, power_kept}
use Rattle.model.proofs.StayingSound.{both_pass, in_time, begun_kept}
use Rattle.unseen.specs.Unseen.{Alike, AlikeMeters, AlikeStarts, AlikeDone, OwnKept, StagingKept}
use Rattle.unseen.proofs.Stepping.{Run, ticked_run, power_run}
use Rattle.unseen.proofs.Ending.{begun_run, ended_alike, ended_own, ready_same, totals_same, order_same}

-- what a call leaves of a memory's own
abbrev pub Left : List Block → List Block → Type 0
Left before after = OwnKept before after × ((t : PendingTable) → StagingKept before after t)

pub left_all : (bs : List Block) → Left bs bs
left_all bs = (record { utility = refl; current = λ t. refl; staging = λ t. refl; slots = λ name slot lt free. refl; logs = λ name k lt. refl; beyond = refl }, λ t. refl)

-- a sound memory is like itself
pub alike_self : (bs : List Block) → SoundImage bs → Alike bs bs
alike_self bs i = record { left = i; right = i; zero = refl; seen = record { utility = refl; current = λ t. refl; staged = λ t w. refl; slots = λ name slot lt held. refl } }

-- start
image_same : (a b : List Block) → Alike a b → image_verdict a ≡ image_verdict b
image_same a b alike = ap₂ or_else (ap of_memory (ready_same a b alike)) (ap₂ or_else (order_same a b alike) (totals_same a b alike))

power_formed : (a : List Block) (s : ℕ) → SoundImage a → start_verdict a s ≡ Ok tt → (s < seconds_in_all) × WellFormed (power_up s (begun a)).head
power_formed a s i h =
    let parts = both_pass (image_verdict a) (second_verdict s) h in
    let image = both_pass (of_memory (ready_verdict a)) (or_else (order_verdict a) (totals_verdict a)) parts.0 in
    let totals = both_pass (order_verdict a) (totals_verdict a) image.1 in
    let real = in_time s parts.1 in
    (real, (power_kept 0 s (begun a) real (omega arith) (begun_kept a i totals.1)).formed)

start_if : (a b : List Block) (s : ℕ) (v : Result (Unit {0}) MeterFault) → Alike a b → (v ≡ Ok tt → (s < seconds_in_all) × WellFormed (power_up s (begun a)).head) → AlikeStarts (started_if v s (begun a)) (started_if v s (begun b))
start_if a b s (Ok x) alike then =
    let run = power_run s (begun a) (begun b) (begun_run a b alike) in
    let after = ended_alike (power_up s (begun a)) (power_up s (begun b)) run (then refl).1 in
    record { answer = record { blocks = after; real = (then refl).0; clock = refl; response = refl }; blocks = after; entries = run.entries }
start_if a b s (Err e) alike then = record { answer = refl; blocks = alike; entries = refl }

pub start_alike : (a b : List Block) (s : ℕ) → Alike a b → AlikeStarts (started a s) (started b s)
start_alike a b s alike =
    subst (λ v. AlikeStarts (started a s) (started_if (or_else v (second_verdict s)) s (begun b))) (image_same a b alike)
    (start_if a b s (start_verdict a s) alike (power_formed a s alike.left))

start_left : (a : List Block) (s : ℕ) (v : Result (Unit {0}) MeterFault) → SoundImage a → (v ≡ Ok tt → (s < seconds_in_all) × WellFormed (power_up s (begun a)).head) → Left a (started_if v s (begun a)).blocks
start_left a s (Ok x) i then = ended_own a (power_up s (begun a)) (power_up s (begun a)) (power_run s (begun a) (begun a) (begun_run a a (alike_self a i))) (then refl).1
start_left a s (Err e) i then = left_all a

pub start_own : (a : List Block) (s : ℕ) → SoundImage a → Left a (started a s).blocks
start_own a s i = start_left a s (start_verdict a s) i (power_formed a s i)

-- a tick that records nothing has done nothing
abbrev Quiet : Going → Going → Type 0
Quiet g k = k.entries ≡ [] → k ≡ g

loud : {X : Type 0} (xs : List X) (x : X) → xs ++ x ∷ [] ≡ [] → ⊥
loud [] x e = let z : ◌≡◌ {A = ℕ} 0 1 = cc in omega arith
loud (y ∷ ys) x e = let z : ◌≡◌ {A = ℕ} 0 1 = cc in omega arith

noted_loud : (clock : ℕ) (e : Event) (g : Going) → (noted clock e g).entries ≡ [] → ⊥
unfolding noted entered
noted_loud clock e g h = loud g.entries _ h

read_loud : (clock : ℕ) (g : Going) → (self_read_taken clock g).entries ≡ [] → ⊥
unfolding self_read_taken
read_loud clock g h = noted_loud clock _ _ h

interval_loud : (clock : ℕ) (g : Going) → (interval_taken clock g).entries ≡ [] → ⊥
unfolding interval_taken entered
interval_loud clock g h = loud g.entries _ h

force_quiet : (t : PendingTable) (clock : ℕ) (row : Row) (g : Going) → Quiet g (took_force t clock row g)
force_quiet t clock Empty g h = refl
force_quiet t clock (Waiting plan due) g h = absurd (noted_loud clock _ _ h)

activated_quiet : (clock : ℕ) (t : PendingTable) (g : Going) → Quiet g (activated clock t g)
unfolding activated
activated_quiet clock t g h = force_quiet t clock (row_of t g.head) g h

either_quiet : (b : Bool) (g k : Going) → Quiet g k → Quiet g (cond b k g)
either_quiet true g k quiet h = quiet h
either_quiet false g k quiet h = refl

after_quiet : (f g k : Going) → Quiet f g → Quiet g k → Quiet f k
after_quiet f g k one two h = let same : k ≡ g = two h in same ∙ one (sym (ap (λ (x : Going). x.entries) same) ∙ h)

each_quiet : (test : Row → Bool) (clock : ℕ) (ts : List PendingTable) (g : Going) → Quiet g (each_activated test clock ts g)
each_quiet test clock [] g h = refl
each_quiet test clock (t ∷ ts) g h =
    after_quiet g (activated_if test clock t g) (each_activated test clock ts (activated_if test clock t g)) (either_quiet (test (row_of t g.head)) g (activated clock t g) (activated_quiet clock t g)) (each_quiet test clock ts (activated_if test clock t g)) h

ticked_quiet : (s : ℕ) (g : Going) → Quiet g (ticked s g)
unfolding ticked time_changed
ticked_quiet s g h =
    let a = time_changed s g in
    let b = scheduled_read s a in
    after_quiet g a (interval_read s b) (each_quiet (λ row. is_due row s) s all_tables g)
    (after_quiet a b (interval_read s b)
    (either_quiet (is_scheduled (current_table Calendar a.blocks) s) a (self_read_taken s a) (λ e. absurd (read_loud s a e)))
    (either_quiet (eqb (s % 900) 0) b (interval_taken s b) (λ e. absurd (interval_loud s b e)))) h

-- tick
tick_formed : (m : Meter) → SoundMeter m → tick_verdict m ≡ Ok tt → (m.clock + 1 < seconds_in_all) × WellFormed (ticked (m.clock + 1) (begun m.blocks)).head
tick_formed m good h =
    let parts = both_pass (of_memory (ready_verdict m.blocks)) (or_else (totals_verdict m.blocks) (second_verdict (m.clock + 1))) h in
    let more = both_pass (totals_verdict m.blocks) (second_verdict (m.clock + 1)) parts.1 in
    let real = in_time (m.clock + 1) more.1 in
    (real, (ticked_kept 0 (m.clock + 1) (begun m.blocks) real (omega arith) (begun_kept m.blocks good.image more.0)).formed)

tick_blocks : (a b : List Block) (g k : Going) (es : List Recorded) → Alike a b → Quiet (begun a) g → Quiet (begun b) k → g.entries ≡ es → k.entries ≡ es → Run a g k → WellFormed g.head →
    Alike (ended_if_any es g) (ended_if_any es k) × Left a (ended_if_any es g)
tick_blocks a b g k [] alike one two eg ek run formed =
    let x : g ≡ begun a = one eg in
    let y : k ≡ begun b = two ek in
    (subst (λ (z : Going). Alike g.blocks z.blocks) (sym y) (subst (λ (z : Going). Alike z.blocks b) (sym x) alike), subst (λ (z : Going). Left a z.blocks) (sym x) (left_all a))
tick_blocks a b g k (e ∷ es) alike one two eg ek run formed = (ended_alike g k run formed, ended_own a g k run formed)

tick_done : (a b : List Block) (s : ℕ) → Alike a b → WellFormed (ticked s (begun a)).head →
    Alike (ended_if_any (ticked s (begun a)).entries (ticked s (begun a))) (ended_if_any (ticked s (begun b)).entries (ticked s (begun b)))
    × Left a (ended_if_any (ticked s (begun a)).entries (ticked s (begun a)))
tick_done a b s alike formed =
    let g = ticked s (begun a) in
    let k = ticked s (begun b) in
    let run = ticked_run s (begun a) (begun b) (begun_run a b alike) in
    let both = tick_blocks a b g k g.entries alike (ticked_quiet s (begun a)) (ticked_quiet s (begun b)) refl (sym run.entries) run formed in
    (subst (λ es. Alike (ended_if_any g.entries g) (ended_if_any es k)) run.entries both.0, both.1)

tick_if_lem : (m : Meter) (b : List Block) (v : Result (Unit {0}) MeterFault) → Alike m.blocks b → m.clock < seconds_in_all → (v ≡ Ok tt → (m.clock + 1 < seconds_in_all) × WellFormed (ticked (m.clock + 1) (begun m.blocks)).head) →
    AlikeDone (tick_if v m (ticked (m.clock + 1) (begun m.blocks))) (tick_if v (record { blocks = b; clock = m.clock; response = m.response }) (ticked (m.clock + 1) (begun b)))
tick_if_lem m b (Ok x) alike real then = record {
  answer = refl;
  meter = record { blocks = (tick_done m.blocks b (m.clock + 1) alike (then refl).1).0; real = (then refl).0; clock = refl; response = refl };
  entries = (ticked_run (m.clock + 1) (begun m.blocks) (begun b) (begun_run m.blocks b alike)).entries;
}
tick_if_lem m b (Err e) alike real then = record { answer = refl; meter = record { blocks = alike; real = real; clock = refl; response = refl }; entries = refl }

tick_left : (m : Meter) (v : Result (Unit {0}) MeterFault) → SoundMeter m → (v ≡ Ok tt → (m.clock + 1 < seconds_in_all) × WellFormed (ticked (m.clock + 1) (begun m.blocks)).head) →
    Left m.blocks (tick_if v m (ticked (m.clock + 1) (begun m.blocks))).meter.blocks
tick_left m (Ok x) good then = (tick_done m.blocks m.blocks (m.clock + 1) (alike_self m.blocks good.image) (then refl).1).1
tick_left m (Err e) good then = left_all m.blocks

pub tick_own : (m : Meter) → SoundMeter m → Left m.blocks (tick m).meter.blocks
tick_own m good = tick_left m (tick_verdict m) good (tick_formed m good)

-- a meter that is like another has its clock and its response
pub beside_it : (P : Meter → Type 0) (m n : Meter) → AlikeMeters m n → P (record { blocks = n.blocks; clock = m.clock; response = m.response }) → P n
beside_it P m n alike p =
    subst (λ r. P (record { blocks = n.blocks; clock = n.clock; response = r })) alike.response
    (subst (λ c. P (record { blocks = n.blocks; clock = c; response = m.response })) alike.clock p)

tick_beside : (m : Meter) (b : List Block) → Alike m.blocks b → m.clock < seconds_in_all → AlikeDone (tick m) (tick (record { blocks = b; clock = m.clock; response = m.response }))
tick_beside m b alike real =
    let n : Meter = record { blocks = b; clock = m.clock; response = m.response } in
    let same : tick_verdict m ≡ tick_verdict n = ap₂ or_else (ap of_memory (ready_same m.blocks b alike)) (ap (λ v. or_else v (second_verdict (m.clock + 1))) (totals_same m.blocks b alike)) in
    subst (λ v. AlikeDone (tick m) (tick_if v n (ticked (m.clock + 1) (begun b)))) same (tick_if_lem m b (tick_verdict m) alike real (tick_formed m (record { image = alike.left; clock = real })))

pub tick_alike : (m n : Meter) → AlikeMeters m n → AlikeDone (tick m) (tick n)
tick_alike m n alike = beside_it (λ x. AlikeDone (tick m) (tick x)) m n alike (tick_beside m n.blocks alike.blocks alike.real)
