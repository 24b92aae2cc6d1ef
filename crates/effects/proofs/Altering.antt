-- Which blocks each step of a call leaves, and the head of the load profile with them.
use Rattle.std.proofs.Common.{◌≡◌, ℕ, ◌/◌, ◌%◌, Bool, true, false, eqb, ◌≢◌, List, [], ◌∷◌, get_or, sym, refl, ◌∙◌, subst, inl, inr, arith}
use Rattle.std.proofs.lemmas.List.{get_or-set_other}
use Rattle.std.proofs.lemmas.Bool.{cases_eq, cond_both}
use Rattle.access.specs.Ready.{stored}
use Rattle.memory.specs.Blocks.{Block, sound, corrupt}
use Rattle.numbers.specs.declared.log.LogName.{LogName}
use Rattle.numbers.specs.declared.log.LogName.TheVariants.{History, SelfReads, LoadProfile}
use Rattle.records.specs.declared.event.Event.{Event}
use Rattle.logs.specs.declared.head.LogHead.{LogHead}
use Rattle.logs.specs.Heads.{empty_head}
use Rattle.logs.specs.Places.{history_log, self_read_log, load_profile_log}
use Rattle.logs.specs.Slots.{slot_block, put_slot}
use Rattle.pending.specs.declared.row.Row.{Row}
use Rattle.pending.specs.declared.row.Row.TheVariants.{Empty, Waiting}
use Rattle.pending.specs.declared.table.PendingTable.{PendingTable}
use Rattle.pending.specs.declared.table.PendingTable.TheVariants.{Calendar, Outputs, Override}
use Rattle.pending.specs.Rows.{is_due, is_waiting}
use Rattle.pending.specs.Tables.{all_tables}
use Rattle.directory.specs.Geometry.{log_place, current_block}
use Rattle.model.specs.States.{Going, Recorded, row_of, log_of, on_head, on_blocks}
use Rattle.model.specs.Steps.{entered, noted, self_read_taken, interval_taken, brought_in, row_spent, read_first, took_force, activated, activated_if, each_activated, time_changed}
use Rattle.model.specs.Calls.{mark_started, power_up, scheduled_read, interval_read, ticked}
use Rattle.model.specs.Procedures.{Order, clear, acknowledge, set_clock, activate, withdraw, read_self, obeyed, carried_out}
use Rattle.model.specs.Tables.{current_table}
use Rattle.model.specs.Tariffs.{is_scheduled}

-- from one state of a call to another, a block is left and so is the head of the load profile
pub record Left (k : ℕ) (before after : Going) : Type 0 where
  pub block : get_or after.blocks k corrupt ≡ get_or before.blocks k corrupt
  pub profile : log_of LoadProfile after.head ≡ log_of LoadProfile before.head

pub left_all : (k : ℕ) (g : Going) → Left k g g
left_all k g = record { block = refl; profile = refl }

pub left_then : (k : ℕ) {a b c : Going} → Left k a b → Left k b c → Left k a c
left_then k p q = record { block = q.block ∙ p.block; profile = q.profile ∙ p.profile }

pub left_stored : (bs : List Block) (n k : ℕ) (content : List ℕ) → k ≢ n → get_or (stored bs n content) k corrupt ≡ get_or bs k corrupt
left_stored bs n k content ne = get_or-set_other bs n k (sound content) corrupt ne

-- an entry of a log alters the block of its slot
pub entry_left : (name : LogName) (bytes : List ℕ) (r : Recorded) (g : Going) (k : ℕ) → k ≢ slot_block (log_place name) ((log_of name g.head).total % (log_place name).size) → get_or (entered name bytes r g).blocks k corrupt ≡ get_or g.blocks k corrupt
unfolding entered put_slot
entry_left name bytes r g k ne = left_stored g.blocks _ k _ ne

in_history : (n k : ℕ) → k ≢ 8 → k ≢ 9 → k ≢ slot_block history_log (n % 102)
in_history n k a b h = elim (cases_eq (n % 102 / 51) 0) [ inl e ↦ a (omega arith) | inr e ↦ b (omega arith) ]

in_self_reads : (n k : ℕ) → k ≢ 10 → k ≢ 11 → k ≢ slot_block self_read_log (n % 24)
in_self_reads n k a b h = elim (cases_eq (n % 24 / 19) 0) [ inl e ↦ a (omega arith) | inr e ↦ b (omega arith) ]

-- a block that no event, self-read or activation alters
pub record Apart (k : ℕ) : Type 0 where
  pub calendar : k ≢ 2
  pub outputs : k ≢ 3
  pub override : k ≢ 4
  pub history : k ≢ 8
  pub history' : k ≢ 9
  pub self_reads : k ≢ 10
  pub self_reads' : k ≢ 11

module _ (k : ℕ) (apart : Apart k) where
  pub noted_left : (clock : ℕ) (e : Event) (g : Going) → Left k g (noted clock e g)
  unfolding noted entered
  noted_left clock e g = record {
    block = unfold put_slot in left_stored g.blocks _ k _ (in_history (log_of History g.head).total k apart.history apart.history');
    profile = get_or-set_other g.head.logs 0 2 _ empty_head (λ e. omega arith);
  }

  self_read_entered : (bytes : List ℕ) (r : Recorded) (g : Going) → Left k g (entered SelfReads bytes r g)
  unfolding entered
  self_read_entered bytes r g = record {
    block = unfold put_slot in left_stored g.blocks _ k _ (in_self_reads (log_of SelfReads g.head).total k apart.self_reads apart.self_reads');
    profile = get_or-set_other g.head.logs 1 2 _ empty_head (λ e. omega arith);
  }

  pub self_read_left : (clock : ℕ) (g : Going) → Left k g (self_read_taken clock g)
  unfolding self_read_taken
  self_read_left clock g = left_then k (self_read_entered _ _ g) (noted_left clock _ _)

  -- only a table's own block is altered as it is brought in
  not_current : (t : PendingTable) → k ≢ current_block t
  not_current Calendar = apart.calendar
  not_current Outputs = apart.outputs
  not_current Override = apart.override

  brought_left : (t : PendingTable) (g : Going) → Left k g (on_blocks (brought_in t) g)
  brought_left t g = record { block = left_stored g.blocks (current_block t) k _ (not_current t); profile = refl }

  first_left : (flag : Bool) (clock : ℕ) (g : Going) → Left k g (read_first flag clock g)
  first_left true clock g = self_read_left clock g
  first_left false clock g = left_all k g

  force_left : (t : PendingTable) (clock : ℕ) (row : Row) (g : Going) → Left k g (took_force t clock row g)
  force_left t clock Empty g = left_all k g
  force_left t clock (Waiting plan due) g =
      let a = read_first plan.self_read clock g in
      let b = on_blocks (brought_in t) a in
      let c = on_head (row_spent t clock) b in
      let spent : Left k b c = record { block = refl; profile = refl } in
      left_then k (left_then k (left_then k (first_left plan.self_read clock g) (brought_left t a)) spent) (noted_left clock _ c)

  if_left : (test : Row → Bool) (clock : ℕ) (t : PendingTable) (g : Going) → Left k g (activated_if test clock t g)
  unfolding activated
  if_left test clock t g = cond_both (test (row_of t g.head)) (activated clock t g) g (λ (x : Going). Left k g x) (λ _. force_left t clock (row_of t g.head) g) (λ _. left_all k g)

  pub each_left : (test : Row → Bool) (clock : ℕ) (ts : List PendingTable) (g : Going) → Left k g (each_activated test clock ts g)
  each_left test clock [] g = left_all k g
  each_left test clock (t ∷ ts) g = left_then k (if_left test clock t g) (each_left test clock ts (activated_if test clock t g))

  pub time_left : (clock : ℕ) (g : Going) → Left k g (time_changed clock g)
  unfolding time_changed
  time_left clock g = each_left (λ row. is_due row clock) clock all_tables g

  pub power_left : (s : ℕ) (g : Going) → Left k g (power_up s g)
  unfolding power_up
  power_left s g =
      let marked : Left k g (on_head mark_started g) = record { block = refl; profile = refl } in
      left_then k (left_then k marked (noted_left s _ (on_head mark_started g))) (time_left s _)

  scheduled_left : (s : ℕ) (g : Going) → Left k g (scheduled_read s g)
  scheduled_left s g = cond_both (is_scheduled (current_table Calendar g.blocks) s) (self_read_taken s g) g (λ (x : Going). Left k g x) (λ _. self_read_left s g) (λ _. left_all k g)

  -- the interval record alters the block of its slot
  interval_left : (s : ℕ) (g : Going) → k ≢ slot_block load_profile_log ((log_of LoadProfile g.head).total % 672) → get_or (interval_read s g).blocks k corrupt ≡ get_or g.blocks k corrupt
  unfolding interval_taken
  interval_left s g ne = cond_both (eqb (s % 900) 0) (interval_taken s g) g (λ (x : Going). get_or x.blocks k corrupt ≡ get_or g.blocks k corrupt) (λ _. entry_left LoadProfile _ _ g k ne) (λ _. refl)

  pub ticked_left : (s : ℕ) (g : Going) → k ≢ slot_block load_profile_log ((log_of LoadProfile g.head).total % 672) → get_or (ticked s g).blocks k corrupt ≡ get_or g.blocks k corrupt
  unfolding ticked
  ticked_left s g ne =
      let before = left_then k (time_left s g) (scheduled_left s (time_changed s g)) in
      interval_left s (scheduled_read s (time_changed s g)) (subst (λ (l : LogHead). k ≢ slot_block load_profile_log (l.total % 672)) (sym before.profile) ne) ∙ before.block

  -- procedures
  pub obeyed_left : (clock : ℕ) (o : Order) (g : Going) → get_or (obeyed clock o g).blocks k corrupt ≡ get_or g.blocks k corrupt
  unfolding obeyed
  obeyed_left clock (clear names) g = refl
  obeyed_left clock (acknowledge name count) g = refl
  obeyed_left clock (set_clock s) g = (time_left clock _).block ∙ (noted_left clock _ _).block
  obeyed_left clock (activate ts) g = (each_left is_waiting clock ts g).block
  obeyed_left clock (withdraw ts) g = refl
  obeyed_left clock read_self g = (self_read_left clock g).block

  pub carried_left : (clock number : ℕ) (o : Order) (g : Going) → get_or (carried_out clock number o g).blocks k corrupt ≡ get_or g.blocks k corrupt
  unfolding carried_out
  carried_left clock number o g = (noted_left clock _ (obeyed clock o g)).block ∙ obeyed_left clock o g
