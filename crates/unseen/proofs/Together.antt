-- Two memories under one head, step by step: what can be seen of them stays the same, and the first keeps what is its own.
use Rattle.std.proofs.Common.{◌≡◌, ℕ, ◌+◌, ◌-◌, ◌/◌, ◌%◌, ◌<◌, ◌≤◌, Bool, true, false, ◌≢◌, ◌⊎◌, List, length, get_or, drop, sym, refl, ap, ◌∙◌, subst, inl, inr, mod-lt, arith, rules}
use Rattle.std.proofs.lemmas.List.{places, same_lists, get_or-set_same, get_or-set_other, drop-set-lt, length-set}
use Rattle.std.proofs.lemmas.Bool.{cases_eq, both_ways}
use Rattle.access.specs.Ready.{needed, Ready, content_of, stored}
use Rattle.access.proofs.Readiness.{content_long}
use Rattle.fields.specs.Words.{part}
use Rattle.fields.specs.Patches.{patch}
use Rattle.memory.specs.Blocks.{Block, sound, Whole}
use Rattle.numbers.specs.declared.log.LogName.{LogName}
use Rattle.numbers.specs.declared.log.LogName.TheVariants.{History, SelfReads, LoadProfile}
use Rattle.numbers.specs.Names.{log_number}
use Rattle.logs.specs.declared.head.LogHead.{LogHead}
use Rattle.logs.specs.Heads.{empty_head, appended, acknowledged, cleared}
use Rattle.logs.specs.Slots.{per_block, slot_block, slot_place, slot_bytes, put_slot}
use Rattle.logs.specs.Tables.{is_held}
use Rattle.logs.proofs.SlotWrites.{put_ready, put_whole, put_same, put_other, put_beside, slot_beside, content_same, content_other}
use Rattle.pending.specs.declared.row.Row.{Row}
use Rattle.pending.specs.declared.row.Row.TheVariants.{Empty}
use Rattle.pending.specs.declared.table.PendingTable.{PendingTable}
use Rattle.pending.specs.Rows.{is_waiting}
use Rattle.pending.specs.Tables.{table_index}
use Rattle.directory.specs.Geometry.{log_place, log_blocks, staged_length, current_block, pending_block}
use Rattle.head.specs.declared.head.Head.{Head}
use Rattle.model.specs.States.{row_of, log_of, set_row, set_log}
use Rattle.model.specs.Tables.{staged_table}
use Rattle.model.proofs.Places.{current_place, pending_place, which_table, row_own, row_other, log_low, log_fits}
use Rattle.unseen.specs.Unseen.{SameSeen, slot_span}
use Rattle.unseen.proofs.Held.{Counted, appended_counted, held_before, unheld_before, cleared_none, acknowledged_same}

-- a head whose counts are in order over blocks that are there, sound and whole
pub record Steady (h : Head) (bs : List Block) : Type 0 where
  pub ready : Ready bs
  pub whole : Whole bs
  pub rows : length h.rows ≡ 3
  pub logs : length h.logs ≡ 3
  pub counts : (name : LogName) → Counted (log_place name) (log_of name h)

-- what a memory has of its own, as it was in another
pub record Own (a : List Block) (h : Head) (x : List Block) : Type 0 where
  pub utility : drop 40 (content_of x 1) ≡ drop 40 (content_of a 1)
  pub current : (t : PendingTable) → drop (staged_length t) (content_of x (current_block t)) ≡ drop (staged_length t) (content_of a (current_block t))
  pub staging : (t : PendingTable) → content_of x (pending_block t) ≡ content_of a (pending_block t)
  pub slots : (name : LogName) (slot : ℕ) → slot < (log_place name).size → is_held (log_place name) (log_of name h) slot ≡ false → slot_bytes (log_place name) slot x ≡ slot_bytes (log_place name) slot a
  pub logs : (name : LogName) (k : ℕ) → k < log_blocks name → drop (slot_span name k) (content_of x ((log_place name).first + k)) ≡ drop (slot_span name k) (content_of a ((log_place name).first + k))
  pub beyond : drop needed x ≡ drop needed a

pub record Together (a : List Block) (h : Head) (x y : List Block) : Type 0 where
  pub left : Steady h x
  pub right : Steady h y
  pub seen : SameSeen h x y
  pub own : Own a h x

-- where the tables and the logs lie
pub log_high : (name : LogName) (slot : ℕ) → 8 ≤ slot_block (log_place name) slot
log_high History slot = omega arith
log_high SelfReads slot = omega arith
log_high LoadProfile slot = omega arith

pub log_inside : (name : LogName) (slot : ℕ) → slot < (log_place name).size → slot_block (log_place name) slot < needed
log_inside History slot h = omega arith
log_inside SelfReads slot h = omega arith
log_inside LoadProfile slot h = omega arith

-- a slot lies in the span of its block
pub span_holds : (name : LogName) (slot : ℕ) → slot < (log_place name).size → slot_place (log_place name) slot + (log_place name).width ≤ slot_span name (slot / per_block (log_place name))
span_holds History slot h = omega arith
span_holds SelfReads slot h = omega arith
span_holds LoadProfile slot h = omega arith

pub span_short : (name : LogName) (k : ℕ) → slot_span name k ≤ 510
span_short History k = omega arith
span_short SelfReads k = omega arith
span_short LoadProfile k = omega arith

pub tail_high : (name : LogName) (k : ℕ) → 8 ≤ (log_place name).first + k
tail_high History k = omega arith
tail_high SelfReads k = omega arith
tail_high LoadProfile k = omega arith

-- two logs are one, or they lie apart
pub record Apart (a b : LogName) : Type 0 where
  pub numbers : log_number a - 1 ≢ log_number b - 1
  pub blocks : (i j : ℕ) → i < (log_place a).size → j < (log_place b).size → slot_block (log_place a) i ≢ slot_block (log_place b) j
  pub spans : (k j : ℕ) → k < log_blocks a → j < (log_place b).size → (log_place a).first + k ≢ slot_block (log_place b) j

pub which_log : (a b : LogName) → (a ≡ b) ⊎ Apart a b
which_log History History = inl refl
which_log History SelfReads = inr (record { numbers = λ e. omega arith; blocks = λ i j u v e. omega arith; spans = λ k j u v e. omega arith })
which_log History LoadProfile = inr (record { numbers = λ e. omega arith; blocks = λ i j u v e. omega arith; spans = λ k j u v e. omega arith })
which_log SelfReads History = inr (record { numbers = λ e. omega arith; blocks = λ i j u v e. omega arith; spans = λ k j u v e. omega arith })
which_log SelfReads SelfReads = inl refl
which_log SelfReads LoadProfile = inr (record { numbers = λ e. omega arith; blocks = λ i j u v e. omega arith; spans = λ k j u v e. omega arith })
which_log LoadProfile History = inr (record { numbers = λ e. omega arith; blocks = λ i j u v e. omega arith; spans = λ k j u v e. omega arith })
which_log LoadProfile SelfReads = inr (record { numbers = λ e. omega arith; blocks = λ i j u v e. omega arith; spans = λ k j u v e. omega arith })
which_log LoadProfile LoadProfile = inl refl

log_same : (name : LogName) (l : LogHead) (h : Head) → length h.logs ≡ 3 → log_of name (set_log name l h) ≡ l
log_same name l h three = get_or-set_same h.logs (log_number name - 1) l empty_head (omega (arith, log_low name))

log_other : (name other : LogName) (l : LogHead) (h : Head) → Apart other name → log_of other (set_log name l h) ≡ log_of other h
log_other name other l h apart = get_or-set_other h.logs (log_number name - 1) (log_number other - 1) l empty_head apart.numbers

pub beyond_stored : (bs : List Block) (k : ℕ) (c : List ℕ) → k < needed → drop needed (stored bs k c) ≡ drop needed bs
beyond_stored bs k c h = drop-set-lt needed bs k (sound c) h

pub slot_stored : (name : LogName) (slot k : ℕ) (c : List ℕ) (bs : List Block) → k < 8 → slot_bytes (log_place name) slot (stored bs k c) ≡ slot_bytes (log_place name) slot bs
unfolding slot_bytes
slot_stored name slot k c bs h =
    ap (part (log_place name).width (slot_place (log_place name) slot)) (content_other bs k (slot_block (log_place name) slot) c (λ e. omega (arith, log_high name slot)))

-- what stands behind bytes that are patched in
pub drop_patch : (w from : ℕ) (new old : List ℕ) → from + length new ≤ w → w ≤ length old → drop w (patch from new old) ≡ drop w old
unfolding patch
drop_patch w from new old fits short = same_lists _ _ (search (rules, places)) (λ k d h. grind (arith, places))

-- counts with one log's head replaced
counted : (h : Head) (bs : List Block) (name : LogName) (l : LogHead) → Steady h bs → Counted (log_place name) l → (other : LogName) → Counted (log_place other) (log_of other (set_log name l h))
counted h bs name l st c other =
    elim (which_log other name) [
      | inl e ↦ subst (λ n. Counted (log_place n) (log_of n (set_log name l h))) (sym e) (rw (log_same name l h st.logs) c)
      | inr apart ↦ rw (log_other name other l h apart) (st.counts other)
    ]

-- an entry
module _ (name : LogName) (bytes : List ℕ) (long : length bytes ≡ (log_place name).width) where
  abbrev entry_head : Head → Head
  entry_head h = set_log name (appended (log_place name) (log_of name h)) h

  abbrev next_slot : Head → ℕ
  next_slot h = (log_of name h).total % (log_place name).size

  abbrev entry_blocks : Head → List Block → List Block
  entry_blocks h bs = put_slot (log_place name) (next_slot h) bytes bs

  below : (h : Head) → next_slot h < (log_place name).size
  below h = mod-lt (log_of name h).total (log_fits name).some

  entry_steady : (h : Head) (bs : List Block) → Steady h bs → Steady (entry_head h) (entry_blocks h bs)
  entry_steady h bs st = record {
    ready = put_ready (log_place name) (next_slot h) bytes bs st.ready;
    whole = put_whole (log_place name) (log_fits name) bs st.ready st.whole (next_slot h) (below h) bytes long;
    rows = st.rows;
    logs = length-set h.logs (log_number name - 1) (appended (log_place name) (log_of name h)) ∙ st.logs;
    counts = counted h bs name (appended (log_place name) (log_of name h)) st (appended_counted (log_place name) (log_of name h) (st.counts name));
  }

  beside : (h : Head) (bs : List Block) (k : ℕ) → k < 8 → content_of (entry_blocks h bs) k ≡ content_of bs k
  beside h bs k lt = put_beside (log_place name) (next_slot h) k bytes bs (λ e. omega (arith, log_high name (next_slot h)))

  other_log : (h : Head) (bs : List Block) (other : LogName) (slot : ℕ) → Apart other name → slot < (log_place other).size → slot_bytes (log_place other) slot (entry_blocks h bs) ≡ slot_bytes (log_place other) slot bs
  other_log h bs other slot apart lt = slot_beside (log_place name) (log_place other) (next_slot h) slot bytes bs (apart.blocks slot (next_slot h) lt (below h))

  other_slot : (h : Head) (bs : List Block) (slot : ℕ) → Steady h bs → slot ≢ next_slot h → slot_bytes (log_place name) slot (entry_blocks h bs) ≡ slot_bytes (log_place name) slot bs
  other_slot h bs slot st ne = put_other (log_place name) (log_fits name) bs st.ready st.whole (next_slot h) (below h) bytes long slot ne

  new_slot : (h : Head) (bs : List Block) → Steady h bs → slot_bytes (log_place name) (next_slot h) (entry_blocks h bs) ≡ bytes
  new_slot h bs st = put_same (log_place name) (log_fits name) bs st.ready st.whole (next_slot h) (below h) bytes long

  same_slots : (h : Head) (x y : List Block) (slot : ℕ) → Steady h x → Steady h y → SameSeen h x y → slot < (log_place name).size → is_held (log_place name) (appended (log_place name) (log_of name h)) slot ≡ true →
      slot_bytes (log_place name) slot (entry_blocks h x) ≡ slot_bytes (log_place name) slot (entry_blocks h y)
  same_slots h x y slot sx sy seen lt held =
      elim (cases_eq slot (next_slot h)) [
        | inl e ↦ subst (λ s. slot_bytes (log_place name) s (entry_blocks h x) ≡ slot_bytes (log_place name) s (entry_blocks h y)) (sym e) (new_slot h x sx ∙ sym (new_slot h y sy))
        | inr ne ↦ other_slot h x slot sx ne ∙ seen.slots name slot lt (held_before (log_place name) (log_of name h) slot (sx.counts name) held ne) ∙ sym (other_slot h y slot sy ne)
      ]

  entry_slots : (h : Head) (x y : List Block) → Steady h x → Steady h y → SameSeen h x y → (other : LogName) (slot : ℕ) → slot < (log_place other).size → is_held (log_place other) (log_of other (entry_head h)) slot ≡ true →
      slot_bytes (log_place other) slot (entry_blocks h x) ≡ slot_bytes (log_place other) slot (entry_blocks h y)
  entry_slots h x y sx sy seen other slot lt held =
      elim (which_log other name) [
        | inl e ↦
            subst (λ n. slot < (log_place n).size → is_held (log_place n) (log_of n (entry_head h)) slot ≡ true → slot_bytes (log_place n) slot (entry_blocks h x) ≡ slot_bytes (log_place n) slot (entry_blocks h y)) (sym e)
            (λ l k. same_slots h x y slot sx sy seen l (sym (ap (λ q. is_held (log_place name) q slot) (log_same name _ h sx.logs)) ∙ k)) lt held
        | inr apart ↦
            other_log h x other slot apart lt ∙ seen.slots other slot lt (sym (ap (λ q. is_held (log_place other) q slot) (log_other name other _ h apart)) ∙ held) ∙ sym (other_log h y other slot apart lt)
      ]

  entry_seen : (h : Head) (x y : List Block) → Steady h x → Steady h y → SameSeen h x y → SameSeen (entry_head h) (entry_blocks h x) (entry_blocks h y)
  entry_seen h x y sx sy seen = record {
    utility = ap (part 40 0) (beside h x 1 (omega arith)) ∙ seen.utility ∙ sym (ap (part 40 0) (beside h y 1 (omega arith)));
    current = λ t. let lt : current_block t < 8 = omega (arith, (current_place t).1) in
        ap (part (staged_length t) 0) (beside h x (current_block t) lt) ∙ seen.current t ∙ sym (ap (part (staged_length t) 0) (beside h y (current_block t) lt));
    staged = λ t w. let lt : pending_block t < 8 = (pending_place t).1 in
        ap (part (staged_length t) 0) (beside h x (pending_block t) lt) ∙ seen.staged t w ∙ sym (ap (part (staged_length t) 0) (beside h y (pending_block t) lt));
    slots = entry_slots h x y sx sy seen;
  }

  own_slots : (a : List Block) (h : Head) (x : List Block) → Steady h x → Own a h x → (other : LogName) (slot : ℕ) → slot < (log_place other).size → is_held (log_place other) (log_of other (entry_head h)) slot ≡ false →
      slot_bytes (log_place other) slot (entry_blocks h x) ≡ slot_bytes (log_place other) slot a
  own_slots a h x sx own other slot lt free =
      elim (which_log other name) [
        | inl e ↦
            subst (λ n. slot < (log_place n).size → is_held (log_place n) (log_of n (entry_head h)) slot ≡ false → slot_bytes (log_place n) slot (entry_blocks h x) ≡ slot_bytes (log_place n) slot a) (sym e)
            (λ l k.
            let was = unheld_before (log_place name) (log_of name h) slot (log_fits name).some (sx.counts name) (sym (ap (λ q. is_held (log_place name) q slot) (log_same name _ h sx.logs)) ∙ k) in
            other_slot h x slot sx was.1 ∙ own.slots name slot l was.0) lt free
        | inr apart ↦ other_log h x other slot apart lt ∙ own.slots other slot lt (sym (ap (λ q. is_held (log_place other) q slot) (log_other name other _ h apart)) ∙ free)
      ]

  own_tail : (h : Head) (bs : List Block) (k : ℕ) → Steady h bs → drop (slot_span name k) (content_of (entry_blocks h bs) ((log_place name).first + k)) ≡ drop (slot_span name k) (content_of bs ((log_place name).first + k))
  unfolding put_slot
  own_tail h bs k st =
      let slot = next_slot h in
      let q = slot / per_block (log_place name) in
      let at = slot_block (log_place name) slot in
      let inside : at < needed = log_inside name slot (below h) in
      let whole : length (content_of bs at) ≡ 510 = content_long bs st.whole st.ready at inside in
      elim (cases_eq k q) [
        | inl e ↦
            subst (λ j. drop (slot_span name j) (content_of (entry_blocks h bs) ((log_place name).first + j)) ≡ drop (slot_span name j) (content_of bs ((log_place name).first + j))) (sym e)
            (ap (drop (slot_span name q)) (content_same bs at _ (omega (arith, st.ready.enough)))
            ∙ drop_patch (slot_span name q) (slot_place (log_place name) slot) bytes (content_of bs at) (omega (arith, span_holds name slot (below h))) (omega (arith, span_short name q)))
        | inr ne ↦ ap (drop (slot_span name k)) (content_other bs at ((log_place name).first + k) _ (λ e. ne (omega arith)))
      ]

  own_tails : (a : List Block) (h : Head) (x : List Block) → Steady h x → Own a h x → (other : LogName) (k : ℕ) → k < log_blocks other →
      drop (slot_span other k) (content_of (entry_blocks h x) ((log_place other).first + k)) ≡ drop (slot_span other k) (content_of a ((log_place other).first + k))
  own_tails a h x sx own other k lt =
      elim (which_log other name) [
        | inl e ↦
            subst (λ n. drop (slot_span n k) (content_of (entry_blocks h x) ((log_place n).first + k)) ≡ drop (slot_span n k) (content_of x ((log_place n).first + k))) (sym e) (own_tail h x k sx)
            ∙ own.logs other k lt
        | inr apart ↦
            ap (drop (slot_span other k)) (put_beside (log_place name) (next_slot h) ((log_place other).first + k) bytes x (apart.spans k (next_slot h) lt (below h)))
            ∙ own.logs other k lt
      ]

  entry_own : (a : List Block) (h : Head) (x : List Block) → Steady h x → Own a h x → Own a (entry_head h) (entry_blocks h x)
  unfolding put_slot
  entry_own a h x sx own = record {
    utility = ap (drop 40) (beside h x 1 (omega arith)) ∙ own.utility;
    current = λ t. ap (drop (staged_length t)) (beside h x (current_block t) (omega (arith, (current_place t).1))) ∙ own.current t;
    staging = λ t. beside h x (pending_block t) (pending_place t).1 ∙ own.staging t;
    slots = own_slots a h x sx own;
    logs = own_tails a h x sx own;
    beyond = beyond_stored x (slot_block (log_place name) (next_slot h)) _ (log_inside name (next_slot h) (below h)) ∙ own.beyond;
  }

  pub entry_together : (a : List Block) (h : Head) (x y : List Block) → Together a h x y → Together a (entry_head h) (entry_blocks h x) (entry_blocks h y)
  entry_together a h x y to = record {
    left = entry_steady h x to.left;
    right = entry_steady h y to.right;
    seen = entry_seen h x y to.left to.right to.seen;
    own = entry_own a h x to.left to.own;
  }

-- what is read of a head is its rows and its logs
pub reheaded : {a : List Block} {x y : List Block} (h k : Head) → k.rows ≡ h.rows → k.logs ≡ h.logs → Together a h x y → Together a k x y
reheaded {a} {x} {y} h k rows logs to = record {
  left = again x to.left;
  right = again y to.right;
  seen = record {
    utility = to.seen.utility;
    current = to.seen.current;
    staged = λ t w. to.seen.staged t (ap (λ r. is_waiting (get_or r (table_index t) Empty)) (sym rows) ∙ w);
    slots = λ name slot lt held. to.seen.slots name slot lt (ap (λ l. is_held (log_place name) (get_or l (log_number name - 1) empty_head) slot) (sym logs) ∙ held);
  };
  own = record {
    utility = to.own.utility;
    current = to.own.current;
    staging = to.own.staging;
    slots = λ name slot lt free. to.own.slots name slot lt (ap (λ l. is_held (log_place name) (get_or l (log_number name - 1) empty_head) slot) (sym logs) ∙ free);
    logs = to.own.logs;
    beyond = to.own.beyond;
  };
}
  where
    again : (bs : List Block) → Steady h bs → Steady k bs
    again bs st = record {
      ready = st.ready;
      whole = st.whole;
      rows = ap length rows ∙ st.rows;
      logs = ap length logs ∙ st.logs;
      counts = λ name. subst (λ l. Counted (log_place name) (get_or l (log_number name - 1) empty_head)) (sym logs) (st.counts name);
    }

-- another row in a table's place: it does not wait, or what is staged for it is the same
row_steady : (t : PendingTable) (row : Row) (h : Head) (bs : List Block) → Steady h bs → Steady (set_row t row h) bs
row_steady t row h bs st = record { ready = st.ready; whole = st.whole; rows = length-set h.rows (table_index t) row ∙ st.rows; logs = st.logs; counts = st.counts }

row_staged : (t : PendingTable) (row : Row) (h : Head) (x y : List Block) → length h.rows ≡ 3 → SameSeen h x y → (is_waiting row ≡ true → staged_table t x ≡ staged_table t y) →
    (u : PendingTable) → is_waiting (row_of u (set_row t row h)) ≡ true → staged_table u x ≡ staged_table u y
row_staged t row h x y three seen now u w =
    elim (which_table u t) [
      | inl e ↦ subst (λ v. is_waiting (row_of v (set_row t row h)) ≡ true → staged_table v x ≡ staged_table v y) (sym e) (λ k. now (sym (ap is_waiting (row_own t row h three)) ∙ k)) w
      | inr apart ↦ seen.staged u (sym (ap is_waiting (row_other t u row h apart)) ∙ w)
    ]

pub row_together : {a : List Block} (t : PendingTable) (row : Row) (h : Head) (x y : List Block) → (is_waiting row ≡ true → staged_table t x ≡ staged_table t y) → Together a h x y → Together a (set_row t row h) x y
row_together t row h x y now to = record {
  left = row_steady t row h x to.left;
  right = row_steady t row h y to.right;
  seen = record { utility = to.seen.utility; current = to.seen.current; staged = row_staged t row h x y to.left.rows to.seen now; slots = to.seen.slots };
  own = record { utility = to.own.utility; current = to.own.current; staging = to.own.staging; slots = to.own.slots; logs = to.own.logs; beyond = to.own.beyond };
}

never_waits : {P : Type 0} → is_waiting Empty ≡ true → P
never_waits e = let z : ◌≡◌ {A = ℕ} 0 1 = cc in absurd (omega arith)

pub emptied : {a : List Block} (t : PendingTable) (h : Head) (x y : List Block) → Together a h x y → Together a (set_row t Empty h) x y
emptied t h x y to = row_together t Empty h x y (λ e. never_waits e) to

-- another log head in a log's place, over the same blocks
log_steady : (name : LogName) (l : LogHead) (h : Head) (bs : List Block) → Counted (log_place name) l → Steady h bs → Steady (set_log name l h) bs
log_steady name l h bs c st = record {
  ready = st.ready;
  whole = st.whole;
  rows = st.rows;
  logs = length-set h.logs (log_number name - 1) l ∙ st.logs;
  counts = counted h bs name l st c;
}

log_slots : (name : LogName) (l : LogHead) (h : Head) (b : Bool) (x y : List Block) → length h.logs ≡ 3 →
    ((slot : ℕ) → slot < (log_place name).size → is_held (log_place name) l slot ≡ b → slot_bytes (log_place name) slot x ≡ slot_bytes (log_place name) slot y) →
    ((other : LogName) (slot : ℕ) → slot < (log_place other).size → is_held (log_place other) (log_of other h) slot ≡ b → slot_bytes (log_place other) slot x ≡ slot_bytes (log_place other) slot y) →
    (other : LogName) (slot : ℕ) → slot < (log_place other).size → is_held (log_place other) (log_of other (set_log name l h)) slot ≡ b → slot_bytes (log_place other) slot x ≡ slot_bytes (log_place other) slot y
log_slots name l h b x y three here before other slot lt is =
    elim (which_log other name) [
      | inl e ↦
          subst (λ n. slot < (log_place n).size → is_held (log_place n) (log_of n (set_log name l h)) slot ≡ b → slot_bytes (log_place n) slot x ≡ slot_bytes (log_place n) slot y) (sym e)
          (λ k i. here slot k (sym (ap (λ q. is_held (log_place name) q slot) (log_same name l h three)) ∙ i)) lt is
      | inr apart ↦ before other slot lt (sym (ap (λ q. is_held (log_place other) q slot) (log_other name other l h apart)) ∙ is)
    ]

pub acknowledged_together : {a : List Block} (name : LogName) (count : ℕ) (h : Head) (x y : List Block) → Together a h x y → Together a (set_log name (acknowledged count (log_of name h)) h) x y
acknowledged_together {a} name count h x y to =
    let l = acknowledged count (log_of name h) in
    record {
      left = log_steady name l h x (to.left.counts name) to.left;
      right = log_steady name l h y (to.right.counts name) to.right;
      seen = record {
        utility = to.seen.utility;
        current = to.seen.current;
        staged = to.seen.staged;
        slots = log_slots name l h true x y to.left.logs (λ slot lt is. to.seen.slots name slot lt (sym (acknowledged_same (log_place name) count (log_of name h) slot) ∙ is)) to.seen.slots;
      };
      own = record {
        utility = to.own.utility;
        current = to.own.current;
        staging = to.own.staging;
        slots = log_slots name l h false x a to.left.logs (λ slot lt is. to.own.slots name slot lt (sym (acknowledged_same (log_place name) count (log_of name h) slot) ∙ is)) to.own.slots;
        logs = to.own.logs;
        beyond = to.own.beyond;
      };
    }

-- a cleared log holds nothing; its slots must be as they were, since none is held then
pub cleared_together : (name : LogName) (h : Head) (x y : List Block) → Together x h x y → Together x (set_log name (cleared (log_of name h)) h) x y
cleared_together name h x y to =
    let l = cleared (log_of name h) in
    record {
      left = log_steady name l h x (omega arith, omega arith) to.left;
      right = log_steady name l h y (omega arith, omega arith) to.right;
      seen = record {
        utility = to.seen.utility;
        current = to.seen.current;
        staged = to.seen.staged;
        slots = log_slots name l h true x y to.left.logs (λ slot lt is. absurd (both_ways _ (cleared_none (log_place name) (log_of name h) slot) is)) to.seen.slots;
      };
      own = record { utility = refl; current = λ t. refl; staging = λ t. refl; slots = λ other slot lt is. refl; logs = λ other k lt. refl; beyond = refl };
    }
