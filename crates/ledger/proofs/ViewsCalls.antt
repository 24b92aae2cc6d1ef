-- What is seen of withdrawals, writes, stagings and procedures.
use Rattle.std.proofs.Common.{◌≡◌, ℕ, ◌+◌, ◌<◌, ◌≤◌, false, ◌≢◌, List, [], ◌∷◌, length, take, drop, Some, Option, refl, ap, ◌∙◌, ap₂, inl, inr, arith, rules}
use mathlib.Core.Path.{fun_ext}
use Rattle.std.proofs.lemmas.List.{places, same_lists, length-set, length-drop}
use Rattle.std.proofs.lemmas.Bool.{cases_Bool}
use Rattle.access.specs.Ready.{Ready, content_of, stored}
use Rattle.access.proofs.Readiness.{content_long}
use Rattle.calendar.specs.Calendar.{seconds_in_all}
use Rattle.fields.specs.Words.{part}
use Rattle.fields.specs.Patches.{patch}
use Rattle.fields.proofs.Places.{part_patch_same}
use Rattle.memory.specs.Blocks.{Block}
use Rattle.logs.proofs.SlotWrites.{content_same, content_other}
use Rattle.numbers.specs.declared.log.LogName.{LogName}
use Rattle.records.specs.declared.event.Event.TheVariants.{TimeChanged}
use Rattle.pending.specs.declared.plan.Plan.{Plan}
use Rattle.pending.specs.declared.trigger.Due.{Due}
use Rattle.pending.specs.declared.row.Row.TheVariants.{Empty, Waiting}
use Rattle.pending.specs.declared.table.PendingTable.{PendingTable}
use Rattle.pending.specs.declared.table.PendingTable.TheVariants.{Calendar, Outputs, Override}
use Rattle.pending.specs.Rows.{is_waiting}
use Rattle.pending.specs.Tables.{all_tables}
use Rattle.pending.specs.Triggers.{plan_bytes, plan_of}
use Rattle.directory.specs.declared.entry.TableEntry.{TableEntry}
use Rattle.directory.specs.Geometry.{staged_length, current_block, pending_block}
use Rattle.head.specs.declared.head.Head.{Head}
use Rattle.fates.specs.Stagings.{waiting, same, put_at, any_due, emptied, staged, written, withdrew_all, withdrew, activated_all, after}
use Rattle.fates.specs.Stagings as fate
use Rattle.model.specs.States.{Meter, Going, begun, set_row, on_head, on_blocks}
use Rattle.model.specs.Procedures.{clear, acknowledge, set_clock, activate, withdraw, read_self, rows_withdrawn, obeyed, carried_out}
use Rattle.model.specs.Requests.{staged_due}
use Rattle.model.specs.Serving.{put_in, write_done, row_for, stage_done}
use Rattle.model.proofs.Keeping.{Kept, noted_kept, status_kept}
use Rattle.ledger.proofs.Seen.{seen_row, seen_in, said_of}
use Rattle.fates.proofs.Settling.{same_self, same_is}
use Rattle.ledger.proofs.Views.{seen_of, memory, current_low, current_high, pending_low, pending_is, staged_short, row_same, seen_same, noted_unseen, self_read_unseen, cleared_unseen}
use Rattle.ledger.proofs.ViewsForce.{currents_apart, row_own, row_other, emptied_seen, table_stored, waiting_tests, if_seen, all_seen, time_seen}

-- withdrawals
pub withdrew_seen : (t : PendingTable) (g : Going) → length g.head.rows ≡ 3 → seen_of (on_head (rows_withdrawn (t ∷ [])) g) ≡ after (seen_of g) (withdrew t)
withdrew_seen t g three = emptied_seen t g.head g.blocks three

pub withdrew_all_seen : (g : Going) → length g.head.rows ≡ 3 → seen_of (on_head (rows_withdrawn all_tables) g) ≡ after (seen_of g) withdrew_all
withdrew_all_seen g three =
    let one = set_row Calendar Empty g.head in
    let two = set_row Outputs Empty one in
    let three_one : length one.rows ≡ 3 = length-set g.head.rows 0 Empty ∙ three in
    let three_two : length two.rows ≡ 3 = length-set one.rows 1 Empty ∙ three_one in
    emptied_seen Override two g.blocks three_two ∙ ap (emptied Override) (emptied_seen Outputs one g.blocks three_one ∙ ap (emptied Outputs) (emptied_seen Calendar g.head g.blocks three))

-- writes: the front of what was patched is the front, patched
front_patch : (w at : ℕ) (new old : List ℕ) → at + length new ≤ w → w ≤ length old → part w 0 (patch at new old) ≡ patch at new (part w 0 old)
unfolding patch
front_patch w at new old fits long = same_lists _ _ (search (rules, places)) (λ k d h. grind (arith, places))

pub written_seen : {c : List ℕ} {n : ℕ} (w : PendingTable) (from : ℕ) (bytes : List ℕ) (g : Going) → Kept c n g → from + length bytes ≤ staged_length w → seen_of (on_blocks (put_in (Some (current_block w)) from bytes) g) ≡ after (seen_of g) (written w from bytes)
written_seen w from bytes g kept fits =
    let old = content_of g.blocks (current_block w) in
    let long : length old ≡ 510 = content_long g.blocks kept.whole kept.ready (current_block w) (omega (arith, current_low w)) in
    table_stored w (patch from bytes old) g.head g.blocks kept.ready
    ∙ ap (λ x. memory (seen_of g).rows (put_at w x (seen_of g).tables)) (front_patch (staged_length w) from bytes old fits (omega (arith, staged_short w)))

-- blocks 0 and 1 have no table that can be staged
pub put_unseen : (k from : ℕ) (bytes : List ℕ) (g : Going) → k < 2 → seen_of (on_blocks (put_in (Some k) from bytes) g) ≡ seen_of g
put_unseen k from bytes g low = seen_same g.head g.head _ _ (λ t. refl) (λ j high _. content_other g.blocks k j _ (λ e. omega arith))

-- an accepted write, by where the bytes of its table are
pub write_seen : {c : List ℕ} {n : ℕ} (m : Meter) (t : TableEntry) (w : PendingTable) (from : ℕ) (bytes : List ℕ) → t.block ≡ Some (current_block w) → Kept c n (begun m.blocks) → from + length bytes ≤ staged_length w →
    seen_of (write_done m t from bytes) ≡ after (said_of m.blocks) (written w from bytes)
write_seen m t w from bytes place kept fits =
    noted_unseen m.clock _ _ ∙ ap (λ (k : Option ℕ). seen_of (on_blocks (put_in k from bytes) (begun m.blocks))) place ∙ written_seen w from bytes (begun m.blocks) kept fits

pub write_unseen : (m : Meter) (t : TableEntry) (k from : ℕ) (bytes : List ℕ) → t.block ≡ Some k → k < 2 → seen_of (write_done m t from bytes) ≡ said_of m.blocks
write_unseen m t k from bytes place low =
    noted_unseen m.clock _ _ ∙ ap (λ (k : Option ℕ). seen_of (on_blocks (put_in k from bytes) (begun m.blocks))) place ∙ put_unseen k from bytes (begun m.blocks) low

-- a staging: its row waits, with the bytes in the staging block
pendings_apart : (v w : PendingTable) → same v w ≡ false → pending_block v ≢ pending_block w
pendings_apart v w n e = currents_apart v w n (omega (arith, pending_is v, pending_is w))

pub staged_seen : (t : PendingTable) (plan : Plan) (due : Due) (c : List ℕ) (h : Head) (bs : List Block) → length h.rows ≡ 3 → Ready bs →
    seen_in (set_row t (Waiting plan due) h) (stored bs (pending_block t) c) ≡ after (seen_in h bs) (staged t (record { trigger = plan_bytes plan; due = due; bytes = part (staged_length t) 0 c }))
staged_seen t plan due c h bs three ready =
    let now = stored bs (pending_block t) c in
    ap₂ memory
    (fun_ext (λ v. elim (cases_Bool (same v t)) [
      | inl is ↦ rw (same_is v t is, same_self t)
          (ap (λ r. seen_row t r now) (row_own t (Waiting plan due) h three)
          ∙ ap (λ x. waiting (record { trigger = plan_bytes plan; due = due; bytes = part (staged_length t) 0 x })) (content_same bs (pending_block t) c (omega (arith, pending_low t, ready.enough))))
      | inr n ↦ rw n (row_same v _ _ now bs (row_other v t (Waiting plan due) h n) (content_other bs (pending_block t) (pending_block v) c (pendings_apart v t n)))
    ]))
    (fun_ext (λ v. ap (part (staged_length v) 0) (content_other bs (pending_block t) (current_block v) c (λ e. omega (arith, current_low v, current_high t, pending_is t)))))

pub stage_seen : {c : List ℕ} {n : ℕ} (m : Meter) (t : TableEntry) (table : PendingTable) (bytes : List ℕ) (plan : Plan) (due : Due) → Kept c n (begun m.blocks) →
    staged_due (plan_of (take 6 bytes)) m.clock ≡ Some (plan, due) → plan_bytes plan ≡ take 6 bytes → length bytes ≡ staged_length table + 6 →
    seen_of (stage_done m t table bytes) ≡ after (said_of m.blocks) (staged table (record { trigger = take 6 bytes; due = due; bytes = drop 6 bytes }))
stage_seen m t table bytes plan due kept is trigger long =
    let g = begun m.blocks in
    let old = content_of m.blocks (pending_block table) in
    let new = drop 6 bytes in
    let whole : length old ≡ 510 = content_long m.blocks kept.whole kept.ready (pending_block table) (omega (arith, pending_low table)) in
    let size : length new ≡ staged_length table = length-drop 6 bytes ∙ (omega arith) in
    let own : part (staged_length table) 0 (patch 0 new old) ≡ new = part_patch_same 0 (staged_length table) new old (omega (arith, staged_short table)) size in
    noted_unseen m.clock _ _
    ∙ ap (λ (o : Option (Plan × Due)). seen_in (set_row table (row_for o) g.head) (stored m.blocks (pending_block table) (patch 0 new old))) is
    ∙ staged_seen table plan due (patch 0 new old) g.head m.blocks kept.formed.three kept.ready
    ∙ ap₂ (λ x y. after (said_of m.blocks) (staged table (record { trigger = x; due = due; bytes = y }))) trigger own

-- procedures
pub clear_unseen : (clock number : ℕ) (names : List LogName) (g : Going) → seen_of (carried_out clock number (clear names) g) ≡ seen_of g
unfolding carried_out obeyed
clear_unseen clock number names g = noted_unseen clock _ _ ∙ cleared_unseen names g

pub acknowledge_unseen : (clock number : ℕ) (name : LogName) (count : ℕ) (g : Going) → seen_of (carried_out clock number (acknowledge name count) g) ≡ seen_of g
unfolding carried_out obeyed
acknowledge_unseen clock number name count g = noted_unseen clock _ _

pub read_unseen : (clock number : ℕ) (g : Going) → seen_of (carried_out clock number read_self g) ≡ seen_of g
unfolding carried_out obeyed
read_unseen clock number g = noted_unseen clock _ _ ∙ self_read_unseen clock g

pub clock_seen : {c : List ℕ} (n number s : ℕ) (g : Going) → s < seconds_in_all → n < 60000000 → Kept c n g → seen_of (carried_out s number (set_clock s) g) ≡ after (seen_of g) (fate.time_changed s)
unfolding carried_out obeyed
clock_seen n number s g real few kept =
    noted_unseen s _ _ ∙ time_seen (n + 1) s _ real (omega arith) (noted_kept n s _ _ (omega arith) (status_kept _ g kept)) ∙ ap (λ m. after m (fate.time_changed s)) (noted_unseen s TimeChanged _)

pub activate_all_seen : {c : List ℕ} (n clock number : ℕ) (g : Going) → clock < seconds_in_all → n < 70000000 → Kept c n g → seen_of (carried_out clock number (activate all_tables) g) ≡ after (seen_of g) activated_all
unfolding carried_out obeyed
activate_all_seen n clock number g real few kept = noted_unseen clock _ _ ∙ all_seen n clock is_waiting any_due g waiting_tests real few kept

pub activate_one_seen : {c : List ℕ} (n clock number : ℕ) (t : PendingTable) (g : Going) → n < 80000000 → Kept c n g → seen_of (carried_out clock number (activate (t ∷ [])) g) ≡ after (seen_of g) (fate.activated t)
unfolding carried_out obeyed
activate_one_seen n clock number t g few kept = noted_unseen clock _ _ ∙ if_seen n clock is_waiting any_due t g waiting_tests few kept

pub withdraw_all_seen : {c : List ℕ} {n : ℕ} (clock number : ℕ) (g : Going) → Kept c n g → seen_of (carried_out clock number (withdraw all_tables) g) ≡ after (seen_of g) withdrew_all
unfolding carried_out obeyed
withdraw_all_seen clock number g kept = noted_unseen clock _ _ ∙ withdrew_all_seen g kept.formed.three

pub withdraw_one_seen : {c : List ℕ} {n : ℕ} (clock number : ℕ) (t : PendingTable) (g : Going) → Kept c n g → seen_of (carried_out clock number (withdraw (t ∷ [])) g) ≡ after (seen_of g) (withdrew t)
unfolding carried_out obeyed
withdraw_one_seen clock number t g kept = noted_unseen clock _ _ ∙ withdrew_seen t g kept.formed.three
