-- A call begins with what block 0 says and ends with what it says then.
use Rattle.std.proofs.Common.{◌≡◌, ℕ, ◌+◌, ◌≤◌, cond, leb, ◌≢◌, List, length, drop, Ok, Err, sym, refl, ap, ◌∙◌, subst, arith}
use Rattle.std.proofs.lemmas.Bool.{and_parts, leb-true, le-ltb, cond-false}
use Rattle.access.specs.Ready.{needed, Ready, content_of, ready_verdict, clean_verdict}
use Rattle.fields.specs.Words.{part}
use Rattle.memory.specs.Blocks.{Block}
use Rattle.numbers.specs.declared.log.LogName.{LogName}
use Rattle.numbers.specs.declared.log.LogName.TheVariants.{History, SelfReads, LoadProfile}
use Rattle.logs.specs.declared.head.LogHead.{LogHead}
use Rattle.logs.specs.Heads.{empty_head}
use Rattle.logs.specs.Slots.{slot_bytes}
use Rattle.logs.specs.Tables.{is_held}
use Rattle.logs.proofs.SlotWrites.{content_same, content_other}
use Rattle.pending.specs.declared.table.PendingTable.{PendingTable}
use Rattle.directory.specs.Geometry.{log_place, staged_length, current_block, pending_block}
use Rattle.head.specs.declared.head.Head.{Head}
use Rattle.head.specs.Heads.{decode_head, encode_head}
use Rattle.head.specs.Layout.{log_sizes}
use Rattle.head.specs.Order.{in_order, LogFormed, WellFormed}
use Rattle.head.proofs.HeadLaws.{logs_three}
use Rattle.model.specs.States.{Going, begun, ended, log_of}
use Rattle.model.specs.Calls.{totals_verdict, limit_verdict, log_names, order_verdict}
use Rattle.model.specs.Soundness.{SoundImage}
use Rattle.model.proofs.Places.{current_place, pending_place}
use Rattle.model.proofs.Keeping.{logs_at}
use Rattle.model.proofs.StayingSound.{ended_sound, ended_head, formed_of}
use Rattle.refusals.specs.declared.fault.MeterFault.TheVariants.{OutOfOrder}
use Rattle.unseen.specs.Unseen.{SameSeen, Alike, OwnKept, StagingKept, said_by, slot_span}
use Rattle.unseen.proofs.Held.{Counted}
use Rattle.unseen.proofs.Together.{Steady, tail_high, beyond_stored, slot_stored}
use Rattle.unseen.proofs.Placing.{own_all}
use Rattle.unseen.proofs.Stepping.{Run}

log_counted : (size : ℕ) (l : LogHead) → LogFormed size l → (l.held ≤ size) × (l.held ≤ l.total)
log_counted size l f =
    let parts = and_parts (leb l.unread l.held) _ f.counts in
    let more = and_parts (leb l.held size) _ parts.1 in
    (leb-true _ _ more.0, leb-true _ _ more.1)

counts_of : (h : Head) → WellFormed h → (name : LogName) → Counted (log_place name) (log_of name h)
counts_of h w History = log_counted 102 _ (logs_at log_sizes h.logs 0 empty_head w.logs (omega arith))
counts_of h w SelfReads = log_counted 24 _ (logs_at log_sizes h.logs 1 empty_head w.logs (omega arith))
counts_of h w LoadProfile = log_counted 672 _ (logs_at log_sizes h.logs 2 empty_head w.logs (omega arith))

steady_of : (h : Head) (bs : List Block) → WellFormed h → SoundImage bs → Steady h bs
steady_of h bs w i = record { ready = i.ready; whole = i.whole; rows = w.three; logs = logs_three h.logs w.logs; counts = counts_of h w }

pub begun_run : (a b : List Block) → Alike a b → Run a (begun a) (begun b)
begun_run a b alike =
    let formed = formed_of a alike.left in
    record {
      heads = ap decode_head alike.zero;
      entries = refl;
      to = record { left = steady_of (said_by a) a formed alike.left; right = steady_of (said_by a) b formed alike.right; seen = alike.seen; own = own_all (said_by a) a };
    }

-- block 0 is neither a table's nor a log's
ended_content : (g : Going) (n : ℕ) → n ≢ 0 → content_of (ended g) n ≡ content_of g.blocks n
unfolding ended
ended_content g n ne = content_other g.blocks 0 n _ ne

ended_zero : (g : Going) → Ready g.blocks → content_of (ended g) 0 ≡ encode_head g.head
unfolding ended
ended_zero g ready = content_same g.blocks 0 (encode_head g.head) (omega (arith, ready.enough))

ended_slot : (g : Going) (name : LogName) (slot : ℕ) → slot_bytes (log_place name) slot (ended g) ≡ slot_bytes (log_place name) slot g.blocks
unfolding ended
ended_slot g name slot = slot_stored name slot 0 _ g.blocks (omega arith)

ended_beyond : (g : Going) → drop needed (ended g) ≡ drop needed g.blocks
unfolding ended
ended_beyond g = beyond_stored g.blocks 0 _ (omega arith)

above_current : (t : PendingTable) → current_block t ≢ 0
above_current t e = omega (arith, (current_place t).0)

above_pending : (t : PendingTable) → pending_block t ≢ 0
above_pending t e = omega (arith, (pending_place t).0)

ended_seen : (h : Head) (g k : Going) → SameSeen h g.blocks k.blocks → SameSeen h (ended g) (ended k)
ended_seen h g k seen = record {
  utility = ap (part 40 0) (ended_content g 1 (λ e. omega arith)) ∙ seen.utility ∙ sym (ap (part 40 0) (ended_content k 1 (λ e. omega arith)));
  current = λ t.
      ap (part (staged_length t) 0) (ended_content g (current_block t) (above_current t)) ∙ seen.current t ∙ sym (ap (part (staged_length t) 0) (ended_content k (current_block t) (above_current t)));
  staged = λ t w.
      ap (part (staged_length t) 0) (ended_content g (pending_block t) (above_pending t)) ∙ seen.staged t w ∙ sym (ap (part (staged_length t) 0) (ended_content k (pending_block t) (above_pending t)));
  slots = λ name slot lt held. ended_slot g name slot ∙ seen.slots name slot lt held ∙ sym (ended_slot k name slot);
}

pub ended_alike : {a : List Block} (g k : Going) → Run a g k → WellFormed g.head → Alike (ended g) (ended k)
ended_alike g k run formed =
    let x = run.to.left in
    let y = run.to.right in
    record {
      left = ended_sound g formed x.ready x.whole;
      right = ended_sound k (subst WellFormed run.heads formed) y.ready y.whole;
      zero = ended_zero g x.ready ∙ ap encode_head run.heads ∙ sym (ended_zero k y.ready);
      seen = subst (λ h. SameSeen h (ended g) (ended k)) (sym (ended_head g formed x.ready)) (ended_seen g.head g k run.to.seen);
    }

pub ended_own : (a : List Block) (g k : Going) → Run a g k → WellFormed g.head → OwnKept a (ended g) × ((t : PendingTable) → StagingKept a (ended g) t)
ended_own a g k run formed =
    let own = run.to.own in
    let says = ended_head g formed run.to.left.ready in (
      record {
        utility = ap (drop 40) (ended_content g 1 (λ e. omega arith)) ∙ own.utility;
        current = λ t. ap (drop (staged_length t)) (ended_content g (current_block t) (above_current t)) ∙ own.current t;
        staging = λ t. ap (drop (staged_length t)) (ended_content g (pending_block t) (above_pending t) ∙ own.staging t);
        slots = λ name slot lt free. ended_slot g name slot ∙ own.slots name slot lt (sym (ap (λ h. is_held (log_place name) (log_of name h) slot) says) ∙ free);
        logs = λ name k lt. ap (drop (slot_span name k)) (ended_content g ((log_place name).first + k) (λ e. omega (arith, tail_high name k))) ∙ own.logs name k lt;
        beyond = ended_beyond g ∙ own.beyond;
      },
      λ t. ended_content g (pending_block t) (above_pending t) ∙ own.staging t,
    )

-- verdicts that see only block 0, or that the blocks are there and sound
pub ready_passes : (bs : List Block) → Ready bs → ready_verdict bs ≡ Ok tt
ready_passes bs ready = cond-false _ _ _ (le-ltb (length bs) needed ready.enough) ∙ ap clean_verdict ready.clean

pub ready_same : (a b : List Block) → Alike a b → ready_verdict a ≡ ready_verdict b
ready_same a b alike = ready_passes a alike.left.ready ∙ sym (ready_passes b alike.right.ready)

pub totals_same : (a b : List Block) → Alike a b → totals_verdict a ≡ totals_verdict b
totals_same a b alike = ap (λ c. limit_verdict log_names (decode_head c)) alike.zero

pub order_same : (a b : List Block) → Alike a b → order_verdict a ≡ order_verdict b
order_same a b alike = ap (λ c. cond (in_order c) (Ok tt) (Err OutOfOrder)) alike.zero
