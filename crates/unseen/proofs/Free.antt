-- What is not seen may be anything.
use Rattle.std.proofs.Common.{◌≡◌, ℕ, zero, suc, ◌+◌, ◌/◌, ◌<◌, ◌≤◌, true, false, List, [], ◌∷◌, ◌++◌, length, take, sym, ap, ◌∙◌, subst, inl, inr, arith}
use Rattle.std.proofs.lemmas.List.{get_or_append_left, get_or-take, take_at, length-append, length-take}
use Rattle.std.proofs.lemmas.Bool.{cases_eq, both_ways}
use Rattle.access.specs.Ready.{needed, Ready, content_of, stored}
use Rattle.access.proofs.Readiness.{ready_stored, content_long}
use Rattle.fields.specs.Words.{part}
use Rattle.fields.specs.Patches.{patch}
use Rattle.fields.proofs.Places.{length_patch, part_patch_other}
use Rattle.memory.specs.Blocks.{Block, corrupt, content_or, corrupt_from, Whole}
use Rattle.numbers.specs.declared.log.LogName.{LogName}
use Rattle.numbers.specs.declared.log.LogName.TheVariants.{History, SelfReads, LoadProfile}
use Rattle.logs.specs.Slots.{per_block, slot_block, slot_place, slot_bytes, put_slot}
use Rattle.logs.specs.Tables.{is_held}
use Rattle.logs.proofs.SlotWrites.{put_ready, put_whole, put_other, put_beside, slot_beside, content_same, content_other}
use Rattle.pending.specs.declared.table.PendingTable.{PendingTable}
use Rattle.pending.specs.Rows.{is_waiting}
use Rattle.directory.specs.Geometry.{log_place, log_blocks, staged_length, current_block, pending_block}
use Rattle.head.specs.Heads.{decode_head}
use Rattle.model.specs.States.{row_of, log_of}
use Rattle.model.specs.Soundness.{SoundImage}
use Rattle.model.proofs.Places.{current_place, pending_place, which_table, log_fits}
use Rattle.model.proofs.Activating.{whole_stored}
use Rattle.model.proofs.StayingSound.{whole_append}
use Rattle.unseen.specs.Unseen.{SameSeen, Alike, UnseenIsFree, said_by, slot_span}
use Rattle.unseen.proofs.Together.{which_log, log_high, log_inside, span_holds, tail_high, slot_stored}

-- another content in a block that is not block 0
stored_sound : (bs : List Block) (k : ℕ) (c : List ℕ) → SoundImage bs → 0 < k → length c ≡ 510 → SoundImage (stored bs k c)
stored_sound bs k c i above long = record {
  ready = ready_stored bs k c i.ready;
  whole = whole_stored bs k c i.whole long;
  head = i.head;
  formed = i.formed;
  says = content_other bs k 0 c (λ e. omega arith) ∙ i.says;
}

altered : (bs : List Block) (k : ℕ) (c : List ℕ) → SoundImage bs → 0 < k → length c ≡ 510 → SameSeen (said_by bs) bs (stored bs k c) → Alike bs (stored bs k c)
altered bs k c i above long seen = record { left = i; right = stored_sound bs k c i above long; zero = sym (content_other bs k 0 c (λ e. omega arith)); seen = seen }

-- bytes from a place on that lies behind what can be seen of the block
pub record Behind (k from : ℕ) : Type 0 where
  pub utility : 1 ≡ k → 40 ≤ from
  pub current : (t : PendingTable) → current_block t ≡ k → staged_length t ≤ from
  pub staged : (t : PendingTable) → pending_block t ≡ k → staged_length t ≤ from
  pub slots : (name : LogName) (slot : ℕ) → slot < (log_place name).size → slot_block (log_place name) slot ≡ k → slot_place (log_place name) slot + (log_place name).width ≤ from

module _ (bs : List Block) (k from : ℕ) (bytes : List ℕ) (i : SoundImage bs) (above : 0 < k) (inside : k < needed) (room : from + length bytes ≤ 510) where
  abbrev new : List ℕ
  new = patch from bytes (content_of bs k)

  long : length (content_of bs k) ≡ 510
  long = content_long bs i.whole i.ready k inside

  part_kept : (n at w : ℕ) → (n ≡ k → at + w ≤ from) → part w at (content_of bs n) ≡ part w at (content_of (stored bs k new) n)
  part_kept n at w short =
      elim (cases_eq n k) [
        | inl e ↦
            subst (λ j. part w at (content_of bs j) ≡ part w at (content_of (stored bs k new) j)) (sym e)
            (sym (ap (part w at) (content_same bs k new (omega (arith, i.ready.enough))) ∙ part_patch_other from w at bytes (content_of bs k) (omega (arith, long)) (inl (short e))))
        | inr ne ↦ sym (ap (part w at) (content_other bs k n new ne))
      ]

  slot_kept : (name : LogName) (slot : ℕ) → (slot_block (log_place name) slot ≡ k → slot_place (log_place name) slot + (log_place name).width ≤ from) → slot_bytes (log_place name) slot bs ≡ slot_bytes (log_place name) slot (stored bs k new)
  unfolding slot_bytes
  slot_kept name slot short = part_kept (slot_block (log_place name) slot) (slot_place (log_place name) slot) (log_place name).width short

  behind_free : Behind k from → Alike bs (stored bs k new)
  behind_free behind =
      altered bs k new i above (length_patch from bytes (content_of bs k) (omega (arith, long)) ∙ long)
      (record {
        utility = part_kept 1 0 40 behind.utility;
        current = λ t. part_kept (current_block t) 0 (staged_length t) (λ e. omega (arith, behind.current t e));
        staged = λ t w. part_kept (pending_block t) 0 (staged_length t) (λ e. omega (arith, behind.staged t e));
        slots = λ name slot lt held. slot_kept name slot (behind.slots name slot lt);
      })

one_current : (t u : PendingTable) (from : ℕ) → staged_length t ≤ from → current_block u ≡ current_block t → staged_length u ≤ from
one_current t u from short e = elim (which_table u t) [ inl same ↦ subst (λ v. staged_length v ≤ from) (sym same) short | inr apart ↦ absurd (apart.currents e) ]

one_pending : (t u : PendingTable) (from : ℕ) → staged_length t ≤ from → pending_block u ≡ pending_block t → staged_length u ≤ from
one_pending t u from short e = elim (which_table u t) [ inl same ↦ subst (λ v. staged_length v ≤ from) (sym same) short | inr apart ↦ absurd (apart.pendings e) ]

utility_behind : (from : ℕ) → 40 ≤ from → Behind 1 from
utility_behind from short = record {
  utility = λ e. short;
  current = λ t e. absurd (omega (arith, (current_place t).0));
  staged = λ t e. absurd (omega (arith, (pending_place t).0));
  slots = λ name slot lt e. absurd (omega (arith, log_high name slot));
}

current_behind : (t : PendingTable) (from : ℕ) → staged_length t ≤ from → Behind (current_block t) from
current_behind t from short = record {
  utility = λ e. absurd (omega (arith, (current_place t).0));
  current = λ u e. one_current t u from short e;
  staged = λ u e. absurd (omega (arith, (current_place t).1, (pending_place u).0));
  slots = λ name slot lt e. absurd (omega (arith, (current_place t).1, log_high name slot));
}

staged_behind : (t : PendingTable) (from : ℕ) → staged_length t ≤ from → Behind (pending_block t) from
staged_behind t from short = record {
  utility = λ e. absurd (omega (arith, (pending_place t).0));
  current = λ u e. absurd (omega (arith, (pending_place t).0, (current_place u).1));
  staged = λ u e. one_pending t u from short e;
  slots = λ name slot lt e. absurd (omega (arith, (pending_place t).1, log_high name slot));
}

log_behind : (name : LogName) (k from : ℕ) → k < log_blocks name → slot_span name k ≤ from → Behind ((log_place name).first + k) from
log_behind name k from lt short = record {
  utility = λ e. absurd (omega (arith, tail_high name k));
  current = λ t e. absurd (omega (arith, tail_high name k, (current_place t).1));
  staged = λ t e. absurd (omega (arith, tail_high name k, (pending_place t).1));
  slots = λ other slot below e. elim (which_log name other) [
    | inl same ↦
        subst (λ n. slot < (log_place n).size → slot_block (log_place n) slot ≡ (log_place name).first + k → slot_place (log_place n) slot + (log_place n).width ≤ from) same
        (λ l q.
        let is : slot / per_block (log_place name) ≡ k = omega arith in
        let span : slot_span name (slot / per_block (log_place name)) ≤ from = rw is short in
        omega (arith, span_holds name slot l)) below e
    | inr apart ↦ absurd (apart.spans k slot lt below (sym e))
  ];
}

tail_inside : (name : LogName) (k : ℕ) → k < log_blocks name → (log_place name).first + k < needed
tail_inside History k lt = omega arith
tail_inside SelfReads k lt = omega arith
tail_inside LoadProfile k lt = omega arith

-- a memory with the same blocks in front of the logs
fronts_alike : (bs cs : List Block) → SoundImage bs → Ready cs → Whole cs → ((k : ℕ) → k < 8 → content_of cs k ≡ content_of bs k) →
    ((name : LogName) (slot : ℕ) → slot < (log_place name).size → is_held (log_place name) (log_of name (said_by bs)) slot ≡ true → slot_bytes (log_place name) slot bs ≡ slot_bytes (log_place name) slot cs) → Alike bs cs
fronts_alike bs cs i ready whole same slots = record {
  left = i;
  right = record { ready = ready; whole = whole; head = i.head; formed = i.formed; says = same 0 (omega arith) ∙ i.says };
  zero = sym (same 0 (omega arith));
  seen = record {
    utility = sym (ap (part 40 0) (same 1 (omega arith)));
    current = λ t. sym (ap (part (staged_length t) 0) (same (current_block t) (omega (arith, (current_place t).1))));
    staged = λ t w. sym (ap (part (staged_length t) 0) (same (pending_block t) (pending_place t).1));
    slots = slots;
  };
}

-- a slot that holds no entry
slot_free : (bs : List Block) (name : LogName) (slot : ℕ) (bytes : List ℕ) → SoundImage bs → slot < (log_place name).size → length bytes ≡ (log_place name).width →
    is_held (log_place name) (log_of name (said_by bs)) slot ≡ false → Alike bs (put_slot (log_place name) slot bytes bs)
slot_free bs name slot bytes i below long free =
    let log = log_place name in
    fronts_alike bs (put_slot log slot bytes bs) i (put_ready log slot bytes bs i.ready) (put_whole log (log_fits name) bs i.ready i.whole slot below bytes long)
    (λ k lt. put_beside log slot k bytes bs (λ e. omega (arith, log_high name slot)))
    (λ other j lt held. elim (which_log other name) [
      | inl e ↦
          subst (λ n. is_held (log_place n) (log_of n (said_by bs)) j ≡ true → slot_bytes (log_place n) j bs ≡ slot_bytes (log_place n) j (put_slot log slot bytes bs)) (sym e)
          (λ h. sym (put_other log (log_fits name) bs i.ready i.whole slot below bytes long j (λ same. both_ways _ free (ap (is_held log (log_of name (said_by bs))) (sym same) ∙ h)))) held
      | inr apart ↦ sym (slot_beside log (log_place other) slot j bytes bs (apart.blocks j slot lt below))
    ])

-- the staging block of a row that does not wait
staging_free : (bs : List Block) (t : PendingTable) (content : List ℕ) → SoundImage bs → length content ≡ 510 → is_waiting (row_of t (said_by bs)) ≡ false → Alike bs (stored bs (pending_block t) content)
staging_free bs t content i long idle =
    altered bs (pending_block t) content i (omega (arith, (pending_place t).0)) long
    (record {
      utility = sym (ap (part 40 0) (content_other bs (pending_block t) 1 content (λ e. omega (arith, (pending_place t).0))));
      current = λ u. sym (ap (part (staged_length u) 0) (content_other bs (pending_block t) (current_block u) content (λ e. omega (arith, (pending_place t).0, (current_place u).1))));
      staged = λ u w. elim (which_table u t) [
        | inl e ↦ absurd (both_ways (is_waiting (row_of t (said_by bs))) idle (subst (λ v. is_waiting (row_of v (said_by bs)) ≡ true) e w))
        | inr apart ↦ sym (ap (part (staged_length u) 0) (content_other bs (pending_block t) (pending_block u) content apart.pendings))
      ];
      slots = λ name slot lt held. sym (slot_stored name slot (pending_block t) content bs (pending_place t).1);
    })

-- blocks that a meter does not need
whole_take : (n : ℕ) (bs : List Block) → Whole bs → Whole (take n bs)
whole_take zero bs w = tt
whole_take (suc n) [] w = tt
whole_take (suc n) (b ∷ bs) w = (w.0, whole_take n bs w.1)

beyond_free : (bs rest : List Block) → SoundImage bs → Whole rest → Alike bs (take needed bs ++ rest)
unfolding slot_bytes
beyond_free bs rest i whole =
    let front : length (take needed bs) ≡ needed = rw length-take (omega (arith, i.ready.enough)) in
    let same : (k : ℕ) → k < needed → content_of (take needed bs ++ rest) k ≡ content_of bs k =
    λ k lt. ap (content_or []) (get_or_append_left (take needed bs) rest corrupt k (omega arith) ∙ get_or-take needed bs k corrupt lt) in
    fronts_alike bs (take needed bs ++ rest) i
    (record { enough = rw length-append (omega arith); clean = ap (corrupt_from 0) (take_at (take needed bs) rest needed front) ∙ i.ready.clean })
    (whole_append (take needed bs) rest (whole_take needed bs i.whole) whole) (λ k lt. same k (omega arith))
    (λ name slot lt held. sym (ap (part (log_place name).width (slot_place (log_place name) slot)) (same (slot_block (log_place name) slot) (log_inside name slot lt))))

all_round : (a b c : List Block) → Alike a b → Alike a c → Alike b c
all_round a b c one two =
    let said : said_by b ≡ said_by a = ap decode_head (sym one.zero) in
    record {
      left = one.right;
      right = two.right;
      zero = sym one.zero ∙ two.zero;
      seen = subst (λ h. SameSeen h b c) (sym said) (record {
        utility = sym one.seen.utility ∙ two.seen.utility;
        current = λ t. sym (one.seen.current t) ∙ two.seen.current t;
        staged = λ t w. sym (one.seen.staged t w) ∙ two.seen.staged t w;
        slots = λ name slot lt held. sym (one.seen.slots name slot lt held) ∙ two.seen.slots name slot lt held;
      });
    }

pub unseen_is_free : UnseenIsFree
unseen_is_free = record {
  slot = slot_free;
  staging = staging_free;
  utility = λ bs from bytes i short room. behind_free bs 1 from bytes i (omega arith) (omega arith) room (utility_behind from short);
  current = λ bs t from bytes i short room.
      behind_free bs (current_block t) from bytes i (omega (arith, (current_place t).0)) (omega (arith, (current_place t).1)) room (current_behind t from short);
  staged = λ bs t from bytes i short room.
      behind_free bs (pending_block t) from bytes i (omega (arith, (pending_place t).0)) (omega (arith, (pending_place t).1)) room (staged_behind t from short);
  logs = λ bs name k from bytes i lt short room.
      behind_free bs ((log_place name).first + k) from bytes i (omega (arith, tail_high name k)) (tail_inside name k lt) room (log_behind name k from lt short);
  beyond = beyond_free;
  same = all_round;
}
