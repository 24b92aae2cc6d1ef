-- Bytes put into a table in force, and a table staged.
use Rattle.std.proofs.Common.{◌≡◌, ℕ, ◌+◌, ◌<◌, ◌≤◌, true, ◌≢◌, ◌⊎◌, List, length, drop, sym, refl, ap, ◌∙◌, subst, inl, inr, arith}
use Rattle.std.proofs.lemmas.List.{length-take}
use Rattle.access.specs.Ready.{content_of, stored}
use Rattle.access.proofs.Readiness.{ready_stored, content_long}
use Rattle.fields.specs.Words.{part}
use Rattle.fields.specs.Patches.{patch}
use Rattle.fields.proofs.Places.{length_patch, part_patch_same}
use Rattle.memory.specs.Blocks.{Block}
use Rattle.logs.proofs.SlotWrites.{content_same, content_other}
use Rattle.pending.specs.declared.row.Row.{Row}
use Rattle.pending.specs.declared.table.PendingTable.{PendingTable}
use Rattle.pending.specs.Rows.{is_waiting}
use Rattle.directory.specs.Geometry.{log_place, staged_length, current_block, pending_block}
use Rattle.head.specs.declared.head.Head.{Head}
use Rattle.model.specs.States.{row_of, set_row}
use Rattle.model.specs.Steps.{brought_in}
use Rattle.model.specs.Tables.{staged_table}
use Rattle.model.proofs.Places.{current_place, pending_place, which_table, staged_short, part_patch_within}
use Rattle.model.proofs.Activating.{whole_stored}
use Rattle.unseen.specs.Unseen.{SameSeen, slot_span}
use Rattle.unseen.proofs.Together.{Steady, Own, Together, tail_high, drop_patch, beyond_stored, slot_stored, row_together}

-- a table in force: the utility table, or one that can be staged
pub data InForce : Type 0 where
  utility : InForce
  stageable : PendingTable → InForce

abbrev pub block_of : InForce → ℕ
block_of utility = 1
block_of (stageable t) = current_block t

abbrev pub length_of : InForce → ℕ
length_of utility = 40
length_of (stageable t) = staged_length t

place : (q : InForce) → (0 < block_of q) × (block_of q < 5) × (length_of q ≤ 510)
place utility = (omega arith, omega arith, omega arith)
place (stageable t) = (omega (arith, (current_place t).0), (current_place t).1, staged_short t)

which : (q r : InForce) → (q ≡ r) ⊎ (block_of q ≢ block_of r)
which utility utility = inl refl
which utility (stageable u) = inr (λ e. omega (arith, (current_place u).0))
which (stageable t) utility = inr (λ e. omega (arith, (current_place t).0))
which (stageable t) (stageable u) = elim (which_table t u) [ inl e ↦ inl (ap stageable e) | inr apart ↦ inr apart.currents ]

module _ (q : InForce) (from : ℕ) (new : List ℕ) (fits : from + length new ≤ length_of q) where
  abbrev put : List Block → List Block
  put bs = stored bs (block_of q) (patch from new (content_of bs (block_of q)))

  put_steady : (h : Head) (bs : List Block) → Steady h bs → Steady h (put bs)
  put_steady h bs st =
      let long : length (content_of bs (block_of q)) ≡ 510 = content_long bs st.whole st.ready (block_of q) (omega (arith, (place q).1)) in
      record {
        ready = ready_stored bs (block_of q) _ st.ready;
        whole = whole_stored bs (block_of q) _ st.whole (length_patch from new (content_of bs (block_of q)) (omega (arith, (place q).2)) ∙ long);
        rows = st.rows;
        logs = st.logs;
        counts = st.counts;
      }

  there : (h : Head) (bs : List Block) → Steady h bs → content_of (put bs) (block_of q) ≡ patch from new (content_of bs (block_of q))
  there h bs st = content_same bs (block_of q) _ (omega (arith, (place q).1, st.ready.enough))

  long : (h : Head) (bs : List Block) → Steady h bs → length_of q ≤ length (content_of bs (block_of q))
  long h bs st = omega (arith, (place q).2, content_long bs st.whole st.ready (block_of q) (omega (arith, (place q).1)))

  elsewhere : (bs : List Block) (k : ℕ) → k ≢ block_of q → content_of (put bs) k ≡ content_of bs k
  elsewhere bs k ne = content_other bs (block_of q) k _ ne

  put_table : (h : Head) (bs : List Block) → Steady h bs → part (length_of q) 0 (content_of (put bs) (block_of q)) ≡ patch from new (part (length_of q) 0 (content_of bs (block_of q)))
  put_table h bs st = ap (part (length_of q) 0) (there h bs st) ∙ part_patch_within (length_of q) from new (content_of bs (block_of q)) fits (long h bs st)

  put_behind : (h : Head) (bs : List Block) → Steady h bs → (r : InForce) → drop (length_of r) (content_of (put bs) (block_of r)) ≡ drop (length_of r) (content_of bs (block_of r))
  put_behind h bs st r =
      elim (which r q) [
        | inl e ↦
            subst (λ p. drop (length_of p) (content_of (put bs) (block_of p)) ≡ drop (length_of p) (content_of bs (block_of p))) (sym e)
            (ap (drop (length_of q)) (there h bs st) ∙ drop_patch (length_of q) from new (content_of bs (block_of q)) fits (long h bs st))
        | inr ne ↦ ap (drop (length_of r)) (elsewhere bs (block_of r) ne)
      ]

  put_tables : (h : Head) (x y : List Block) → Steady h x → Steady h y → ((r : InForce) → part (length_of r) 0 (content_of x (block_of r)) ≡ part (length_of r) 0 (content_of y (block_of r))) →
      (r : InForce) → part (length_of r) 0 (content_of (put x) (block_of r)) ≡ part (length_of r) 0 (content_of (put y) (block_of r))
  put_tables h x y sx sy same r =
      elim (which r q) [
        | inl e ↦
            subst (λ p. part (length_of p) 0 (content_of (put x) (block_of p)) ≡ part (length_of p) 0 (content_of (put y) (block_of p))) (sym e)
            (put_table h x sx ∙ ap (patch from new) (same q) ∙ sym (put_table h y sy))
        | inr ne ↦ ap (part (length_of r) 0) (elsewhere x (block_of r) ne) ∙ same r ∙ sym (ap (part (length_of r) 0) (elsewhere y (block_of r) ne))
      ]

  away : (t : PendingTable) → pending_block t ≢ block_of q
  away t e = omega (arith, (place q).1, (pending_place t).0)

  put_seen : (h : Head) (x y : List Block) → Steady h x → Steady h y → SameSeen h x y → SameSeen h (put x) (put y)
  put_seen h x y sx sy seen =
      let all : (r : InForce) → part (length_of r) 0 (content_of (put x) (block_of r)) ≡ part (length_of r) 0 (content_of (put y) (block_of r)) = put_tables h x y sx sy (tables h x y seen) in
      record {
        utility = all utility;
        current = λ t. all (stageable t);
        staged = λ t w. ap (part (staged_length t) 0) (elsewhere x (pending_block t) (away t)) ∙ seen.staged t w ∙ sym (ap (part (staged_length t) 0) (elsewhere y (pending_block t) (away t)));
        slots = λ name slot lt held. slot_stored name slot (block_of q) _ x (omega (arith, (place q).1)) ∙ seen.slots name slot lt held ∙ sym (slot_stored name slot (block_of q) _ y (omega (arith, (place q).1)));
      }
    where
      tables : (h : Head) (x y : List Block) → SameSeen h x y → (r : InForce) → part (length_of r) 0 (content_of x (block_of r)) ≡ part (length_of r) 0 (content_of y (block_of r))
      tables h x y seen utility = seen.utility
      tables h x y seen (stageable t) = seen.current t

  put_own : (a : List Block) (h : Head) (x : List Block) → Steady h x → Own a h x → Own a h (put x)
  put_own a h x sx own = record {
    utility = put_behind h x sx utility ∙ own.utility;
    current = λ t. put_behind h x sx (stageable t) ∙ own.current t;
    staging = λ t. elsewhere x (pending_block t) (away t) ∙ own.staging t;
    slots = λ name slot lt free. slot_stored name slot (block_of q) _ x (omega (arith, (place q).1)) ∙ own.slots name slot lt free;
    logs = λ name k lt. ap (drop (slot_span name k)) (elsewhere x ((log_place name).first + k) (λ e. omega (arith, (place q).1, tail_high name k))) ∙ own.logs name k lt;
    beyond = beyond_stored x (block_of q) _ (omega (arith, (place q).1)) ∙ own.beyond;
  }

  pub put_together : {a : List Block} (h : Head) (x y : List Block) → Together a h x y → Together a h (put x) (put y)
  put_together {a} h x y to = record {
    left = put_steady h x to.left;
    right = put_steady h y to.right;
    seen = put_seen h x y to.left to.right to.seen;
    own = put_own a h x to.left to.own;
  }

-- the staged bytes of a row that waits become the table
pub brought_together : {a : List Block} (t : PendingTable) (h : Head) (x y : List Block) → is_waiting (row_of t h) ≡ true → Together a h x y → Together a h (brought_in t x) (brought_in t y)
brought_together {a} t h x y waits to =
    let short : 0 + length (staged_table t x) ≤ staged_length t = rw length-take (omega arith) in
    subst (λ new. Together a h (brought_in t x) (stored y (current_block t) (patch 0 new (content_of y (current_block t))))) (to.seen.staged t waits)
    (put_together (stageable t) 0 (staged_table t x) short h x y to)

-- a memory's own is its own
pub own_all : (h : Head) (x : List Block) → Own x h x
own_all h x = record { utility = refl; current = λ t. refl; staging = λ t. refl; slots = λ name slot lt free. refl; logs = λ name k lt. refl; beyond = refl }

-- a staging: the new table stands in its block, and the row waits
module _ (t : PendingTable) (new : List ℕ) (whole : length new ≡ staged_length t) where
  abbrev stage : List Block → List Block
  stage bs = stored bs (pending_block t) (patch 0 new (content_of bs (pending_block t)))

  room : (h : Head) (bs : List Block) → Steady h bs → 0 + length new ≤ length (content_of bs (pending_block t))
  room h bs st = omega (arith, staged_short t, content_long bs st.whole st.ready (pending_block t) (omega (arith, (pending_place t).1)))

  stage_steady : (h : Head) (bs : List Block) → Steady h bs → Steady h (stage bs)
  stage_steady h bs st = record {
    ready = ready_stored bs (pending_block t) _ st.ready;
    whole = whole_stored bs (pending_block t) _ st.whole
        (length_patch 0 new (content_of bs (pending_block t)) (room h bs st) ∙ content_long bs st.whole st.ready (pending_block t) (omega (arith, (pending_place t).1)));
    rows = st.rows;
    logs = st.logs;
    counts = st.counts;
  }

  staged_there : (h : Head) (bs : List Block) → Steady h bs → content_of (stage bs) (pending_block t) ≡ patch 0 new (content_of bs (pending_block t))
  staged_there h bs st = content_same bs (pending_block t) _ (omega (arith, (pending_place t).1, st.ready.enough))

  pub stage_elsewhere : (bs : List Block) (k : ℕ) → k ≢ pending_block t → content_of (stage bs) k ≡ content_of bs k
  stage_elsewhere bs k ne = content_other bs (pending_block t) k _ ne

  new_staged : (h : Head) (bs : List Block) → Steady h bs → staged_table t (stage bs) ≡ new
  new_staged h bs st = ap (part (staged_length t) 0) (staged_there h bs st) ∙ part_patch_same 0 (staged_length t) new (content_of bs (pending_block t)) (room h bs st) whole

  -- behind the table its staging block stays
  pub stage_behind : (h : Head) (bs : List Block) → Steady h bs → (u : PendingTable) → drop (staged_length u) (content_of (stage bs) (pending_block u)) ≡ drop (staged_length u) (content_of bs (pending_block u))
  stage_behind h bs st u =
      elim (which_table u t) [
        | inl e ↦
            subst (λ v. drop (staged_length v) (content_of (stage bs) (pending_block v)) ≡ drop (staged_length v) (content_of bs (pending_block v))) (sym e)
            (ap (drop (staged_length t)) (staged_there h bs st) ∙ drop_patch (staged_length t) 0 new (content_of bs (pending_block t)) (omega arith) (omega (arith, room h bs st)))
        | inr apart ↦ ap (drop (staged_length u)) (stage_elsewhere bs (pending_block u) apart.pendings)
      ]

  low : (k : ℕ) → k < 5 → k ≢ pending_block t
  low k lt e = omega (arith, (pending_place t).0)

  stage_seen : (h : Head) (x y : List Block) → Steady h x → Steady h y → SameSeen h x y → SameSeen h (stage x) (stage y)
  stage_seen h x y sx sy seen = record {
    utility = ap (part 40 0) (stage_elsewhere x 1 (low 1 (omega arith))) ∙ seen.utility ∙ sym (ap (part 40 0) (stage_elsewhere y 1 (low 1 (omega arith))));
    current = λ u.
        let ne : current_block u ≢ pending_block t = low (current_block u) (current_place u).1 in
        ap (part (staged_length u) 0) (stage_elsewhere x (current_block u) ne) ∙ seen.current u ∙ sym (ap (part (staged_length u) 0) (stage_elsewhere y (current_block u) ne));
    staged = λ u w. elim (which_table u t) [
      | inl e ↦ subst (λ v. staged_table v (stage x) ≡ staged_table v (stage y)) (sym e) (new_staged h x sx ∙ sym (new_staged h y sy))
      | inr apart ↦
          ap (part (staged_length u) 0) (stage_elsewhere x (pending_block u) apart.pendings) ∙ seen.staged u w
          ∙ sym (ap (part (staged_length u) 0) (stage_elsewhere y (pending_block u) apart.pendings))
    ];
    slots = λ name slot lt held. slot_stored name slot (pending_block t) _ x (pending_place t).1 ∙ seen.slots name slot lt held ∙ sym (slot_stored name slot (pending_block t) _ y (pending_place t).1);
  }

  pub stage_together : {a : List Block} (row : Row) (h : Head) (x y : List Block) → Together a h x y → Together (stage x) (set_row t row h) (stage x) (stage y)
  stage_together row h x y to =
      row_together t row h (stage x) (stage y) (λ w. new_staged h x to.left ∙ sym (new_staged h y to.right))
      (record { left = stage_steady h x to.left; right = stage_steady h y to.right; seen = stage_seen h x y to.left to.right to.seen; own = own_all h (stage x) })
