-- Blocks that no list has: those in which staged tables wait, but for their own staging, and those behind all that a meter needs.
use Rattle.std.proofs.Common.{◌≡◌, ℕ, zero, suc, ◌+◌, ◌<◌, ◌≤◌, true, false, ◌≢◌, ◌⊎◌, List, [], ◌∷◌, get_or, Ok, sym, refl, ap, ◌∙◌, inl, inr, arith}
use Rattle.std.specs.List.{range_with_len}
use Rattle.std.proofs.lemmas.Bool.{true≢false}
use Rattle.access.specs.Ready.{needed}
use Rattle.memory.specs.Blocks.{Block, corrupt}
use Rattle.numbers.specs.declared.log.LogName.TheVariants.{History, LoadProfile}
use Rattle.pending.specs.declared.table.PendingTable.{PendingTable}
use Rattle.pending.specs.declared.table.PendingTable.TheVariants.{Calendar, Outputs, Override}
use Rattle.pending.specs.Tables.{table_number}
use Rattle.request.specs.Asks.{Ask, full_read, partial_read, full_write, partial_write, table_of, service_of}
use Rattle.directory.specs.declared.entry.Source.{Source}
use Rattle.directory.specs.declared.entry.Source.TheVariants as source
use Rattle.directory.specs.Geometry.{current_block, pending_block}
use Rattle.directory.specs.Lawful.{has}
use Rattle.directory.specs.Uses.{is_read, allows}
use Rattle.model.specs.States.{Meter}
use Rattle.effects.specs.Alters.{next_block, activity_blocks, write_blocks, WaitingLeft, BehindLeft}
use Rattle.model.proofs.Places.{current_place, pending_place, which_table}
use Rattle.model.proofs.FoundTables.{number_of, use_of, entry_of}
use Rattle.model.proofs.Accepting.{accepted_from}
use Rattle.effects.proofs.Accepting.{served_leaves}
use Rattle.effects.proofs.AlteredBlocks.{not_listed, three_unlisted, read_left, deed_left, alters}

-- behind
behind_counted : (k n count : ℕ) → n + count ≤ k → has k (range_with_len n count) ≡ false
behind_counted k n zero h = refl
behind_counted k n (suc count) h = not_listed k n (range_with_len (n + 1) count) (λ z. omega arith) (behind_counted k (n + 1) count (omega arith))

behind_activity : (k : ℕ) → needed ≤ k → has k activity_blocks ≡ false
behind_activity k h =
    not_listed k 0 (2 ∷ 3 ∷ 4 ∷ 8 ∷ 9 ∷ 10 ∷ 11 ∷ []) (λ z. omega arith) (not_listed k 2 (3 ∷ 4 ∷ 8 ∷ 9 ∷ 10 ∷ 11 ∷ []) (λ z. omega arith) (not_listed k 3 (4 ∷ 8 ∷ 9 ∷ 10 ∷ 11 ∷ []) (λ z. omega arith)
    (not_listed k 4 (8 ∷ 9 ∷ 10 ∷ 11 ∷ []) (λ z. omega arith) (not_listed k 8 (9 ∷ 10 ∷ 11 ∷ []) (λ z. omega arith) (not_listed k 9 (10 ∷ 11 ∷ []) (λ z. omega arith) (not_listed k 10 (11 ∷ []) (λ z. omega arith) (not_listed k 11 [] (λ z. omega arith) refl)))))))

behind_write : (k n : ℕ) (bs : List Block) → needed ≤ k → n < 8 → has k (0 ∷ n ∷ next_block History bs ∷ []) ≡ false
behind_write k n bs h low = three_unlisted k n (next_block History bs) (λ z. omega arith) (λ z. omega arith) (λ z. omega arith)

behind_source : (src : Source) (bs : List Block) (k : ℕ) → needed ≤ k → has k (write_blocks src bs) ≡ false
behind_source (source.Computed v) bs k h = refl
behind_source source.Initiate bs k h = behind_activity k h
behind_source source.Utility bs k h = behind_write k 1 bs h (omega arith)
behind_source (source.Staged t) bs k h = behind_write k (current_block t) bs h (omega (arith, (current_place t).1))
behind_source (source.Pending t) bs k h = behind_write k (pending_block t) bs h (pending_place t).1
behind_source (source.Log name) bs k h = refl

pub behind_left : BehindLeft
behind_left = record {
  format = λ bs k h. alters.format bs k (behind_counted k 0 27 (omega arith));
  start = λ bs s k h. alters.start bs s k (behind_activity k h);
  tick = λ m k h. alters.tick m k (not_listed k (next_block LoadProfile m.blocks) activity_blocks (λ z. omega arith) (behind_activity k h));
  energy = λ wh m k h. alters.energy wh m k (not_listed k 0 [] (λ z. omega arith) refl);
  serve = λ key bytes m answer scratch k h. served_leaves (λ now. get_or now.blocks k corrupt ≡ get_or m.blocks k corrupt) key bytes m answer scratch refl (λ d admits.
      let x = accepted_from key bytes m d admits in
      deed_left x.1 x.0 d m x.3.allowed x.3.fit k (behind_source x.1 m.blocks k h));
}

-- where staged tables wait
waiting_activity : (t : PendingTable) → has (pending_block t) activity_blocks ≡ false
waiting_activity Calendar = refl
waiting_activity Outputs = refl
waiting_activity Override = refl

waiting_write : (t : PendingTable) (n : ℕ) (bs : List Block) → pending_block t ≢ n → has (pending_block t) (0 ∷ n ∷ next_block History bs ∷ []) ≡ false
waiting_write t n bs ne = let low = pending_place t in three_unlisted (pending_block t) n (next_block History bs) (λ z. omega arith) ne (λ z. omega arith)

-- a request that is no staging of the table: either it is a read, or it names another source
abbrev Elsewhere : PendingTable → Source → List Block → Type 0
Elsewhere t src bs = has (pending_block t) (write_blocks src bs) ≡ false

elsewhere : (t : PendingTable) (src : Source) (bs : List Block) (a : Ask) → number_of src ≡ table_of a → allows (use_of src) (service_of a) ≡ true → ((content : List ℕ) → a ≢ full_write (4096 + table_number t) content) → (is_read (service_of a) ≡ true) ⊎ Elsewhere t src bs
elsewhere t src bs (full_read n) number al not = inl refl
elsewhere t src bs (partial_read n offset count) number al not = inl refl
elsewhere t (source.Computed v) bs (full_write n content) number al not = inr refl
elsewhere t source.Initiate bs (full_write n content) number al not = inr (waiting_activity t)
elsewhere t source.Utility bs (full_write n content) number al not = inr (waiting_write t 1 bs (λ z. omega (arith, (pending_place t).0)))
elsewhere t (source.Staged u) bs (full_write n content) number al not = inr (waiting_write t (current_block u) bs (λ z. omega (arith, (pending_place t).0, (current_place u).1)))
elsewhere t (source.Pending u) bs (full_write n content) number al not =
    elim (which_table t u) [
      | inl same ↦
          let is : n ≡ 4096 + table_number t = sym number ∙ ap (λ v. 4096 + table_number v) (sym same) in
          absurd (not content (ap (λ k. full_write k content) is))
      | inr apart ↦ inr (waiting_write t (pending_block u) bs apart.pendings)
    ]
elsewhere t (source.Log name) bs (full_write n content) number al not = inr refl
elsewhere t (source.Computed v) bs (partial_write n offset content) number al not = inr refl
elsewhere t source.Initiate bs (partial_write n offset content) number al not = inr (waiting_activity t)
elsewhere t source.Utility bs (partial_write n offset content) number al not = inr (waiting_write t 1 bs (λ z. omega (arith, (pending_place t).0)))
elsewhere t (source.Staged u) bs (partial_write n offset content) number al not = inr (waiting_write t (current_block u) bs (λ z. omega (arith, (pending_place t).0, (current_place u).1)))
elsewhere t (source.Pending u) bs (partial_write n offset content) number al not = absurd (true≢false (sym al))
elsewhere t (source.Log name) bs (partial_write n offset content) number al not = inr refl

pub waiting_left : WaitingLeft
waiting_left = record {
  start = λ bs s t. alters.start bs s (pending_block t) (waiting_activity t);
  tick = λ m t. let low = pending_place t in alters.tick m (pending_block t) (not_listed (pending_block t) (next_block LoadProfile m.blocks) activity_blocks (λ z. omega arith) (waiting_activity t));
  energy = λ wh m t. let low = pending_place t in alters.energy wh m (pending_block t) (not_listed (pending_block t) 0 [] (λ z. omega arith) refl);
  serve = λ key bytes m answer scratch t not. served_leaves (λ now. get_or now.blocks (pending_block t) corrupt ≡ get_or m.blocks (pending_block t) corrupt) key bytes m answer scratch refl (λ d admits.
      let x = accepted_from key bytes m d admits in
      elim (elsewhere t x.1 m.blocks x.0 x.3.number x.3.allowed (λ content e. not content (x.2 ∙ ap Ok e))) [
        | inl r ↦ ap (λ (now : Meter). get_or now.blocks (pending_block t) corrupt) (read_left x.0 (entry_of x.1) d m r x.3.fit)
        | inr apart ↦ deed_left x.1 x.0 d m x.3.allowed x.3.fit (pending_block t) apart
      ]);
}
