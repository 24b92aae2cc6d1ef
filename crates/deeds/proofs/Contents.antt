-- Tests of contents, byte by byte, and a table as a write leaves it.
use Rattle.std.proofs.Common.{◌≡◌, ℕ, ◌+◌, ◌-◌, ◌≤◌, ◌&&◌, List, [], ◌∷◌, length, Result, refl, ap, ◌∙◌, arith, rules}
use Rattle.std.specs.List.{list_all}
use Rattle.std.proofs.lemmas.List.{places, same_lists}
use Rattle.access.specs.Ready.{content_of}
use Rattle.fields.specs.Words.{part}
use Rattle.fields.specs.Patches.{patch}
use Rattle.memory.specs.Blocks.{Block}
use Rattle.refusals.specs.declared.fault.ServiceFault.{ServiceFault}
use Rattle.pending.specs.declared.table.PendingTable.{PendingTable}
use Rattle.pending.specs.declared.table.PendingTable.TheVariants.{Calendar, Outputs, Override}
use Rattle.directory.specs.Geometry.{staged_length, current_block}
use Rattle.model.specs.Tables.{current_table}
use Rattle.model.specs.Requests.{content_verdict}
use Rattle.model.specs.Tariffs.{is_tier, all_tiers}
use Rattle.deeds.specs.declared.deed.Deed.{Deed}
use Rattle.deeds.specs.Deeds.{deed_of}

pub all_are_tiers : (bs : List ℕ) → list_all is_tier bs ≡ all_tiers bs
all_are_tiers [] = refl
all_are_tiers (b ∷ bs) = ap (λ rest. is_tier b && rest) (all_are_tiers bs)

-- a write that lies in a table at the front of a block, in that table
patched_front : (from n : ℕ) (new old : List ℕ) → from + length new ≤ n → n ≤ length old → part n 0 (patch from new old) ≡ patch from new (part n 0 old)
unfolding patch
patched_front from n new old fits long = same_lists _ _ (search (rules, places)) (λ k d h. grind (arith, places))

pub staged_short : (w : PendingTable) → staged_length w ≤ 120
staged_short Calendar = omega arith
staged_short Outputs = omega arith
staged_short Override = omega arith

pub left_by_write : (w : PendingTable) (from n k : ℕ) (new old left : List ℕ) (bs : List Block) → n ≡ staged_length w → k ≡ current_block w → old ≡ content_of bs k → left ≡ patch from new old → from + length new ≤ staged_length w → length old ≡ 510 → part (n - 0) 0 left ≡ patch from new (current_table w bs)
left_by_write w from n k new old left bs en ek eo el fits long =
    let span : n - 0 ≡ staged_length w = omega (arith, en) in
    rw (span, el) (patched_front from (staged_length w) new old fits (omega (arith, staged_short w, long)) ∙ ap (λ (x : List ℕ). patch from new (part (staged_length w) 0 x)) (eo ∙ ap (λ (j : ℕ). content_of bs j) ek))

pub verdict_on_same : (d e : Deed) (clock : ℕ) (bs : List Block) (r : Result (Unit {0}) ServiceFault) → d ≡ e → r ≡ content_verdict (deed_of e) clock bs → r ≡ content_verdict (deed_of d) clock bs
verdict_on_same d e clock bs r same is = rw same is
