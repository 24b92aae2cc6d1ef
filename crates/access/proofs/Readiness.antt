-- What is read of a ready memory, and that a write keeps it ready.
use Rattle.std.proofs.Common.{◌≡◌, ℕ, zero, suc, ◌+◌, ◌<◌, ◌≤◌, List, [], ◌∷◌, length, get_or, take, set, None, refl, ap, ◌∙◌, arith}
use Rattle.std.proofs.lemmas.List.{length-set}
use Rattle.std.proofs.lemmas.Bool.{lt-ltb, cond-true}
use Rattle.memory.specs.Blocks.{Block, sound, corrupt, content_or, corrupt_from, lowest_corrupt, WholeBlock, Whole}
use Rattle.memory.specs.Verdicts.{read_content, written}
use Rattle.access.specs.Ready.{needed, Ready, content_of, stored}

sound_at : (i n k : ℕ) (bs : List Block) → corrupt_from i (take n bs) ≡ None → k < n → k < length bs → get_or bs k corrupt ≡ sound (content_or [] (get_or bs k corrupt))
sound_at i zero k bs e h l = absurd (omega arith)
sound_at i (suc n) k [] e h l = absurd (omega arith)
sound_at i (suc n) zero (sound c ∷ bs) e h l = refl
sound_at i (suc n) zero (corrupt ∷ bs) e h l = let z : ◌≡◌ {A = ℕ} 0 1 = cc in absurd (omega arith)
sound_at i (suc n) (suc k) (sound c ∷ bs) e h l = sound_at (i + 1) n k bs e (omega arith) (omega arith)
sound_at i (suc n) (suc k) (corrupt ∷ bs) e h l = let z : ◌≡◌ {A = ℕ} 0 1 = cc in absurd (omega arith)

clean_set : (i n k : ℕ) (bs : List Block) (c : List ℕ) → corrupt_from i (take n bs) ≡ None → corrupt_from i (take n (set bs k (sound c))) ≡ None
clean_set i zero k bs c e = refl
clean_set i (suc n) k [] c e = refl
clean_set i (suc n) zero (sound d ∷ bs) c e = e
clean_set i (suc n) zero (corrupt ∷ bs) c e = let z : ◌≡◌ {A = ℕ} 0 1 = cc in absurd (omega arith)
clean_set i (suc n) (suc k) (sound d ∷ bs) c e = clean_set (i + 1) n k bs c e
clean_set i (suc n) (suc k) (corrupt ∷ bs) c e = e

pub ready_at : (bs : List Block) → Ready bs → (k : ℕ) → k < needed → get_or bs k corrupt ≡ sound (content_of bs k)
ready_at bs ready k h = sound_at 0 needed k bs ready.clean h (omega (arith, ready.enough))

-- what a read leaves, whatever the buffer held
pub ready_content : (bs : List Block) → Ready bs → (k : ℕ) → k < needed → (old : List ℕ) → read_content bs k old ≡ content_of bs k
ready_content bs ready k h old = cond-true _ _ _ (lt-ltb k (length bs) (omega (arith, ready.enough))) ∙ ap (content_or old) (ready_at bs ready k h)

pub ready_written : (bs : List Block) → Ready bs → (k : ℕ) → k < needed → (c : List ℕ) → written bs k c ≡ stored bs k c
ready_written bs ready k h c = cond-true _ _ _ (lt-ltb k (length bs) (omega (arith, ready.enough)))

pub ready_stored : (bs : List Block) (k : ℕ) (c : List ℕ) → Ready bs → Ready (stored bs k c)
ready_stored bs k c ready = record { enough = rw length-set ready.enough; clean = clean_set 0 needed k bs c ready.clean }

ready_kept : (bs : List Block) (k : ℕ) (c : List ℕ) → Ready bs → k < needed → Ready (written bs k c)
ready_kept bs k c ready h = rw (ready_written bs ready k h c) (ready_stored bs k c ready)

pub ready_enough : (bs : List Block) (k : ℕ) (c : List ℕ) → Ready bs → k < needed → needed ≤ length (written bs k c)
ready_enough bs k c ready h = (ready_kept bs k c ready h).enough

pub ready_clean : (bs : List Block) (k : ℕ) (c : List ℕ) → Ready bs → k < needed → lowest_corrupt needed (written bs k c) ≡ None
ready_clean bs k c ready h = (ready_kept bs k c ready h).clean

-- what `store` leans on
pub ruleset storing = (ready_written, ready_enough, ready_clean)

-- a content of a ready memory has 510 bytes
whole_at : (k : ℕ) (bs : List Block) → Whole bs → WholeBlock (get_or bs k corrupt)
whole_at k [] w = tt
whole_at zero (b ∷ bs) w = w.0
whole_at (suc k) (b ∷ bs) w = whole_at k bs w.1

content_whole : (b : Block) (c : List ℕ) → b ≡ sound c → WholeBlock b → length c ≡ 510
content_whole (sound d) c e w = let same : d ≡ c = cc in rw (← same) w
content_whole corrupt c e w = let z : ◌≡◌ {A = ℕ} 0 1 = cc in absurd (omega arith)

pub content_long : (bs : List Block) → Whole bs → Ready bs → (k : ℕ) → k < needed → length (content_of bs k) ≡ 510
content_long bs whole ready k h = content_whole (get_or bs k corrupt) (content_of bs k) (ready_at bs ready k h) (whole_at k bs whole)
