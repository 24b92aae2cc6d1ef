-- Format makes a sound image, a start a sound meter, and ticks and energy keep it sound.
use Rattle.std.proofs.Common.{◌≡◌, ℕ, zero, suc, ◌+◌, ◌<◌, ◌≤◌, Bool, true, false, cond, eqb, ltb, List, [], ◌∷◌, ◌++◌, length, get_or, drop, Ok, Err, Result, sym, refl, ap, ◌∙◌, arith}
use Rattle.std.proofs.lemmas.List.{length-append, get_or_past}
use Rattle.std.proofs.lemmas.Bool.{ltb-true, ltb-false, cond_both}
use Rattle.access.specs.Ready.{needed, Ready, content_of, ready_verdict}
use Rattle.access.proofs.Readiness.{ready_stored}
use Rattle.calendar.specs.Calendar.{seconds_in_all}
use Rattle.fields.specs.Patches.{patch}
use Rattle.memory.specs.Blocks.{Block, Whole}
use Rattle.logs.specs.declared.head.LogHead.{LogHead}
use Rattle.logs.specs.Heads.{empty_head}
use Rattle.logs.proofs.SlotWrites.{content_same}
use Rattle.numbers.specs.declared.log.LogName.TheVariants.{History, SelfReads, LoadProfile}
use Rattle.pending.specs.declared.row.Row.TheVariants.{Empty}
use Rattle.records.specs.declared.registers.Registers.{Registers}
use Rattle.records.specs.Layouts.{five_words, RegistersFit}
use Rattle.refusals.specs.declared.fault.MeterFault.{MeterFault}
use Rattle.refusals.specs.declared.fault.MeterFault.TheVariants.{LogLimit, BadSecond}
use Rattle.head.specs.declared.head.Head.{Head}
use Rattle.head.specs.Heads.{decode_head, encode_head, encode_as}
use Rattle.head.specs.Order.{WellFormed}
use Rattle.head.specs.Pieces.{row_bytes, log_bytes, activation_bytes}
use Rattle.head.proofs.HeadLaws.{laws, logs_three}
use Rattle.model.specs.States.{Meter, Going, Recorded, begun, ended}
use Rattle.model.specs.Calls.{or_else, of_memory, fresh_content, fresh_blocks, formatted, zero_content, totals_verdict, order_verdict, image_verdict, second_verdict, start_verdict, started_if, meter_of, power_up, tick_verdict, tick_if, ticked, ended_if_any, energy_if, feeding, tier_at}
use Rattle.model.specs.Tariffs.{added, added_if, fed}
use Rattle.model.specs.Soundness.{SoundImage, SoundMeter}
use Rattle.model.proofs.Keeping.{Kept}
use Rattle.model.proofs.Activating.{whole_stored, ticked_kept, power_kept}
use Rattle.model.proofs.Outcomes.{never}

-- a head that is written as block 0 makes a sound image, which says that head
pub ended_says : (g : Going) → WellFormed g.head → 0 < length g.blocks → decode_head (content_of (ended g) 0) ≡ g.head
unfolding ended
ended_says g formed some = ap decode_head (content_same g.blocks 0 (encode_head g.head) some) ∙ laws.reads g.head formed

pub ended_head : (g : Going) → WellFormed g.head → Ready g.blocks → decode_head (content_of (ended g) 0) ≡ g.head
ended_head g formed ready = ended_says g formed (omega (arith, ready.enough))

pub ended_sound : (g : Going) → WellFormed g.head → Ready g.blocks → Whole g.blocks → SoundImage (ended g)
unfolding ended
ended_sound g formed ready whole = record {
  ready = ready_stored g.blocks 0 (encode_head g.head) ready;
  whole = whole_stored g.blocks 0 (encode_head g.head) whole (laws.long g.head formed);
  head = g.head;
  formed = formed;
  says = content_same g.blocks 0 (encode_head g.head) (omega (arith, ready.enough));
}

-- what a sound image says
pub said : (bs : List Block) (i : SoundImage bs) → decode_head (content_of bs 0) ≡ i.head
said bs i = ap decode_head i.says ∙ laws.reads i.head i.formed

pub formed_of : (bs : List Block) (i : SoundImage bs) → WellFormed (decode_head (content_of bs 0))
formed_of bs i = rw (said bs i) i.formed

-- a verdict that does not refuse
pub both_pass : (a b : Result (Unit {0}) MeterFault) → or_else a b ≡ Ok tt → (a ≡ Ok tt) × (b ≡ Ok tt)
both_pass (Ok x) b h = (refl, h)
both_pass (Err e) b h = absurd (never (sym h))

passes : (t : Bool) (e : MeterFault) (rest : Result (Unit {0}) MeterFault) → cond t (Err e) rest ≡ Ok tt → (t ≡ false) × (rest ≡ Ok tt)
passes true e rest h = absurd (never (sym h))
passes false e rest h = (refl, h)

pub in_time : (s : ℕ) → second_verdict s ≡ Ok tt → s < seconds_in_all
in_time s h = go (ltb s seconds_in_all) refl h
  where
    go : (t : Bool) → ltb s seconds_in_all ≡ t → ◌≡◌ {A = Result (Unit {0}) MeterFault} (cond t (Ok tt) (Err BadSecond)) (Ok tt) → s < seconds_in_all
    go true e k = ltb-true s seconds_in_all e
    go false e k = absurd (never (sym k))

-- totals within the limit, also where no log is
at_most : (logs : List LogHead) → length logs ≡ 3 → (get_or logs 0 empty_head).total ≤ 4000000000 → (get_or logs 1 empty_head).total ≤ 4000000000 → (get_or logs 2 empty_head).total ≤ 4000000000 → (k : ℕ) → (get_or logs k empty_head).total ≤ 4000000000 + 0
at_most logs three a b c zero = omega arith
at_most logs three a b c (suc zero) = omega arith
at_most logs three a b c (suc (suc zero)) = omega arith
at_most logs three a b c (suc (suc (suc k))) = omega (arith, ap (λ (l : LogHead). l.total) (get_or_past logs (suc (suc (suc k))) empty_head (omega arith)))

within : (bs : List Block) (i : SoundImage bs) → totals_verdict bs ≡ Ok tt → (k : ℕ) → (get_or (decode_head (content_of bs 0)).logs k empty_head).total ≤ 4000000000 + 0
within bs i h =
    let logs = (decode_head (content_of bs 0)).logs in
    let first = passes (ltb 4000000000 (get_or logs 0 empty_head).total) (LogLimit History) _ h in
    let second = passes (ltb 4000000000 (get_or logs 1 empty_head).total) (LogLimit SelfReads) _ first.1 in
    let third = passes (ltb 4000000000 (get_or logs 2 empty_head).total) (LogLimit LoadProfile) _ second.1 in
    at_most logs (logs_three logs (formed_of bs i).logs) (ltb-false _ _ first.0) (ltb-false _ _ second.0) (ltb-false _ _ third.0)

pub begun_kept : (bs : List Block) (i : SoundImage bs) → totals_verdict bs ≡ Ok tt → Kept (content_of bs 0) 0 (begun bs)
begun_kept bs i h = record { formed = formed_of bs i; totals = within bs i h; ready = i.ready; whole = i.whole; zero = refl }

-- start
started_is : (v : Result (Unit {0}) MeterFault) (s : ℕ) (g : Going) (m : Meter) → (started_if v s g).answer ≡ Ok m → (v ≡ Ok tt) × (meter_of (ended (power_up s g)) s ≡ m)
started_is (Ok x) s g m h = let same : meter_of (ended (power_up s g)) s ≡ m = cc in (refl, same)
started_is (Err e) s g m h = absurd (never (sym h))

pub start_sound : (bs : List Block) (s : ℕ) (m : Meter) → SoundImage bs → (started_if (start_verdict bs s) s (begun bs)).answer ≡ Ok m → SoundMeter m
start_sound bs s m i h =
    let is = started_is (start_verdict bs s) s (begun bs) m h in
    let parts = both_pass (image_verdict bs) (second_verdict s) is.0 in
    let image = both_pass (of_memory (ready_verdict bs)) (or_else (order_verdict bs) (totals_verdict bs)) parts.0 in
    let totals = both_pass (order_verdict bs) (totals_verdict bs) image.1 in
    let real = in_time s parts.1 in
    let kept = power_kept 0 s (begun bs) real (omega arith) (begun_kept bs i totals.1) in
    rw (← is.1) (record { image = ended_sound (power_up s (begun bs)) kept.formed kept.ready kept.whole; clock = real })

-- tick: one that recorded nothing leaves the blocks, of which none is block 0
quiet_sound : (bs : List Block) (i : SoundImage bs) (n : ℕ) (g : Going) → Kept (content_of bs 0) n g → (es : List Recorded) → SoundImage (ended_if_any es g)
quiet_sound bs i n g kept [] = record { ready = kept.ready; whole = kept.whole; head = i.head; formed = i.formed; says = kept.zero ∙ i.says }
quiet_sound bs i n g kept (e ∷ es) = ended_sound g kept.formed kept.ready kept.whole

tick_if_lem : (v : Result (Unit {0}) MeterFault) (m : Meter) (g : Going) → SoundMeter m → (v ≡ Ok tt → SoundImage (ended_if_any g.entries g) × (m.clock + 1 < seconds_in_all)) → SoundMeter (tick_if v m g).meter
tick_if_lem (Ok x) m g good then = record { image = (then refl).0; clock = (then refl).1 }
tick_if_lem (Err e) m g good then = good

pub tick_sound : (m : Meter) → SoundMeter m → SoundMeter (tick_if (tick_verdict m) m (ticked (m.clock + 1) (begun m.blocks))).meter
tick_sound m good =
    tick_if_lem (tick_verdict m) m (ticked (m.clock + 1) (begun m.blocks)) good
    (λ h.
    let parts = both_pass (of_memory (ready_verdict m.blocks)) (or_else (totals_verdict m.blocks) (second_verdict (m.clock + 1))) h in
    let more = both_pass (totals_verdict m.blocks) (second_verdict (m.clock + 1)) parts.1 in
    let real = in_time (m.clock + 1) more.1 in
    let kept = ticked_kept 0 (m.clock + 1) (begun m.blocks) real (omega arith) (begun_kept m.blocks good.image more.0) in
    (quiet_sound m.blocks good.image 12 (ticked (m.clock + 1) (begun m.blocks)) kept (ticked (m.clock + 1) (begun m.blocks)).entries, real))

-- energy
small : (n wh : ℕ) → added n wh < 4294967296
small n wh = omega arith

small_if : (tier active n wh : ℕ) → n < 4294967296 → added_if tier active n wh < 4294967296
small_if tier active n wh h = cond_both (eqb tier active) (added n wh) n (λ (x : ℕ). x < 4294967296) (λ _. small n wh) (λ _. h)

fed_fits : (active wh : ℕ) (r : Registers) → RegistersFit r → RegistersFit (fed active wh r)
fed_fits active wh r f = record {
  total = small r.total wh;
  tier1 = small_if 1 active r.tier1 wh f.tier1;
  tier2 = small_if 2 active r.tier2 wh f.tier2;
  tier3 = small_if 3 active r.tier3 wh f.tier3;
  tier4 = small_if 4 active r.tier4 wh f.tier4;
}

pub fed_formed : (s wh : ℕ) (bs : List Block) → SoundImage bs → WellFormed (feeding s wh (begun bs)).head
unfolding feeding
fed_formed s wh bs i =
    let w = formed_of bs i in
    record { three = w.three; rows = w.rows; logs = w.logs; activation = w.activation; registers = fed_fits (tier_at s bs) wh _ w.registers }

pub fed_blocks : (s wh : ℕ) (bs : List Block) → (feeding s wh (begun bs)).blocks ≡ bs
unfolding feeding
fed_blocks s wh bs = refl

pub fed_sound : (s wh : ℕ) (bs : List Block) → SoundImage bs → SoundImage (ended (feeding s wh (begun bs)))
unfolding feeding
fed_sound s wh bs i = ended_sound _ (fed_formed s wh bs i) i.ready i.whole

pub energy_if_lem : (v : Result (Unit {0}) MeterFault) (m : Meter) (g : Going) → SoundMeter m → SoundImage (ended g) → SoundMeter (energy_if v m g).meter
energy_if_lem (Ok x) m g good image = record { image = image; clock = good.clock }
energy_if_lem (Err e) m g good image = good

-- format
fresh : Head
fresh = record {
  rows = Empty ∷ Empty ∷ Empty ∷ [];
  logs = empty_head ∷ empty_head ∷ empty_head ∷ [];
  activation = record { happened = false; second = 0 };
  registers = record { total = 0; tier1 = 0; tier2 = 0; tier3 = 0; tier4 = 0 };
  status = record { started = false; clock_set = false };
}

fresh_formed : WellFormed fresh
unfolding fresh
fresh_formed = record {
  three = refl;
  rows = (refl, (refl, (refl, tt)));
  logs = (record { counts = refl; fits = omega arith }, (record { counts = refl; fits = omega arith }, (record { counts = refl; fits = omega arith }, tt)));
  activation = omega arith;
  registers = record { total = omega arith; tier1 = omega arith; tier2 = omega arith; tier3 = omega arith; tier4 = omega arith };
}

fresh_content_lem : (n : ℕ) → length (fresh_content n) ≡ 510
unfolding patch
fresh_content_lem n =
    cond_both (eqb n 0) _ _ (λ (c : List ℕ). length c ≡ 510) (λ _. refl) (λ _. cond_both (eqb n 2) _ zero_content (λ (c : List ℕ). length c ≡ 510) (λ _. refl) (λ _. refl))

whole_fresh : (n count : ℕ) → Whole (fresh_blocks n count)
whole_fresh n zero = tt
whole_fresh n (suc count) = (fresh_content_lem n, whole_fresh (n + 1) count)

pub whole_append : (xs ys : List Block) → Whole xs → Whole ys → Whole (xs ++ ys)
whole_append [] ys v w = w
whole_append (x ∷ xs) ys v w = (v.0, whole_append xs ys v.1 w)

whole_drop : (n : ℕ) (bs : List Block) → Whole bs → Whole (drop n bs)
whole_drop zero bs w = w
whole_drop (suc n) [] w = tt
whole_drop (suc n) (b ∷ bs) w = whole_drop n bs w.1

pub format_sound : (bs : List Block) → needed ≤ length bs → Whole bs → SoundImage (formatted bs)
unfolding formatted fresh patch encode_as row_bytes log_bytes activation_bytes five_words
format_sound bs room whole = record {
  ready = record { enough = rw length-append (omega arith); clean = refl };
  whole = whole_append (fresh_blocks 0 needed) (drop needed bs) (whole_fresh 0 needed) (whole_drop needed bs whole);
  head = fresh;
  formed = fresh_formed;
  says = refl;
}
