-- The verdicts on memory, block 0, the logs and the second.
use Rattle.std.proofs.Common.{◌≡◌, ℕ, zero, suc, ◌+◌, ◌<◌, Bool, true, false, cond, ltb, List, [], ◌∷◌, length, get_or, take, Some, None, Ok, Err, Option, Result, sym, refl, arith}
use Rattle.std.proofs.lemmas.Bool.{ltb-true, ltb-false, both_ways}
use Rattle.access.specs.Ready.{needed, content_of, clean_verdict, size_verdict, ready_verdict}
use Rattle.calendar.specs.Calendar.{seconds_in_all}
use Rattle.memory.specs.declared.fault.MemoryFault.{MemoryFault}
use Rattle.memory.specs.declared.fault.MemoryFault.TheVariants as memory
use Rattle.memory.specs.Blocks.{Block, sound, corrupt, corrupt_from, lowest_corrupt}
use Rattle.numbers.specs.declared.log.LogName.{LogName}
use Rattle.numbers.specs.declared.log.LogName.TheVariants.{History, SelfReads, LoadProfile}
use Rattle.numbers.specs.Names.{log_number}
use Rattle.refusals.specs.declared.cause.Cause.TheVariants as cause
use Rattle.refusals.specs.declared.fault.MeterFault.TheVariants as meter
use Rattle.refusals.specs.Refusals.{memory_cause, memory_place, meter_cause, meter_place}
use Rattle.head.specs.Heads.{decode_head}
use Rattle.head.specs.Order.{in_order}
use Rattle.model.specs.States.{log_of}
use Rattle.model.specs.Calls.{of_memory, log_limit, totals_verdict, order_verdict, second_verdict}
use Rattle.model.proofs.Outcomes.{missing}
use Rattle.causes.specs.Firsts.{Ground}
use Rattle.causes.specs.Possible.{TooSmall, LowestCorrupt, OutOfOrder, BadSecond, IsOver, FirstOver}
use Rattle.causes.proofs.Firsts.{Judged, judged_if, judged_unless, judged_first, judged_ok, judged_err}

-- the lowest corrupt block of the first n, numbered from i on
is_sound : (content : List ℕ) → sound content ≡ corrupt → ⊥
is_sound content h = let z : ◌≡◌ {A = ℕ} 0 1 = cc in omega arith

abbrev CorruptBelow : ℕ → List Block → ℕ → Type 0
CorruptBelow n bs k = (k < n) × (k < length bs) × (get_or bs k corrupt ≡ corrupt)

none_corrupt : (i n : ℕ) (bs : List Block) → corrupt_from i (take n bs) ≡ None → (k : ℕ) → CorruptBelow n bs k → ⊥
none_corrupt i zero bs h k (a, b, c) = omega arith
none_corrupt i (suc n) [] h k (a, b, c) = omega arith
none_corrupt i (suc n) (corrupt ∷ bs) h k (a, b, c) = missing h
none_corrupt i (suc n) (sound content ∷ bs) h zero (a, b, c) = is_sound content c
none_corrupt i (suc n) (sound content ∷ bs) h (suc k) (a, b, c) = none_corrupt (i + 1) n bs h k (omega arith, omega arith, c)

abbrev LowestFrom : ℕ → ℕ → List Block → ℕ → Type 0
LowestFrom i n bs place = (k : ℕ) × (place ≡ i + k) × CorruptBelow n bs k × ((lower : ℕ) → lower < k → CorruptBelow n bs lower → ⊥)

first_corrupt : (i n : ℕ) (bs : List Block) (place : ℕ) → corrupt_from i (take n bs) ≡ Some place → LowestFrom i n bs place
first_corrupt i zero bs place h = absurd (missing (sym h))
first_corrupt i (suc n) [] place h = absurd (missing (sym h))
first_corrupt i (suc n) (corrupt ∷ bs) place h =
    let same : i ≡ place = cc in
    (0, omega arith, (omega arith, omega arith, refl), λ lower less _. omega arith)
first_corrupt i (suc n) (sound content ∷ bs) place h = go (first_corrupt (i + 1) n bs place h)
  where
    go : LowestFrom (i + 1) n bs place → LowestFrom i (suc n) (sound content ∷ bs) place
    go (k, is, (a, b, c), least) = (suc k, omega arith, (omega arith, omega arith, c), below)
      where
        below : (lower : ℕ) → lower < suc k → CorruptBelow (suc n) (sound content ∷ bs) lower → ⊥
        below zero less (x, y, z) = is_sound content z
        below (suc l) less (x, y, z) = least l (omega arith) (omega arith, omega arith, z)

lowest_at : (bs : List Block) (n : ℕ) → LowestFrom 0 needed bs n → LowestCorrupt bs n
lowest_at bs n (k, is, c, least) = let same : n ≡ k = omega arith in rw same (c, least)

clean_judged : (bs : List Block) (o : Option ℕ) → lowest_corrupt needed bs ≡ o → Judged memory_cause memory_place ((cause.Corrupt, LowestCorrupt bs) ∷ []) (clean_verdict o)
clean_judged bs None h = judged_ok memory_cause memory_place tt (cause.Corrupt, LowestCorrupt bs) (λ place low. none_corrupt 0 needed bs h place low.0)
clean_judged bs (Some n) h = judged_err memory_cause memory_place (Unit {0}) (memory.Corrupt n) (cause.Corrupt, LowestCorrupt bs) [] (refl, lowest_at bs n (first_corrupt 0 needed bs n h))

pub size_judged : (bs : List Block) → Judged memory_cause memory_place ((cause.TooSmall, TooSmall bs) ∷ []) (size_verdict bs)
size_judged bs =
    judged_if memory_cause memory_place (ltb (length bs) needed) (memory.TooSmall (length bs)) tt (cause.TooSmall, TooSmall bs)
    (λ e. (refl, (ltb-true _ _ e, refl))) (λ e place h. omega (arith, ltb-false _ _ e, h.0))

abbrev pub memory_grounds : List Block → List Ground
memory_grounds bs = (cause.TooSmall, TooSmall bs) ∷ ((cause.Corrupt, LowestCorrupt bs) ∷ [])

pub ready_judged : (bs : List Block) → Judged memory_cause memory_place (memory_grounds bs) (ready_verdict bs)
ready_judged bs =
    judged_first memory_cause memory_place (ltb (length bs) needed) (memory.TooSmall (length bs)) _ (cause.TooSmall, TooSmall bs) _
    (λ e. (refl, (ltb-true _ _ e, refl))) (λ e place h. omega (arith, ltb-false _ _ e, h.0)) (λ _. clean_judged bs (lowest_corrupt needed bs) refl)

pub memory_judged : (gs : List Ground) (v : Result (Unit {0}) MemoryFault) → Judged memory_cause memory_place gs v → Judged meter_cause meter_place gs (of_memory v)
unfolding Judged
memory_judged gs (Ok x) j = j
memory_judged gs (Err e) j = j

pub order_judged : (bs : List Block) → Judged meter_cause meter_place ((cause.OutOfOrder, OutOfOrder bs) ∷ []) (order_verdict bs)
order_judged bs =
    judged_unless meter_cause meter_place (in_order (content_of bs 0)) meter.OutOfOrder tt (cause.OutOfOrder, OutOfOrder bs) (λ e. (refl, (e, refl))) (λ e place h. both_ways _ h.0 e)

pub second_judged : (s : ℕ) → Judged meter_cause meter_place ((cause.BadSecond, BadSecond s) ∷ []) (second_verdict s)
second_judged s =
    judged_unless meter_cause meter_place (ltb s seconds_in_all) meter.BadSecond tt (cause.BadSecond, BadSecond s)
    (λ e. (refl, (ltb-false _ _ e, refl))) (λ e place h. omega (arith, ltb-true _ _ e, h.0))

-- the first log above the limit
module _ (bs : List Block) where
  before_history : (other : LogName) → log_number other < 1 → IsOver bs other → ⊥
  before_history History less over = omega arith
  before_history SelfReads less over = omega arith
  before_history LoadProfile less over = omega arith

  before_self_reads : (IsOver bs History → ⊥) → (other : LogName) → log_number other < 2 → IsOver bs other → ⊥
  before_self_reads h History less over = h over
  before_self_reads h SelfReads less over = omega arith
  before_self_reads h LoadProfile less over = omega arith

  before_profile : (IsOver bs History → ⊥) → (IsOver bs SelfReads → ⊥) → (other : LogName) → log_number other < 3 → IsOver bs other → ⊥
  before_profile h s History less over = h over
  before_profile h s SelfReads less over = s over
  before_profile h s LoadProfile less over = omega arith

  none_over : (IsOver bs History → ⊥) → (IsOver bs SelfReads → ⊥) → (IsOver bs LoadProfile → ⊥) → (name : LogName) → IsOver bs name → ⊥
  none_over h s l History over = h over
  none_over h s l SelfReads over = s over
  none_over h s l LoadProfile over = l over

  abbrev over_test : LogName → Bool
  over_test name = ltb log_limit (log_of name (decode_head (content_of bs 0))).total

  abbrev limit_ground : Ground
  limit_ground = (cause.LogLimit, FirstOver bs)

  is_over : (name : LogName) → over_test name ≡ true → IsOver bs name
  is_over name e = ltb-true _ _ e

  not_over : (name : LogName) → over_test name ≡ false → IsOver bs name → ⊥
  not_over name e over = omega (arith, ltb-false _ _ e, over)

  limits_judged : (x y z : Bool) → over_test History ≡ x → over_test SelfReads ≡ y → over_test LoadProfile ≡ z →
      Judged {X = Unit {0}} meter_cause meter_place (limit_ground ∷ []) (cond x (Err (meter.LogLimit History)) (cond y (Err (meter.LogLimit SelfReads)) (cond z (Err (meter.LogLimit LoadProfile)) (Ok tt))))
  limits_judged true y z a b c = judged_err meter_cause meter_place (Unit {0}) (meter.LogLimit History) limit_ground [] (refl, (History, refl, is_over History a, before_history))
  limits_judged false true z a b c =
      judged_err meter_cause meter_place (Unit {0}) (meter.LogLimit SelfReads) limit_ground [] (refl, (SelfReads, refl, is_over SelfReads b, before_self_reads (not_over History a)))
  limits_judged false false true a b c =
      judged_err meter_cause meter_place (Unit {0}) (meter.LogLimit LoadProfile) limit_ground []
      (refl, (LoadProfile, refl, is_over LoadProfile c, before_profile (not_over History a) (not_over SelfReads b)))
  limits_judged false false false a b c =
      judged_ok meter_cause meter_place tt limit_ground (λ place o. none_over (not_over History a) (not_over SelfReads b) (not_over LoadProfile c) o.0 o.2)

pub totals_judged : (bs : List Block) → Judged meter_cause meter_place ((cause.LogLimit, FirstOver bs) ∷ []) (totals_verdict bs)
totals_judged bs = limits_judged bs _ _ _ refl refl refl
