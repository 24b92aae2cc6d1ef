-- The order of causes of each call, and that the earlier is told.
use Rattle.std.specs.Prelude.{◌≡◌, ℕ, ◌+◌, List, [], ◌∷◌}
use Rattle.memory.specs.Blocks.{Block}
use Rattle.refusals.specs.declared.cause.Cause.TheVariants as cause
use Rattle.refusals.specs.Refusals.{memory_cause, memory_place, meter_cause, meter_place, service_cause, service_place}
use Rattle.model.specs.States.{Meter}
use Rattle.model.specs.Calls.{format, started, tick, energy}
use Rattle.model.specs.Serving.{served}
use Rattle.causes.specs.Firsts.{Ground, FirstTold, numbers_of}
use Rattle.causes.specs.Possible.{TooSmall, LowestCorrupt, OutOfOrder, BadSecond, FirstOver, ShortAnswer, ShortScratch, EmptyRequest, Misshapen, UnknownService, Uncleared, UnknownTable, NoSuchUse, BadPart, BadContent, NotReady, WriteOver}

abbrev pub format_order : List Block → List Ground
format_order bs = (cause.TooSmall, TooSmall bs) ∷ []

abbrev pub start_order : List Block → ℕ → List Ground
start_order bs s =
    (cause.TooSmall, TooSmall bs)
    ∷ ((cause.Corrupt, LowestCorrupt bs) ∷ ((cause.OutOfOrder, OutOfOrder bs) ∷ ((cause.LogLimit, FirstOver bs) ∷ ((cause.BadSecond, BadSecond s) ∷ []))))

abbrev pub tick_order : Meter → List Ground
tick_order m =
    (cause.TooSmall, TooSmall m.blocks)
    ∷ ((cause.Corrupt, LowestCorrupt m.blocks) ∷ ((cause.LogLimit, FirstOver m.blocks) ∷ ((cause.BadSecond, BadSecond (m.clock + 1)) ∷ [])))

abbrev pub energy_order : Meter → List Ground
energy_order m = (cause.TooSmall, TooSmall m.blocks) ∷ ((cause.Corrupt, LowestCorrupt m.blocks) ∷ [])

abbrev pub serve_order : ℕ → List ℕ → Meter → List ℕ → List ℕ → List Ground
serve_order key bytes m answer scratch =
    (cause.ShortBuffer, ShortAnswer answer)
    ∷ ((cause.ShortBuffer, ShortScratch scratch)
    ∷ ((cause.TooSmall, TooSmall m.blocks)
    ∷ ((cause.Corrupt, LowestCorrupt m.blocks)
    ∷ ((cause.Malformed, EmptyRequest bytes)
    ∷ ((cause.UnknownService, UnknownService bytes)
    ∷ ((cause.Malformed, Misshapen bytes)
    ∷ ((cause.Clearance, Uncleared key bytes)
    ∷ ((cause.UnknownTable, UnknownTable bytes)
    ∷ ((cause.NoSuchUse, NoSuchUse bytes)
    ∷ ((cause.BadPart, BadPart bytes)
    ∷ ((cause.BadContent, BadContent key bytes m)
    ∷ ((cause.NotReady, NotReady key bytes m)
    ∷ ((cause.LogLimit, WriteOver key bytes m.blocks)
    ∷ [])))))))))))))

-- Of two possible causes the earlier is told.
pub record EarlierIsTold : Type 0 where
  pub format : (bs : List Block) → FirstTold memory_cause memory_place (format_order bs) (format bs).answer
  pub start : (bs : List Block) (s : ℕ) → FirstTold meter_cause meter_place (start_order bs s) (started bs s).answer
  pub tick : (m : Meter) → FirstTold meter_cause meter_place (tick_order m) (tick m).answer
  pub energy : (wh : ℕ) (m : Meter) → FirstTold meter_cause meter_place (energy_order m) (energy wh m).answer
  pub serve : (key : ℕ) (bytes : List ℕ) (m : Meter) (answer scratch : List ℕ) →
      FirstTold service_cause service_place (serve_order key bytes m answer scratch) (served key bytes m answer scratch).result

-- The orders by the numbers of the causes.
pub record OrdersNumbered : Type 0 where
  pub format : (bs : List Block) → numbers_of (format_order bs) ≡ 1 ∷ []
  pub start : (bs : List Block) (s : ℕ) → numbers_of (start_order bs s) ≡ 1 ∷ (2 ∷ (3 ∷ (5 ∷ (4 ∷ []))))
  pub tick : (m : Meter) → numbers_of (tick_order m) ≡ 1 ∷ (2 ∷ (5 ∷ (4 ∷ [])))
  pub energy : (m : Meter) → numbers_of (energy_order m) ≡ 1 ∷ (2 ∷ [])
  pub serve : (key : ℕ) (bytes : List ℕ) (m : Meter) (answer scratch : List ℕ) →
      numbers_of (serve_order key bytes m answer scratch) ≡ 6 ∷ (6 ∷ (1 ∷ (2 ∷ (7 ∷ (8 ∷ (7 ∷ (9 ∷ (10 ∷ (11 ∷ (12 ∷ (13 ∷ (14 ∷ (5 ∷ [])))))))))))))
