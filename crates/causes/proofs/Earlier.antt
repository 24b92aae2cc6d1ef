-- Of two possible causes the earlier is told, by every call.
use Rattle.std.proofs.Common.{ℕ, ◌+◌, List, [], ◌∷◌, ◌++◌, Ok, Err, Result, refl}
use Rattle.access.specs.Ready.{size_verdict, ready_verdict}
use Rattle.memory.specs.declared.fault.MemoryFault.{MemoryFault}
use Rattle.memory.specs.Blocks.{Block}
use Rattle.refusals.specs.declared.cause.Cause.TheVariants as cause
use Rattle.refusals.specs.declared.fault.MeterFault.{MeterFault}
use Rattle.refusals.specs.Refusals.{memory_cause, memory_place, meter_cause, meter_place, service_cause, service_place}
use Rattle.model.specs.States.{Meter, Going, begun}
use Rattle.model.specs.Calls.{of_memory, format_if, totals_verdict, order_verdict, image_verdict, second_verdict, start_verdict, started_if, tick_verdict, tick_if, ticked, energy_if, feeding}
use Rattle.causes.specs.Firsts.{Ground}
use Rattle.causes.specs.Possible.{OutOfOrder, FirstOver, BadSecond}
use Rattle.causes.specs.Orders.{format_order, start_order, tick_order, energy_order, serve_order, EarlierIsTold, OrdersNumbered}
use Rattle.causes.proofs.Firsts.{Judged, first_told, judged_else}
use Rattle.causes.proofs.Memory.{memory_grounds, size_judged, ready_judged, memory_judged, order_judged, second_judged, totals_judged}
use Rattle.causes.proofs.Deciding.{served_judged}

-- the verdict of a call is what it answers
format_answers : (gs : List Ground) (v : Result (Unit {0}) MemoryFault) (bs : List Block) → Judged memory_cause memory_place gs v → Judged memory_cause memory_place gs (format_if v bs).answer
unfolding Judged
format_answers gs (Ok x) bs j = j
format_answers gs (Err e) bs j = j

start_answers : (gs : List Ground) (v : Result (Unit {0}) MeterFault) (s : ℕ) (g : Going) → Judged meter_cause meter_place gs v → Judged meter_cause meter_place gs (started_if v s g).answer
unfolding Judged
start_answers gs (Ok x) s g j = j
start_answers gs (Err e) s g j = j

tick_answers : (gs : List Ground) (v : Result (Unit {0}) MeterFault) (m : Meter) (g : Going) → Judged meter_cause meter_place gs v → Judged meter_cause meter_place gs (tick_if v m g).answer
unfolding Judged
tick_answers gs (Ok x) m g j = j
tick_answers gs (Err e) m g j = j

energy_answers : (gs : List Ground) (v : Result (Unit {0}) MeterFault) (m : Meter) (g : Going) → Judged meter_cause meter_place gs v → Judged meter_cause meter_place gs (energy_if v m g).answer
unfolding Judged
energy_answers gs (Ok x) m g j = j
energy_answers gs (Err e) m g j = j

abbrev image_grounds : List Block → List Ground
image_grounds bs = memory_grounds bs ++ ((cause.OutOfOrder, OutOfOrder bs) ∷ [] ++ ((cause.LogLimit, FirstOver bs) ∷ []))

image_judged : (bs : List Block) → Judged meter_cause meter_place (image_grounds bs) (image_verdict bs)
image_judged bs =
    judged_else meter_cause meter_place (memory_grounds bs) _ (of_memory (ready_verdict bs)) _ (memory_judged _ (ready_verdict bs) (ready_judged bs))
    (judged_else meter_cause meter_place ((cause.OutOfOrder, OutOfOrder bs) ∷ []) _ (order_verdict bs) (totals_verdict bs) (order_judged bs) (totals_judged bs))

start_judged : (bs : List Block) (s : ℕ) → Judged meter_cause meter_place (start_order bs s) (start_verdict bs s)
start_judged bs s =
    judged_else meter_cause meter_place (image_grounds bs) ((cause.BadSecond, BadSecond s) ∷ []) (image_verdict bs) (second_verdict s)
    (image_judged bs) (second_judged s)

tick_judged : (m : Meter) → Judged meter_cause meter_place (tick_order m) (tick_verdict m)
tick_judged m =
    let bs = m.blocks in
    judged_else meter_cause meter_place (memory_grounds bs) _ (of_memory (ready_verdict bs)) _ (memory_judged _ (ready_verdict bs) (ready_judged bs))
    (judged_else meter_cause meter_place ((cause.LogLimit, FirstOver bs) ∷ []) _ (totals_verdict bs) (second_verdict (m.clock + 1)) (totals_judged bs) (second_judged (m.clock + 1)))

pub earlier_is_told : EarlierIsTold
earlier_is_told = record {
  format = λ bs. first_told memory_cause memory_place (format_order bs) _ (format_answers _ (size_verdict bs) bs (size_judged bs));
  start = λ bs s. first_told meter_cause meter_place (start_order bs s) _ (start_answers _ (start_verdict bs s) s (begun bs) (start_judged bs s));
  tick = λ m. first_told meter_cause meter_place (tick_order m) _ (tick_answers _ (tick_verdict m) m (ticked (m.clock + 1) (begun m.blocks)) (tick_judged m));
  energy = λ wh m. first_told meter_cause meter_place (energy_order m) _ (energy_answers _ (of_memory (ready_verdict m.blocks)) m (feeding m.clock wh (begun m.blocks)) (memory_judged _ (ready_verdict m.blocks) (ready_judged m.blocks)));
  serve = λ key bytes m a s. first_told service_cause service_place (serve_order key bytes m a s) _ (served_judged key bytes m a s);
}

pub orders_numbered : OrdersNumbered
orders_numbered = record { format = λ bs. refl; start = λ bs s. refl; tick = λ m. refl; energy = λ m. refl; serve = λ key bytes m a s. refl }
