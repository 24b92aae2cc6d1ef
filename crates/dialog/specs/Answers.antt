-- How a transcript goes on with the answer of a meter.
use Rattle.std.specs.Prelude.{ℕ, List, [], ◌∷◌, ◌++◌, Some, None, Ok, Err, vec_items, codes, Option, Result, Vec}
use Rattle.std.specs.declared.alloc.Global.{Global}
use Rattle.numbers.specs.declared.service.AnswerCode.{AnswerCode}
use Rattle.numbers.specs.Names.{code_number}
use Rattle.refusals.specs.declared.cause.Cause.{Cause}
use Rattle.refusals.specs.declared.cause.Layer.{Layer}
use Rattle.refusals.specs.declared.cause.Layer.TheVariants as layer
use Rattle.refusals.specs.declared.fault.MeterFault.{MeterFault}
use Rattle.refusals.specs.declared.fault.ServiceFault.{ServiceFault}
use Rattle.refusals.specs.Causes.{cause_number, layer_of, code_of}
use Rattle.refusals.specs.Refusals.{memory_cause, memory_place, meter_cause, meter_place, service_cause, service_place}
use Rattle.text.specs.Pairs.{hex_text}
use Rattle.lines.specs.Writing.{numbered, date_after}
use Rattle.script.specs.Answers.{answer_after}
use Rattle.dialog.specs.declared.answer.Tail.{Tail}
use Rattle.dialog.specs.declared.answer.Tail.TheVariants as tail
use Rattle.dialog.specs.declared.answer.Scratch.{Scratch}
use Rattle.dialog.specs.declared.answer.Scratch.TheVariants as scratch
use Rattle.dialog.specs.declared.answer.Buffers.{Buffers}
use Rattle.dialog.specs.declared.answer.MeterAnswer.{MeterAnswer}
use Rattle.dialog.specs.declared.answer.MeterAnswer.TheVariants as answer
use Rattle.dialog.specs.declared.answer.AnyAnswer.{AnyAnswer}
use Rattle.dialog.specs.declared.answer.AnyAnswer.TheVariants as any

abbrev pub layer_text : Layer → List ℕ
layer_text layer.Memory = codes "memory"
layer_text layer.Meter = codes "meter"
layer_text layer.Service = codes "service"

-- A refusal by its cause and its place.
abbrev pub refused_after : List ℕ → Cause → ℕ → List ℕ
refused_after before cause place =
    let placed : List ℕ = numbered before (codes "refused ") (cause_number cause) (codes " place ") in
    numbered placed [] place (codes " layer ") ++ layer_text (layer_of cause)

-- What a call said, by the cause and the place of each of its faults.
abbrev pub verdict_after : {E : Type 0} → (E → Cause) → (E → ℕ) → List ℕ → Result (Unit {0}) E → List ℕ
verdict_after cause place before (Ok x) = before ++ codes "ok"
verdict_after cause place before (Err e) = refused_after before (cause e) (place e)

abbrev pub ticks_after : List ℕ → ℕ → Result (Unit {0}) MeterFault → List ℕ
ticks_after before n (Ok x) = numbered before (codes "ticks: ") n (codes " ok")
ticks_after before n (Err e) = refused_after (numbered before (codes "ticks: ") n (codes " ok, then ")) (meter_cause e) (meter_place e)

abbrev pub code_after : List ℕ → Option AnswerCode → List ℕ
code_after before None = before ++ codes " code none"
code_after before (Some code) = before ++ codes " code " ++ hex_text (code_number code ∷ [])

abbrev pub served_after : List ℕ → Result (Vec ℕ Global) ServiceFault → List ℕ
served_after before (Ok bytes) = before ++ codes "serve: " ++ hex_text (vec_items bytes)
served_after before (Err e) = code_after (refused_after (before ++ codes "serve: ") (service_cause e) (service_place e)) (code_of (service_cause e))

abbrev pub tail_text : Tail → List ℕ
tail_text tail.Kept = codes "ok"
tail_text tail.Changed = codes "changed"

abbrev pub scratch_text : Scratch → List ℕ
scratch_text scratch.Zeroed = codes "zeroed"
scratch_text scratch.Untouched = codes "untouched"
scratch_text scratch.Other = codes "other"

abbrev pub told : List ℕ → List ℕ → List ℕ → List ℕ
told before what how = before ++ what ++ how

unfoldable pub answer_tail_after : List ℕ → Tail → List ℕ
answer_tail_after before t = told before (codes "buffers: answer-tail ") (tail_text t)

unfoldable pub scratch_after : List ℕ → Scratch → List ℕ
scratch_after before s = told before (codes ", scratch ") (scratch_text s)

unfoldable pub scratch_tail_after : List ℕ → Tail → List ℕ
scratch_tail_after before t = told before (codes ", scratch-tail ") (tail_text t)

abbrev pub buffers_after : List ℕ → Buffers → List ℕ
buffers_after before b =
    scratch_tail_after (scratch_after (answer_tail_after before b.answer_tail) b.scratch) b.scratch_tail

-- The transcript with the text of an answer behind what there was before.
abbrev pub meter_answer_after : List ℕ → MeterAnswer → List ℕ
meter_answer_after before (answer.Format v) = verdict_after memory_cause memory_place (before ++ codes "format: ") v
meter_answer_after before (answer.Start v) = verdict_after meter_cause meter_place (before ++ codes "start: ") v
meter_answer_after before (answer.Serve served) = served_after before served
meter_answer_after before (answer.ServeIn served b) = buffers_after (served_after before served ++ 10 ∷ []) b
meter_answer_after before (answer.Tick v) = verdict_after meter_cause meter_place (before ++ codes "tick: ") v
meter_answer_after before (answer.Ticks n v) = ticks_after before n v
meter_answer_after before (answer.Energy v) = verdict_after meter_cause meter_place (before ++ codes "energy: ") v
meter_answer_after before answer.Stop = before ++ codes "stop: ok"
meter_answer_after before (answer.Clock second date weekday) = date_after (numbered before (codes "clock: ") second (codes " ")) date weekday

abbrev pub any_answer_after : List ℕ → AnyAnswer → List ℕ
any_answer_after before (any.Bench a) = answer_after before a
any_answer_after before (any.Meter a) = meter_answer_after before a
