-- What a line of a script asks for.
use Rattle.std.specs.Prelude.{ℕ, cond, List, Some, None, Ok, Err, vec_items, codes, Option, Result}
use Rattle.std.specs.Str.{bytes_eq}
use Rattle.lines.specs.declared.complaint.Complaint.{Complaint}
use Rattle.lines.specs.Parts.{and_then, word_said, number_said, end_said, last_number_said, bytes_said}
use Rattle.script.specs.Commands.{Said, said_of, command_said}
use Rattle.dialog.specs.declared.command.MeterWord.{MeterWord}
use Rattle.dialog.specs.declared.command.MeterWord.TheVariants as word
use Rattle.dialog.specs.declared.command.MeterCommand.{MeterCommand}
use Rattle.dialog.specs.declared.command.MeterCommand.TheVariants as command
use Rattle.dialog.specs.declared.command.AnyCommand.{AnyCommand}
use Rattle.dialog.specs.declared.command.AnyCommand.TheVariants as any

-- Commands with the values of their parts: what is asked of a meter, and any.
pub data MeterSaid : Type 0 where
  format : MeterSaid
  start : ℕ → MeterSaid
  serve : ℕ → List ℕ → MeterSaid
  serve_in : ℕ → ℕ → ℕ → List ℕ → MeterSaid
  tick : MeterSaid
  ticks : ℕ → MeterSaid
  energy : ℕ → MeterSaid
  stop : MeterSaid
  clock : MeterSaid

pub data AnySaid : Type 0 where
  bench : Said → AnySaid
  meter : MeterSaid → AnySaid

abbrev pub meter_said_of : MeterCommand → MeterSaid
meter_said_of command.Format = format
meter_said_of (command.Start second) = start second
meter_said_of (command.Serve key request) = serve key (vec_items request)
meter_said_of (command.ServeIn answer scratch key request) = serve_in answer scratch key (vec_items request)
meter_said_of command.Tick = tick
meter_said_of (command.Ticks n) = ticks n
meter_said_of (command.Energy wh) = energy wh
meter_said_of command.Stop = stop
meter_said_of command.Clock = clock

abbrev pub any_said_of : AnyCommand → AnySaid
any_said_of (any.Bench c) = bench (said_of c)
any_said_of (any.Meter c) = meter (meter_said_of c)

abbrev pub meter_word_said : List ℕ → Option MeterWord
meter_word_said w =
    cond (bytes_eq w (codes "format")) (Some word.Format)
    (cond (bytes_eq w (codes "start")) (Some word.Start)
    (cond (bytes_eq w (codes "serve")) (Some word.Serve)
    (cond (bytes_eq w (codes "serve-in")) (Some word.ServeIn)
    (cond (bytes_eq w (codes "tick")) (Some word.Tick)
    (cond (bytes_eq w (codes "ticks")) (Some word.Ticks)
    (cond (bytes_eq w (codes "energy")) (Some word.Energy)
    (cond (bytes_eq w (codes "stop")) (Some word.Stop)
    (cond (bytes_eq w (codes "clock")) (Some word.Clock) None))))))))

abbrev pub serve_said : List ℕ → Result MeterSaid Complaint
serve_said line = and_then (number_said 255 line) (λ k. and_then (bytes_said k.1) (λ request. Ok (serve k.0 request)))

abbrev pub serve_in_said : List ℕ → Result MeterSaid Complaint
serve_in_said line =
    and_then (number_said 4096 line) (λ a. and_then (number_said 4096 a.1) (λ s. and_then (number_said 255 s.1) (λ k.
    and_then (bytes_said k.1) (λ request. Ok (serve_in a.0 s.0 k.0 request)))))

-- The rest of the line behind the first word.
abbrev pub meter_said : MeterWord → List ℕ → Result MeterSaid Complaint
meter_said word.Format line = and_then (end_said line) (λ _. Ok format)
meter_said word.Start line = and_then (last_number_said 4294967295 line) (λ n. Ok (start n))
meter_said word.Serve line = serve_said line
meter_said word.ServeIn line = serve_in_said line
meter_said word.Tick line = and_then (end_said line) (λ _. Ok tick)
meter_said word.Ticks line = and_then (last_number_said 100000000 line) (λ n. Ok (ticks n))
meter_said word.Energy line = and_then (last_number_said 4294967295 line) (λ n. Ok (energy n))
meter_said word.Stop line = and_then (end_said line) (λ _. Ok stop)
meter_said word.Clock line = and_then (end_said line) (λ _. Ok clock)

abbrev pub benched : Result Said Complaint → Result AnySaid Complaint
benched (Ok said) = Ok (bench said)
benched (Err e) = Err e

abbrev pub bench_said : List ℕ → Result AnySaid Complaint
bench_said line = benched (command_said line)

-- A line whose first word is none of a meter's is one to the bench.
abbrev pub worded : Option MeterWord → List ℕ → List ℕ → Result AnySaid Complaint
worded (Some w) line rest = and_then (meter_said w rest) (λ said. Ok (meter said))
worded None line rest = bench_said line

abbrev pub any_said : List ℕ → Result AnySaid Complaint
any_said line = and_then (word_said line) (λ w. worded (meter_word_said w.0) line w.1)
