-- What a session answers to a command, and what it has then.
use Rattle.std.specs.Prelude.{◌≡◌, ℕ, ◌/◌, ◌≤◌, Bool, true, false, cond, List, replicate, Some, None, Ok, Err, vec_items, Option, Result, nat_lt}
use Rattle.std.specs.Option.{option_map}
use Rattle.calendar.specs.declared.DateTime.{DateTime}
use Rattle.calendar.specs.Calendar.{second_if_real, date_if_in_range, weekday_of}
use Rattle.script.specs.declared.answer.Answer.{Answer}
use Rattle.script.specs.declared.answer.Answer.TheVariants.{Image, Second, Moment}
use Rattle.script.specs.declared.command.Make.{Make}
use Rattle.lines.specs.declared.complaint.Complaint.{Complaint}
use Rattle.lines.specs.declared.complaint.Complaint.TheVariants.{NoImage, Number, NoMemory}
use Rattle.text.specs.declared.number.NumberFault.TheVariants.{TooLarge}
use Rattle.lines.specs.Parts.{short_of_memory}
use Rattle.script.specs.Commands.{Asked, Said, image, on, second, moment}
use Rattle.session.specs.declared.held.HeldImage.{HeldImage}
use Rattle.session.specs.declared.session.Session.{Session}
use Rattle.session.specs.Images.{size_of}
use Rattle.session.specs.Asking.{answer_on, bytes_after}

-- A session has no image, or one of a make with its bytes.
abbrev pub State : Type 0
State = Option (Make × List ℕ)

abbrev pub image_of : HeldImage → Make × List ℕ
image_of held = (held.make, vec_items held.bytes)

abbrev pub state_of : Session → State
state_of s = option_map image_of s.image

abbrev pub answer_in : State → Asked → Result Answer Complaint
answer_in None asked = Err NoImage
answer_in (Some i) asked = answer_on i.0 i.1 asked

abbrev pub state_in : State → Asked → State
state_in None asked = None
state_in (Some i) asked = Some (i.0, bytes_after i.0 i.1 asked)

-- A new image, with its size, or why there is none.
abbrev pub ImageMade : Make → ℕ → Result (HeldImage × ℕ) Complaint → Type 0
ImageMade make count (Ok p) = (count ≤ 16777216) × (image_of p.0 ≡ (make, replicate count 0)) × (p.1 ≡ size_of make (replicate count 0))
ImageMade make count (Err e) = cond (nat_lt 16777216 count) (e ≡ Number TooLarge) (e ≡ NoMemory)

-- The date-time of a second with its weekday.
abbrev pub moment_of : ℕ → Option (DateTime × ℕ)
moment_of s = option_map (λ date. (date, weekday_of (s / 86400))) (date_if_in_range s)

-- The answer to a command, and the state then.
abbrev pub answered : State → Said → Result Answer Complaint
answered state (image make count) = cond (nat_lt 16777216 count) (Err (Number TooLarge)) (Ok (Image (size_of make (replicate count 0))))
answered state (on asked) = answer_in state asked
answered state (second date) = Ok (Second (second_if_real date))
answered state (moment s) = Ok (Moment (moment_of s))

abbrev pub state_after : State → Said → State
state_after state (image make count) = cond (nat_lt 16777216 count) state (Some (make, replicate count 0))
state_after state (on asked) = state_in state asked
state_after state (second date) = state
state_after state (moment s) = state

abbrev pub short : Result Answer Complaint → Bool
short (Ok a) = false
short (Err e) = short_of_memory e

-- A command was carried out as said, unless memory ran short; then nothing changed.
pub record Performed (before : State) (said : Said) (r : Result Answer Complaint) (now : State) : Type 0 where
  pub answer : short r ≡ false → r ≡ answered before said
  pub after : short r ≡ false → now ≡ state_after before said
  pub kept : short r ≡ true → now ≡ before
