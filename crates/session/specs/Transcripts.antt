-- What a line of a script does to a session and to the transcript.
use Rattle.std.specs.Prelude.{◌≡◌, ℕ, true, false, List, [], ◌∷◌, ◌++◌, Ok, Err, MatchBool, Result}
use Rattle.text.specs.Lines.{is_comment, echo_of}
use Rattle.script.specs.declared.answer.Answer.{Answer}
use Rattle.lines.specs.declared.complaint.Complaint.{Complaint}
use Rattle.script.specs.Answers.{answer_after}
use Rattle.script.specs.Commands.{Said, command_said}
use Rattle.session.specs.Sessions.{State, answered, state_after, short}

-- What a line says is carried out; a line that says nothing is answered by what is wrong with it, and changes nothing.
abbrev pub line_answer : State → Result Said Complaint → Result Answer Complaint
line_answer before (Ok said) = answered before said
line_answer before (Err e) = Err e

abbrev pub line_state : State → Result Said Complaint → State
line_state before (Ok said) = state_after before said
line_state before (Err e) = before

-- A line was obeyed, unless memory ran short; then nothing changed.
pub record Obeyed (before : State) (line : List ℕ) (r : Result Answer Complaint) (now : State) : Type 0 where
  pub answer : short r ≡ false → r ≡ line_answer before (command_said line)
  pub after : short r ≡ false → now ≡ line_state before (command_said line)
  pub kept : short r ≡ true → now ≡ before

-- The transcript goes on with the line of an answer, or with `? ` and words that are free.
abbrev pub Shown : List ℕ → Result Answer Complaint → List ℕ → Type 0
Shown old (Ok a) new = new ≡ answer_after old a ++ 10 ∷ []
Shown old (Err e) new = (words : List ℕ) × (new ≡ old ++ 63 ∷ 32 ∷ [] ++ words ++ 10 ∷ [])

-- A blank line or a comment does nothing; any other is echoed, obeyed and answered.
abbrev pub Responded : State → List ℕ → List ℕ → List ℕ → State → Type 0
Responded before line old new now =
    MatchBool (is_comment line) ((new ≡ old) × (now ≡ before)) ((r : Result Answer Complaint) × Obeyed before line r now × Shown (old ++ echo_of line ++ 10 ∷ []) r new)
