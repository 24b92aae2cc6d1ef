-- What a line of a script asks for.
use Rattle.std.specs.Prelude.{ℕ, cond, List, length, Ok, Err, vec_items, Result, ◌==◌}
use Rattle.calendar.specs.declared.DateTime.{DateTime}
use Rattle.calendar.specs.Calendar.{dated}
use Rattle.script.specs.declared.command.Make.{Make}
use Rattle.script.specs.declared.command.BlockCommand.{BlockCommand}
use Rattle.script.specs.declared.command.BlockCommand.TheVariants as blocks
use Rattle.script.specs.declared.command.ImageCommand.{ImageCommand}
use Rattle.script.specs.declared.command.ImageCommand.TheVariants as asking
use Rattle.script.specs.declared.command.Command.{Command}
use Rattle.script.specs.declared.command.Command.TheVariants as command
use Rattle.script.specs.declared.command.Keyword.{Keyword}
use Rattle.script.specs.declared.command.Keyword.TheVariants as keyword
use Rattle.lines.specs.declared.complaint.Complaint.{Complaint}
use Rattle.lines.specs.declared.complaint.Complaint.TheVariants as complaint
use Rattle.lines.specs.Parts.{and_then, word_said, number_said, end_said, last_number_said, bytes_said}
use Rattle.script.specs.Lines.{byte_said, make_said, keyword_said}

-- Commands with the values of their parts: what is asked of an image, and any.
pub data Asked : Type 0 where
  poke : ℕ → List ℕ → Asked
  write : ℕ → List ℕ → Asked
  unsound : ℕ → Asked
  block : ℕ → Asked
  digest : Asked

pub data Said : Type 0 where
  image : Make → ℕ → Said
  on : Asked → Said
  second : DateTime → Said
  moment : ℕ → Said

abbrev pub block_asked_of : BlockCommand → Asked
block_asked_of (blocks.Write n bytes) = write n (vec_items bytes)
block_asked_of (blocks.Unsound below) = unsound below
block_asked_of (blocks.Block n) = block n

abbrev pub asked_of : ImageCommand → Asked
asked_of (asking.Poke offset bytes) = poke offset (vec_items bytes)
asked_of asking.Digest = digest
asked_of (asking.Blocks c) = block_asked_of c

abbrev pub said_of : Command → Said
said_of (command.Image make bytes) = image make bytes
said_of (command.On c) = on (asked_of c)
said_of (command.Second date) = second date
said_of (command.Moment s) = moment s

abbrev pub some_bytes_said : List ℕ → Result (List ℕ) Complaint
some_bytes_said line = and_then (bytes_said line) (λ bytes. cond (length bytes == 0) (Err complaint.NoBytes) (Ok bytes))

abbrev pub image_said : List ℕ → Result Said Complaint
image_said line =
    and_then (word_said line) (λ w. and_then (make_said w.0) (λ make. and_then (last_number_said 16777216 w.1) (λ bytes. Ok (image make bytes))))

abbrev pub poke_said : List ℕ → Result Said Complaint
poke_said line = and_then (number_said 4294967295 line) (λ n. and_then (some_bytes_said n.1) (λ bytes. Ok (on (poke n.0 bytes))))

abbrev pub write_said : List ℕ → Result Said Complaint
write_said line = and_then (number_said 4294967295 line) (λ n. and_then (bytes_said n.1) (λ bytes. Ok (on (write n.0 bytes))))

abbrev pub second_said : List ℕ → Result Said Complaint
second_said line =
    and_then (byte_said line) (λ y. and_then (byte_said y.1) (λ m. and_then (byte_said m.1) (λ d. and_then (byte_said d.1) (λ h.
    and_then (byte_said h.1) (λ n. and_then (byte_said n.1) (λ s. and_then (end_said s.1) (λ _.
    Ok (second (dated y.0 m.0 d.0 h.0 n.0 s.0)))))))))

abbrev pub keyworded : Keyword → List ℕ → Result Said Complaint
keyworded keyword.Image line = image_said line
keyworded keyword.Poke line = poke_said line
keyworded keyword.Write line = write_said line
keyworded keyword.Unsound line = and_then (last_number_said 4294967295 line) (λ n. Ok (on (unsound n)))
keyworded keyword.Block line = and_then (last_number_said 4294967295 line) (λ n. Ok (on (block n)))
keyworded keyword.Digest line = and_then (end_said line) (λ _. Ok (on digest))
keyworded keyword.Second line = second_said line
keyworded keyword.Moment line = and_then (last_number_said 4294967295 line) (λ n. Ok (moment n))

abbrev pub command_said : List ℕ → Result Said Complaint
command_said line = and_then (word_said line) (λ w. and_then (keyword_said w.0) (λ k. keyworded k w.1))
