-- What the first words of a line say, and a number of one byte.
use Rattle.std.specs.Prelude.{ℕ, cond, List, Ok, Err, codes, Result}
use Rattle.std.specs.Str.{bytes_eq}
use Rattle.lines.specs.declared.complaint.Complaint.{Complaint}
use Rattle.lines.specs.declared.complaint.Complaint.TheVariants.{UnknownMake, UnknownCommand}
use Rattle.lines.specs.Parts.{number_said}
use Rattle.script.specs.declared.command.Make.{Make}
use Rattle.script.specs.declared.command.Make.TheVariants.{Bare, Checked}
use Rattle.script.specs.declared.command.Keyword.{Keyword}
use Rattle.script.specs.declared.command.Keyword.TheVariants.{Image, Poke, Write, Unsound, Block, Digest, Second, Moment}

abbrev pub byte_said : List ℕ → Result (ℕ × List ℕ) Complaint
byte_said line = number_said 255 line

abbrev pub make_said : List ℕ → Result Make Complaint
make_said w = cond (bytes_eq w (codes "bare")) (Ok Bare) (cond (bytes_eq w (codes "checked")) (Ok Checked) (Err UnknownMake))

abbrev pub keyword_said : List ℕ → Result Keyword Complaint
keyword_said w =
    cond (bytes_eq w (codes "image")) (Ok Image)
    (cond (bytes_eq w (codes "poke")) (Ok Poke)
    (cond (bytes_eq w (codes "write")) (Ok Write)
    (cond (bytes_eq w (codes "unsound")) (Ok Unsound)
    (cond (bytes_eq w (codes "block")) (Ok Block)
    (cond (bytes_eq w (codes "digest")) (Ok Digest)
    (cond (bytes_eq w (codes "second")) (Ok Second)
    (cond (bytes_eq w (codes "moment")) (Ok Moment) (Err UnknownCommand))))))))
