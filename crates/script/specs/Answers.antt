-- How a transcript goes on with an answer.
use Rattle.std.specs.Prelude.{ℕ, List, [], ◌++◌, Some, None, Ok, Err, codes, Option, Result}
use Rattle.memory.specs.declared.fault.MemoryFault.{MemoryFault}
use Rattle.text.specs.Digests.{digest_text}
use Rattle.text.specs.Pairs.{hex_text}
use Rattle.lines.specs.Writing.{numbered, date_after}
use Rattle.script.specs.declared.answer.Answer.{Answer}
use Rattle.script.specs.declared.answer.Answer.TheVariants.{Image, Poked, Write, Block, Unsound, Digest, Second, Moment}

abbrev pub verdict_after : List ℕ → ℕ → Result (Unit {0}) MemoryFault → List ℕ
verdict_after before n (Ok x) = numbered before (codes "write ") n (codes ": ok")
verdict_after before n (Err e) = numbered before (codes "write ") n (codes ": refused")

abbrev pub content_after : List ℕ → ℕ → Result (List ℕ) MemoryFault → List ℕ
content_after before n (Ok content) = numbered before (codes "block ") n (codes ": ") ++ hex_text content
content_after before n (Err e) = numbered before (codes "block ") n (codes ": refused")

abbrev pub lowest_after : List ℕ → Option ℕ → List ℕ
lowest_after before None = before ++ codes "unsound: none"
lowest_after before (Some n) = numbered before (codes "unsound: ") n []

-- The transcript with the text of an answer behind what there was before.
abbrev pub answer_after : List ℕ → Answer → List ℕ
answer_after before (Image size) = numbered before (codes "image: ") size (codes " blocks")
answer_after before (Poked count) = numbered before (codes "poked ") count []
answer_after before (Write n verdict) = verdict_after before n verdict
answer_after before (Block n read) = content_after before n read
answer_after before (Unsound lowest) = lowest_after before lowest
answer_after before (Digest value) = before ++ codes "digest: " ++ digest_text value
answer_after before (Second None) = before ++ codes "second: none"
answer_after before (Second (Some s)) = numbered before (codes "second: ") s []
answer_after before (Moment None) = before ++ codes "moment: none"
answer_after before (Moment (Some p)) = date_after (before ++ codes "moment: ") p.0 p.1
