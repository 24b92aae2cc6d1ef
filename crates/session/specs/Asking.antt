-- What is answered to what is asked of an image, and the image then.
use Rattle.std.specs.Prelude.{◌≡◌, ℕ, ◌+◌, cond, List, length, Ok, Err, MatchBool, vec_items, Result, nat_lt}
use Rattle.fields.specs.Patches.{patch}
use Rattle.memory.specs.Blocks.{Block as Content, lowest_corrupt}
use Rattle.memory.specs.Verdicts.{write_verdict}
use Rattle.text.specs.Digests.{digest_of}
use Rattle.script.specs.declared.answer.Answer.{Answer}
use Rattle.script.specs.declared.answer.Answer.TheVariants.{Poked, Write, Block, Unsound, Digest}
use Rattle.script.specs.declared.command.BlockCommand.{BlockCommand}
use Rattle.script.specs.declared.command.BlockCommand.TheVariants as blocks
use Rattle.script.specs.declared.command.Make.{Make}
use Rattle.lines.specs.declared.complaint.Complaint.{Complaint}
use Rattle.lines.specs.declared.complaint.Complaint.TheVariants.{OutsideImage, TooManyBytes}
use Rattle.script.specs.Commands.{Asked, poke, write, unsound, block, digest}
use Rattle.session.specs.Images.{blocks_of, written_to, content_from, content_read}

-- The answer to an overwriting, whatever the make, and the bytes then.
abbrev pub poke_answer : List ℕ → ℕ → List ℕ → Result Answer Complaint
poke_answer bytes offset given = cond (nat_lt (length bytes) (offset + length given)) (Err OutsideImage) (Ok (Poked (length given)))

abbrev pub poked : List ℕ → ℕ → List ℕ → List ℕ
poked bytes offset given = cond (nat_lt (length bytes) (offset + length given)) bytes (patch offset given bytes)

-- The answer to what is asked of an image, and the image's bytes then.
abbrev pub answer_on : Make → List ℕ → Asked → Result Answer Complaint
answer_on make bytes (poke offset given) = poke_answer bytes offset given
answer_on make bytes (write n given) = cond (nat_lt 510 (length given)) (Err TooManyBytes) (Ok (Write n (write_verdict (blocks_of make bytes) n)))
answer_on make bytes (unsound below) = Ok (Unsound (lowest_corrupt below (blocks_of make bytes)))
answer_on make bytes (block n) = Ok (Block n (content_read (blocks_of make bytes) n))
answer_on make bytes digest = Ok (Digest (digest_of bytes))

abbrev pub bytes_after : Make → List ℕ → Asked → List ℕ
bytes_after make bytes (poke offset given) = poked bytes offset given
bytes_after make bytes (write n given) = cond (nat_lt 510 (length given)) bytes (written_to make bytes n (content_from given))
bytes_after make bytes (unsound below) = bytes
bytes_after make bytes (block n) = bytes
bytes_after make bytes digest = bytes

-- The answer of any block memory to what is asked of its blocks.
abbrev pub blocks_answer : List Content → BlockCommand → Result Answer Complaint
blocks_answer bs (blocks.Write n given) = cond (nat_lt 510 (length (vec_items given))) (Err TooManyBytes) (Ok (Write n (write_verdict bs n)))
blocks_answer bs (blocks.Unsound below) = Ok (Unsound (lowest_corrupt below bs))
blocks_answer bs (blocks.Block n) = Ok (Block n (content_read bs n))

-- The memory then, by what a write of a content to a block does to it.
abbrev pub BlocksAfter : {M : Type 0} → (M → ℕ → List ℕ → M → Type 0) → M → BlockCommand → M → Type 0
BlocksAfter rewrites before (blocks.Write n given) after =
    MatchBool (nat_lt 510 (length (vec_items given))) (after ≡ before) (rewrites before n (content_from (vec_items given)) after)
BlocksAfter rewrites before (blocks.Unsound below) after = after ≡ before
BlocksAfter rewrites before (blocks.Block n) after = after ≡ before
