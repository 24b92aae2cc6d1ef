-- What a read answers.
use Rattle.std.specs.Prelude.{◌≡◌, ℕ, ◌+◌, ◌≤◌, true, List, length, Ok}
use Rattle.fields.specs.Words.{part}
use Rattle.fields.specs.Patches.{overlay}
use Rattle.numbers.specs.declared.service.Service.TheVariants.{FullRead}
use Rattle.request.specs.Answers.{answer_bytes}
use Rattle.request.specs.Asks.{full_read, partial_read, ask_in}
use Rattle.directory.specs.declared.entry.TableEntry.{TableEntry}
use Rattle.directory.specs.Tables.{find_table}
use Rattle.directory.specs.Uses.{allows}
use Rattle.model.specs.States.{Meter}
use Rattle.model.specs.Tables.{table_bytes}
use Rattle.model.specs.Serving.{Served, head_of, served}
use Rattle.model.specs.Soundness.{SoundMeter}

-- The bytes that a table of a meter has.
abbrev pub shown : TableEntry → Meter → List ℕ
shown t m = table_bytes t.source m.clock m.response (head_of m) m.blocks

-- An answer with some bytes of a table: it stands at the front of the buffer, and the result is how long it is.
pub record AnswersWith (bytes old : List ℕ) (now : Served) : Type 0 where
  pub answer : now.answer ≡ overlay (answer_bytes bytes) old
  pub result : now.result ≡ Ok (length (answer_bytes bytes))

-- A table that can be read is as long as the directory says. An accepted read of all of it answers its bytes, and one of a part answers that part of the same bytes.
pub record Reads : Type 0 where
  pub long : (m : Meter) (n : ℕ) (t : TableEntry) → SoundMeter m → find_table n ≡ Ok t → allows t.access FullRead ≡ true → length (shown t m) ≡ t.length
  pub whole : (key : ℕ) (bytes : List ℕ) (m : Meter) (answer scratch : List ℕ) (n count : ℕ) (t : TableEntry) → SoundMeter m → ask_in bytes ≡ Ok (full_read n) → find_table n ≡ Ok t →
      (served key bytes m answer scratch).result ≡ Ok count → AnswersWith (shown t m) answer (served key bytes m answer scratch)
  pub part : (key : ℕ) (bytes : List ℕ) (m : Meter) (answer scratch : List ℕ) (n offset wanted count : ℕ) (t : TableEntry) → ask_in bytes ≡ Ok (partial_read n offset wanted) → find_table n ≡ Ok t →
      (served key bytes m answer scratch).result ≡ Ok count → (offset + wanted ≤ t.length) × AnswersWith (part wanted offset (shown t m)) answer (served key bytes m answer scratch)
