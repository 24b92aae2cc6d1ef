-- What a write leaves in the tables.
use Rattle.std.specs.Prelude.{◌≡◌, ℕ, ◌+◌, true, ◌≢◌, List, Ok}
use Rattle.fields.specs.Patches.{patch}
use Rattle.pending.specs.declared.table.PendingTable.{PendingTable}
use Rattle.pending.specs.Rows.{is_waiting}
use Rattle.pending.specs.Tables.{table_number}
use Rattle.request.specs.Asks.{Ask, full_read, full_write, partial_write, ask_in, table_of}
use Rattle.directory.specs.declared.entry.Source.{Source}
use Rattle.directory.specs.declared.entry.Source.TheVariants as source
use Rattle.directory.specs.declared.entry.TableEntry.{TableEntry}
use Rattle.directory.specs.Tables.{find_table}
use Rattle.model.specs.States.{Meter, row_of}
use Rattle.model.specs.Serving.{head_of, served}
use Rattle.model.specs.Soundness.{SoundMeter}
use Rattle.effects.specs.Reads.{shown, AnswersWith}

-- A table whose bytes are written: 6, 54, 2053, 2095 and the pending ones. All but table 7, of those that can be written at all.
abbrev pub IsWritten : Source → Type 0
IsWritten (source.Computed view) = ⊥
IsWritten source.Initiate = ⊥
IsWritten source.Utility = Unit {0}
IsWritten (source.Staged t) = Unit {0}
IsWritten (source.Pending t) = Unit {0}
IsWritten (source.Log name) = ⊥

-- After an accepted write of a whole table its bytes are those that were sent, and the next read, if accepted, answers them. After one of a part, the bytes beside it are as before.
-- A staging makes its row wait. Every other such table keeps its bytes, and every other row is as it was.
pub record Writes : Type 0 where
  pub whole : (key : ℕ) (bytes : List ℕ) (m : Meter) (answer scratch : List ℕ) (n count : ℕ) (content : List ℕ) (t : TableEntry) → SoundMeter m → ask_in bytes ≡ Ok (full_write n content) → find_table n ≡ Ok t → IsWritten t.source →
      (served key bytes m answer scratch).result ≡ Ok count → shown t (served key bytes m answer scratch).meter ≡ content
  pub answered : (key key' : ℕ) (bytes bytes' : List ℕ) (m : Meter) (answer answer' scratch scratch' : List ℕ) (n count count' : ℕ) (content : List ℕ) (t : TableEntry) → SoundMeter m → ask_in bytes ≡ Ok (full_write n content) → find_table n ≡ Ok t → IsWritten t.source →
      (served key bytes m answer scratch).result ≡ Ok count → ask_in bytes' ≡ Ok (full_read n) → (served key' bytes' (served key bytes m answer scratch).meter answer' scratch').result ≡ Ok count' →
      AnswersWith content answer' (served key' bytes' (served key bytes m answer scratch).meter answer' scratch')
  pub part : (key : ℕ) (bytes : List ℕ) (m : Meter) (answer scratch : List ℕ) (n offset count : ℕ) (content : List ℕ) (t : TableEntry) → SoundMeter m → ask_in bytes ≡ Ok (partial_write n offset content) → find_table n ≡ Ok t →
      (served key bytes m answer scratch).result ≡ Ok count → shown t (served key bytes m answer scratch).meter ≡ patch offset content (shown t m)
  pub waits : (key : ℕ) (bytes : List ℕ) (m : Meter) (answer scratch : List ℕ) (count : ℕ) (content : List ℕ) (t : PendingTable) → SoundMeter m → ask_in bytes ≡ Ok (full_write (4096 + table_number t) content) →
      (served key bytes m answer scratch).result ≡ Ok count → is_waiting (row_of t (head_of (served key bytes m answer scratch).meter)) ≡ true
  pub others : (key : ℕ) (bytes : List ℕ) (m : Meter) (answer scratch : List ℕ) (a : Ask) (t u : TableEntry) (k : ℕ) → SoundMeter m → ask_in bytes ≡ Ok a → find_table (table_of a) ≡ Ok t → IsWritten t.source →
      find_table k ≡ Ok u → IsWritten u.source → k ≢ table_of a → shown u (served key bytes m answer scratch).meter ≡ shown u m
  pub rows : (key : ℕ) (bytes : List ℕ) (m : Meter) (answer scratch : List ℕ) (a : Ask) (t : TableEntry) (u : PendingTable) → SoundMeter m → ask_in bytes ≡ Ok a → find_table (table_of a) ≡ Ok t → IsWritten t.source →
      table_of a ≢ 4096 + table_number u → row_of u (head_of (served key bytes m answer scratch).meter) ≡ row_of u (head_of m)
