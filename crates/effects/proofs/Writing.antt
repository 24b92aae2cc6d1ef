-- What an accepted write leaves in all the tables.
use Rattle.std.proofs.Common.{◌≡◌, ℕ, ◌+◌, ◌≤◌, true, ◌≢◌, List, length, Ok, sym, refl, ap, ◌∙◌, subst, arith}
use Rattle.fields.specs.Patches.{patch}
use Rattle.pending.specs.declared.table.PendingTable.{PendingTable}
use Rattle.pending.specs.declared.table.PendingTable.TheVariants.{Calendar, Outputs, Override}
use Rattle.pending.specs.Rows.{is_waiting}
use Rattle.pending.specs.Tables.{table_number}
use Rattle.request.specs.Asks.{Ask, full_write, partial_write, ask_in, table_of}
use Rattle.directory.specs.declared.entry.Source.TheVariants as source
use Rattle.directory.specs.declared.entry.TableEntry.{TableEntry}
use Rattle.directory.specs.Geometry.{staged_length}
use Rattle.directory.specs.Tables.{listed, find_table}
use Rattle.model.specs.States.{Meter, row_of}
use Rattle.model.specs.Requests.{Deed, content_verdict}
use Rattle.model.specs.Serving.{head_of, performed, limited, served}
use Rattle.model.specs.Soundness.{SoundMeter}
use Rattle.model.proofs.ServingSound.{stays_sound}
use Rattle.effects.specs.Reads.{shown, AnswersWith}
use Rattle.effects.specs.Writes.{IsWritten, Writes}
use Rattle.model.proofs.FoundTables.{number_of, entry_of, found}
use Rattle.effects.proofs.Accepting.{known_as, served_ok, served_leaves}
use Rattle.effects.proofs.AlteredBlocks.{deed_left}
use Rattle.effects.proofs.Reading.{reads}
use Rattle.effects.proofs.HeadsAfter.{staged_row_lem}
use Rattle.effects.proofs.WrittenBytes.{row_staged, whole_written, part_written}
use Rattle.effects.proofs.OtherTables.{place_of, unlisted, deed_rows, table_left}

twin_found : (t : PendingTable) → find_table (4096 + table_number t) ≡ Ok (entry_of (source.Pending t))
unfolding listed
twin_found Calendar = refl
twin_found Outputs = refl
twin_found Override = refl

whole_read_back : (key : ℕ) (bytes : List ℕ) (m : Meter) (answer scratch : List ℕ) (n count : ℕ) (content : List ℕ) (t : TableEntry) → SoundMeter m → ask_in bytes ≡ Ok (full_write n content) → find_table n ≡ Ok t → IsWritten t.source →
    (served key bytes m answer scratch).result ≡ Ok count → shown t (served key bytes m answer scratch).meter ≡ content
whole_read_back key bytes m answer scratch n count content t good ask find w h =
    let s = served_ok key bytes m answer scratch count h in
    let x = known_as key bytes m (full_write n content) t s.deed ask find s.admits in
    let is = x.fit.0 in
    ap (λ (now : Meter). shown t now) s.meter ∙ ap (λ (d : Deed). shown t (performed d m).meter) is
    ∙ whole_written t.source content m good w x.fit.1 x.fit.2 (ap (λ (d : Deed). content_verdict d m.clock m.blocks) (sym is) ∙ x.right) (ap (λ (d : Deed). limited d m.blocks) (sym is) ∙ x.limit)

part_read_back : (key : ℕ) (bytes : List ℕ) (m : Meter) (answer scratch : List ℕ) (n offset count : ℕ) (content : List ℕ) (t : TableEntry) → SoundMeter m → ask_in bytes ≡ Ok (partial_write n offset content) → find_table n ≡ Ok t →
    (served key bytes m answer scratch).result ≡ Ok count → shown t (served key bytes m answer scratch).meter ≡ patch offset content (shown t m)
part_read_back key bytes m answer scratch n offset count content t good ask find h =
    let s = served_ok key bytes m answer scratch count h in
    let x = known_as key bytes m (partial_write n offset content) t s.deed ask find s.admits in
    ap (λ (now : Meter). shown t now) s.meter ∙ ap (λ (d : Deed). shown t (performed d m).meter) x.fit.0 ∙ part_written t.source offset content m good x.allowed x.fit.1

row_waits : (key : ℕ) (bytes : List ℕ) (m : Meter) (answer scratch : List ℕ) (count : ℕ) (content : List ℕ) (t : PendingTable) → SoundMeter m → ask_in bytes ≡ Ok (full_write (4096 + table_number t) content) →
    (served key bytes m answer scratch).result ≡ Ok count → is_waiting (row_of t (head_of (served key bytes m answer scratch).meter)) ≡ true
row_waits key bytes m answer scratch count content t good ask h =
    let e = entry_of (source.Pending t) in
    let a = full_write (4096 + table_number t) content in
    let s = served_ok key bytes m answer scratch count h in
    let x = known_as key bytes m a e s.deed ask (twin_found t) s.admits in
    let is = x.fit.0 in
    let low : staged_length t + 6 ≤ length content = x.fit.1 in
    ap (λ (now : Meter). is_waiting (row_of t (head_of now))) s.meter ∙ ap (λ (d : Deed). is_waiting (row_of t (head_of (performed d m).meter))) is
    ∙ ap is_waiting (row_staged e t content m good (ap (λ (d : Deed). limited d m.blocks) (sym is) ∙ x.limit))
    ∙ (staged_row_lem e t content m (omega arith) (ap (λ (d : Deed). content_verdict d m.clock m.blocks) (sym is) ∙ x.right)).0

others_left : (key : ℕ) (bytes : List ℕ) (m : Meter) (answer scratch : List ℕ) (a : Ask) (t u : TableEntry) (k : ℕ) → SoundMeter m → ask_in bytes ≡ Ok a → find_table (table_of a) ≡ Ok t → IsWritten t.source →
    find_table k ≡ Ok u → IsWritten u.source → k ≢ table_of a → shown u (served key bytes m answer scratch).meter ≡ shown u m
others_left key bytes m answer scratch a t u k good ask find w other v ne =
    served_leaves (λ now. shown u now ≡ shown u m) key bytes m answer scratch refl (λ d h.
    let x = known_as key bytes m a t d ask find h in
    let number : number_of u.source ≡ k = (found k u other).1 in
    let apart : number_of u.source ≢ number_of t.source = λ e. ne (sym number ∙ e ∙ x.number) in
    table_left u.source m (performed d m).meter v (deed_left t.source a d m x.allowed x.fit (place_of u.source) (unlisted t.source u.source m.blocks w v apart))
    (λ p is. deed_rows t.source a d m p good w x.allowed x.fit x.limit (λ e. apart (ap number_of is ∙ e))))

rows_left : (key : ℕ) (bytes : List ℕ) (m : Meter) (answer scratch : List ℕ) (a : Ask) (t : TableEntry) (u : PendingTable) → SoundMeter m → ask_in bytes ≡ Ok a → find_table (table_of a) ≡ Ok t → IsWritten t.source →
    table_of a ≢ 4096 + table_number u → row_of u (head_of (served key bytes m answer scratch).meter) ≡ row_of u (head_of m)
rows_left key bytes m answer scratch a t u good ask find w ne =
    served_leaves (λ now. row_of u (head_of now) ≡ row_of u (head_of m)) key bytes m answer scratch refl (λ d h.
    let x = known_as key bytes m a t d ask find h in
    deed_rows t.source a d m u good w x.allowed x.fit x.limit (λ e. ne (sym x.number ∙ sym e)))

pub writes : Writes
writes = record {
  whole = whole_read_back;
  answered = λ key key' bytes bytes' m answer answer' scratch scratch' n count count' content t good ask find w h ask' h'.
      let now = (served key bytes m answer scratch).meter in
      subst (λ told. AnswersWith told answer' (served key' bytes' now answer' scratch')) (whole_read_back key bytes m answer scratch n count content t good ask find w h)
      (reads.whole key' bytes' now answer' scratch' n count' t (stays_sound.serve key bytes m answer scratch good) ask' find h');
  part = part_read_back;
  waits = row_waits;
  others = others_left;
  rows = rows_left;
}
