-- Requests that are written are read as what they ask for.
use Rattle.std.proofs.Common.{◌≡◌, ℕ, ◌+◌, ◌%◌, ◌<◌, true, false, eqb, List, [], ◌∷◌, ◌++◌, length, take, drop, Ok, sum, refl, ap, ◌∙◌, arith}
use Rattle.std.proofs.lemmas.List.{length_push, take_at}
use Rattle.std.proofs.lemmas.List.Sums.{sum_by_push}
use Rattle.std.proofs.lemmas.Bool.{eq-eqb, ne_eqb}
use Rattle.fields.specs.Words.{part, big_word}
use Rattle.fields.proofs.Numbers.{le_value_bytes}
use Rattle.request.specs.Asks.{Ask, full_read, partial_read, full_write, partial_write, whole, full_write_ask, partial_write_ask, ask_in}
use Rattle.request.specs.Answers.{check_byte, with_check}
use Rattle.request.specs.Sent.{request_bytes, Fitting}

-- a head, bytes and their check pass the test
pub whole_checked : (head : ℕ) (front bytes : List ℕ) → length front ≡ head → drop head (front ++ with_check bytes) ≡ with_check bytes → length (front ++ with_check bytes) ≡ head + length bytes + 1 → whole head (length bytes) (front ++ with_check bytes) ≡ true
whole_checked head front bytes long rest size =
    let zero : sum (with_check bytes) % 256 ≡ 0 = omega (arith, sum_by_push (λ x. x) bytes (check_byte bytes)) in
    let last : sum (drop head (front ++ with_check bytes)) % 256 ≡ 0 = ap (λ l. sum l % 256) rest ∙ zero in
    rw (eq-eqb _ _ size) (eq-eqb _ _ last)

full_write_lem : (bs content : List ℕ) (table count : ℕ) → big_word 2 1 bs ≡ table → big_word 2 3 bs ≡ count → whole 5 count bs ≡ true → part count 5 bs ≡ content → full_write_ask bs ≡ Ok (full_write table content)
full_write_lem bs content table count t n sound there = rw (n, t, sound, there)

partial_write_lem : (bs content : List ℕ) (table offset count : ℕ) → big_word 2 1 bs ≡ table → big_word 3 3 bs ≡ offset → big_word 2 6 bs ≡ count → whole 8 count bs ≡ true → part count 8 bs ≡ content → partial_write_ask bs ≡ Ok (partial_write table offset content)
partial_write_lem bs content table offset count t o n sound there = rw (n, t, o, sound, there)

filled : (n : ℕ) → 0 < n → eqb n 0 ≡ false
filled n h = ne_eqb n 0 (λ e. omega arith)

-- what a request asks for is read from its bytes
pub sent_read : (a : Ask) → Fitting a → ask_in (request_bytes a) ≡ Ok a
unfolding big_word
sent_read (full_read table) fits = ap (λ t. Ok (full_read t)) (le_value_bytes 2 table fits)
sent_read (partial_read table offset count) fits =
    let t = le_value_bytes 2 table fits.0 in
    let o = le_value_bytes 3 offset fits.1 in
    let n = le_value_bytes 2 count fits.2 in
    cc
sent_read (full_write table content) fits =
    let bs : List ℕ = request_bytes (full_write table content) in
    let n : ℕ = length content in
    let some : eqb (length bs) 0 ≡ false = filled (length bs) (omega arith) in
    let sound : whole 5 n bs ≡ true = whole_checked 5 (take 5 bs) content refl refl (omega (arith, length_push content (check_byte content))) in
    rw some (full_write_lem bs content table n (le_value_bytes 2 table fits.0) (le_value_bytes 2 n fits.1) sound (take_at content (check_byte content ∷ []) n refl))
sent_read (partial_write table offset content) fits =
    let bs : List ℕ = request_bytes (partial_write table offset content) in
    let n : ℕ = length content in
    let some : eqb (length bs) 0 ≡ false = filled (length bs) (omega arith) in
    let sound : whole 8 n bs ≡ true = whole_checked 8 (take 8 bs) content refl refl (omega (arith, length_push content (check_byte content))) in
    rw some
    (partial_write_lem bs content table offset n (le_value_bytes 2 table fits.0) (le_value_bytes 3 offset fits.1) (le_value_bytes 2 n fits.2) sound
    (take_at content (check_byte content ∷ []) n refl))
