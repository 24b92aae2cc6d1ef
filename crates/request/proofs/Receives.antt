-- Bytes that are read as something are just those that ask for it.
use Rattle.std.proofs.Common.{◌≡◌, ℕ, ◌+◌, ◌*◌, ◌/◌, ◌%◌, ◌<◌, ◌≤◌, true, false, List, [], ◌∷◌, ◌++◌, length, get_or, take, drop, Some, None, Ok, sum, Option, sym, refl, ap, ◌∙◌, ⊎_elim, arith}
use Rattle.std.proofs.lemmas.List.{take-append-drop, drop-drop, drop_more, drop_all, get_or-drop, length-drop}
use Rattle.std.proofs.lemmas.List.Sums.{sum_by_push}
use Rattle.std.proofs.lemmas.Bool.{eqb-true, cases_Bool}
use Rattle.std.proofs.lemmas.Bool.Decides.{eqb_tells}
use Rattle.numbers.specs.declared.service.Service.{Service}
use Rattle.numbers.specs.declared.service.Service.TheVariants.{FullRead, PartialRead, FullWrite, PartialWrite}
use Rattle.numbers.specs.Names.{first_with, service_number, service_numbered}
use Rattle.fields.specs.Words.{part, be_value, be_bytes, big_word}
use Rattle.fields.proofs.Numbers.{part_2}
use Rattle.request.specs.Asks.{Ask, full_read, partial_read, full_write, partial_write, whole, full_read_ask, partial_read_ask, full_write_ask, partial_write_ask, by_service, ask_in}
use Rattle.request.specs.Answers.{check_byte, with_check}
use Rattle.request.specs.Sent.{request_bytes}
use Rattle.request.proofs.Three.{part_3}
use Rattle.request.proofs.Seals.{length_part}

abbrev Bytes : List ℕ → Type 0
Bytes bs = (i : ℕ) → get_or bs i 0 < 256

-- numbers of two and of three bytes are those bytes
two_back : (x y : ℕ) → x < 256 → y < 256 → be_bytes 2 (be_value (x ∷ (y ∷ []))) ≡ x ∷ (y ∷ [])
two_back x y hx hy =
    let v : ℕ = y + 256 * (x + 256 * 0) in
    let a : v / 256 % 256 ≡ x = omega arith in
    let b : v % 256 ≡ y = omega arith in
    rw (a, b)

three_back : (x y z : ℕ) → x < 256 → y < 256 → z < 256 → be_bytes 3 (be_value (x ∷ (y ∷ (z ∷ [])))) ≡ x ∷ (y ∷ (z ∷ []))
three_back x y z hx hy hz =
    let v : ℕ = z + 256 * (y + 256 * (x + 256 * 0)) in
    let a : v / 256 / 256 % 256 ≡ x = omega arith in
    let b : v / 256 % 256 ≡ y = omega arith in
    let c : v % 256 ≡ z = omega arith in
    rw (a, b, c)

big_2 : (at : ℕ) (bs : List ℕ) → Bytes bs → at + 2 ≤ length bs → part 2 at bs ≡ be_bytes 2 (big_word 2 at bs)
unfolding big_word
big_2 at bs small fits =
    let there = part_2 at bs fits in
    there ∙ (sym (two_back _ _ (small at) (small (at + 1))) ∙ ap (λ l. be_bytes 2 (be_value l)) (sym there))

big_3 : (at : ℕ) (bs : List ℕ) → Bytes bs → at + 3 ≤ length bs → part 3 at bs ≡ be_bytes 3 (big_word 3 at bs)
unfolding big_word
big_3 at bs small fits =
    let there = part_3 at bs fits in
    there ∙ (sym (three_back _ _ _ (small at) (small (at + 1)) (small (at + 2))) ∙ ap (λ l. be_bytes 3 (be_value l)) (sym there))

-- a list is its parts
cut : (w at : ℕ) (bs : List ℕ) → drop at bs ≡ part w at bs ++ drop (at + w) bs
cut w at bs = sym (take-append-drop w (drop at bs)) ∙ ap (λ r. part w at bs ++ r) (drop-drop w at bs)

-- bytes and a last one that sum to 0: the last one is the check
check_back : (n : ℕ) (rest : List ℕ) → Bytes rest → length rest ≡ n + 1 → sum rest % 256 ≡ 0 → rest ≡ with_check (take n rest)
check_back n rest small long zero =
    let last : ℕ = get_or rest n 0 in
    let tail : drop n rest ≡ last ∷ [] = drop_more rest n 0 (omega arith) ∙ ap (λ l. last ∷ l) (drop_all (n + 1) rest (omega arith)) in
    let joined : rest ≡ take n rest ++ (last ∷ []) = sym (take-append-drop n rest) ∙ ap (λ l. take n rest ++ l) tail in
    let total : sum rest ≡ sum (take n rest) + last = ap sum joined ∙ sum_by_push (λ x. x) (take n rest) last in
    let is : last ≡ check_byte (take n rest) = omega (arith, small n) in
    joined ∙ ap (λ v. take n rest ++ (v ∷ [])) is

bytes_drop : (n : ℕ) (bs : List ℕ) → Bytes bs → Bytes (drop n bs)
bytes_drop n bs small i = omega (arith, small (n + i), get_or-drop n bs i 0)

-- the number of a name that was found
first_has : {X : Type 0} (f : X → ℕ) (n : ℕ) (xs : List X) (x : X) → first_with f n xs ≡ Some x → f x ≡ n
first_has f n [] x e = absurd (let z : ◌≡◌ {A = ℕ} 0 1 = cc in omega arith)
first_has f n (y ∷ ys) x e =
    ⊎_elim (λ t. let same : Some y ≡ Some x = rw t.0 at e in let at : y ≡ x = cc in ap f (sym at) ∙ t.1) (λ t. first_has f n ys x (rw t.0 at e)) (eqb_tells (f y) n)

head_is : (bs : List ℕ) (s : Service) → 0 < length bs → service_numbered (get_or bs 0 0) ≡ Some s → bs ≡ service_number s ∷ drop 1 bs
head_is bs s some e =
    drop_more bs 0 0 some ∙ ap (λ b. b ∷ drop 1 bs) (sym (first_has service_number (get_or bs 0 0) (FullRead ∷ (PartialRead ∷ (FullWrite ∷ (PartialWrite ∷ [])))) s e))

full_read_lem : (bs : List ℕ) (a : Ask) → Bytes bs → bs ≡ service_number FullRead ∷ drop 1 bs → full_read_ask bs ≡ Ok a → bs ≡ request_bytes a
full_read_lem bs a small head e =
    ⊎_elim
    (λ t.
    let asks : a ≡ full_read (big_word 2 1 bs) = (let y : Ok (full_read (big_word 2 1 bs)) ≡ Ok a = rw t.0 at e in cc) in
    let end : drop 3 bs ≡ [] = drop_all 3 bs (omega (arith, t.1)) in
    let table = big_2 1 bs small (omega (arith, t.1)) in
    let rest : drop 1 bs ≡ be_bytes 2 (big_word 2 1 bs) ++ [] = cut 2 1 bs ∙ cc in
    head ∙ (ap (λ l. service_number FullRead ∷ l) rest ∙ ap request_bytes (sym asks)))
    (λ t. absurd (let y = rw t.0 at e in let z : ◌≡◌ {A = ℕ} 0 1 = cc in omega arith))
    (eqb_tells (length bs) 3)

partial_read_lem : (bs : List ℕ) (a : Ask) → Bytes bs → bs ≡ service_number PartialRead ∷ drop 1 bs → partial_read_ask bs ≡ Ok a → bs ≡ request_bytes a
partial_read_lem bs a small head e =
    ⊎_elim
    (λ t.
    let ask : Ask = partial_read (big_word 2 1 bs) (big_word 3 3 bs) (big_word 2 6 bs) in
    let asks : a ≡ ask = (let y : Ok ask ≡ Ok a = rw t.0 at e in cc) in
    let end : drop 8 bs ≡ [] = drop_all 8 bs (omega (arith, t.1)) in
    let table = big_2 1 bs small (omega (arith, t.1)) in
    let offset = big_3 3 bs small (omega (arith, t.1)) in
    let count = big_2 6 bs small (omega (arith, t.1)) in
    let last : drop 6 bs ≡ be_bytes 2 (big_word 2 6 bs) ++ [] = cut 2 6 bs ∙ cc in
    let middle : drop 3 bs ≡ be_bytes 3 (big_word 3 3 bs) ++ (be_bytes 2 (big_word 2 6 bs) ++ []) = cut 3 3 bs ∙ cc in
    let rest : drop 1 bs ≡ be_bytes 2 (big_word 2 1 bs) ++ (be_bytes 3 (big_word 3 3 bs) ++ (be_bytes 2 (big_word 2 6 bs) ++ [])) = cut 2 1 bs ∙ cc in
    head ∙ (ap (λ l. service_number PartialRead ∷ l) rest ∙ ap request_bytes (sym asks)))
    (λ t. absurd (let y = rw t.0 at e in let z : ◌≡◌ {A = ℕ} 0 1 = cc in omega arith))
    (eqb_tells (length bs) 8)

-- what the test says
whole_says : (head count : ℕ) (bs : List ℕ) → whole head count bs ≡ true → (length bs ≡ head + count + 1) × (sum (drop head bs) % 256 ≡ 0)
whole_says head count bs sound =
    ⊎_elim
    (λ t. (t.1, eqb-true (sum (drop head bs) % 256) 0 (rw t.0 at sound)))
    (λ t. absurd (let y = rw t.0 at sound in let z : ◌≡◌ {A = ℕ} 0 1 = cc in omega arith))
    (eqb_tells (length bs) (head + count + 1))

-- what is left after a head, under that test
content_back : (head count : ℕ) (bs : List ℕ) → Bytes bs → whole head count bs ≡ true → (drop head bs ≡ with_check (part count head bs)) × (length (part count head bs) ≡ count) × (length bs ≡ head + count + 1)
content_back head count bs small sound =
    let says = whole_says head count bs sound in
    let long : length (drop head bs) ≡ count + 1 = omega (arith, length-drop head bs, says.0) in
    (check_back count (drop head bs) (bytes_drop head bs small) long says.1, length_part count head bs (omega (arith, says.0)), says.0)

full_write_lem : (bs : List ℕ) (a : Ask) → Bytes bs → bs ≡ service_number FullWrite ∷ drop 1 bs → full_write_ask bs ≡ Ok a → bs ≡ request_bytes a
full_write_lem bs a small head e =
    let n : ℕ = big_word 2 3 bs in
    let ask : Ask = full_write (big_word 2 1 bs) (part n 5 bs) in
    ⊎_elim
    (λ (sound : whole 5 n bs ≡ true).
    let asks : a ≡ ask = (let y : Ok ask ≡ Ok a = rw sound at e in cc) in
    let back = content_back 5 n bs small sound in
    let table = big_2 1 bs small (omega (arith, back.2)) in
    let count : part 2 3 bs ≡ be_bytes 2 (length (part n 5 bs)) = big_2 3 bs small (omega (arith, back.2)) ∙ ap (be_bytes 2) (sym back.1) in
    let last : drop 3 bs ≡ be_bytes 2 (length (part n 5 bs)) ++ with_check (part n 5 bs) = cut 2 3 bs ∙ (ap (λ l. l ++ drop 5 bs) count ∙ ap (λ l. be_bytes 2 (length (part n 5 bs)) ++ l) back.0) in
    let rest : drop 1 bs ≡ be_bytes 2 (big_word 2 1 bs) ++ (be_bytes 2 (length (part n 5 bs)) ++ with_check (part n 5 bs)) = cut 2 1 bs ∙ (ap (λ l. l ++ drop 3 bs) table ∙ ap (λ l. be_bytes 2 (big_word 2 1 bs) ++ l) last) in
    head ∙ (ap (λ l. service_number FullWrite ∷ l) rest ∙ ap request_bytes (sym asks)))
    (λ (unsound : whole 5 n bs ≡ false). absurd (let y = rw unsound at e in let z : ◌≡◌ {A = ℕ} 0 1 = cc in omega arith))
    (cases_Bool (whole 5 n bs))

partial_write_lem : (bs : List ℕ) (a : Ask) → Bytes bs → bs ≡ service_number PartialWrite ∷ drop 1 bs → partial_write_ask bs ≡ Ok a → bs ≡ request_bytes a
partial_write_lem bs a small head e =
    let n : ℕ = big_word 2 6 bs in
    let ask : Ask = partial_write (big_word 2 1 bs) (big_word 3 3 bs) (part n 8 bs) in
    ⊎_elim
    (λ (sound : whole 8 n bs ≡ true).
    let asks : a ≡ ask = (let y : Ok ask ≡ Ok a = rw sound at e in cc) in
    let back = content_back 8 n bs small sound in
    let table = big_2 1 bs small (omega (arith, back.2)) in
    let offset = big_3 3 bs small (omega (arith, back.2)) in
    let count : part 2 6 bs ≡ be_bytes 2 (length (part n 8 bs)) = big_2 6 bs small (omega (arith, back.2)) ∙ ap (be_bytes 2) (sym back.1) in
    let last : drop 6 bs ≡ be_bytes 2 (length (part n 8 bs)) ++ with_check (part n 8 bs) = cut 2 6 bs ∙ (ap (λ l. l ++ drop 8 bs) count ∙ ap (λ l. be_bytes 2 (length (part n 8 bs)) ++ l) back.0) in
    let middle : drop 3 bs ≡ be_bytes 3 (big_word 3 3 bs) ++ (be_bytes 2 (length (part n 8 bs)) ++ with_check (part n 8 bs)) = cut 3 3 bs ∙ (ap (λ l. l ++ drop 6 bs) offset ∙ ap (λ l. be_bytes 3 (big_word 3 3 bs) ++ l) last) in
    let rest : drop 1 bs ≡ be_bytes 2 (big_word 2 1 bs) ++ (be_bytes 3 (big_word 3 3 bs) ++ (be_bytes 2 (length (part n 8 bs)) ++ with_check (part n 8 bs))) = cut 2 1 bs ∙ (ap (λ l. l ++ drop 3 bs) table ∙ ap (λ l. be_bytes 2 (big_word 2 1 bs) ++ l) middle) in
    head ∙ (ap (λ l. service_number PartialWrite ∷ l) rest ∙ ap request_bytes (sym asks)))
    (λ (unsound : whole 8 n bs ≡ false). absurd (let y = rw unsound at e in let z : ◌≡◌ {A = ℕ} 0 1 = cc in omega arith))
    (cases_Bool (whole 8 n bs))

by_service_lem : (s : Option Service) (bs : List ℕ) (a : Ask) → Bytes bs → 0 < length bs → service_numbered (get_or bs 0 0) ≡ s → by_service s bs ≡ Ok a → bs ≡ request_bytes a
by_service_lem (Some FullRead) bs a small some s e = full_read_lem bs a small (head_is bs FullRead some s) e
by_service_lem (Some PartialRead) bs a small some s e = partial_read_lem bs a small (head_is bs PartialRead some s) e
by_service_lem (Some FullWrite) bs a small some s e = full_write_lem bs a small (head_is bs FullWrite some s) e
by_service_lem (Some PartialWrite) bs a small some s e = partial_write_lem bs a small (head_is bs PartialWrite some s) e
by_service_lem None bs a small some s e = absurd (let z : ◌≡◌ {A = ℕ} 0 1 = cc in omega arith)

-- what is read from bytes is what they are
pub read_sent : (bs : List ℕ) (a : Ask) → Bytes bs → ask_in bs ≡ Ok a → bs ≡ request_bytes a
read_sent bs a small e =
    ⊎_elim
    (λ t. absurd (let y = rw t.0 at e in let z : ◌≡◌ {A = ℕ} 0 1 = cc in omega arith))
    (λ t. by_service_lem (service_numbered (get_or bs 0 0)) bs a small (omega (arith, t.1)) refl (rw t.0 at e))
    (eqb_tells (length bs) 0)
