-- Pairs of digits read one by one, and bytes read back.
use Rattle.std.proofs.Common.{◌≡◌, ℕ, ◌+◌, ◌*◌, ◌/◌, ◌%◌, ◌<◌, ◌≤◌, Bool, true, false, cond, ltb, List, [], ◌∷◌, ◌++◌, map, length, get_or, take, drop, Some, None, Ok, Err, Option, Result, sym, refl, ap, ◌∙◌, arith}
use Rattle.std.specs.List.{flat_map}
use Rattle.std.specs.Char.{digit_value}
use Rattle.std.specs.Int.Digits.{AllBelowBase}
use Rattle.std.proofs.lemmas.List.{append-nil, append_assoc, take_all, at_drop_more}
use Rattle.std.proofs.lemmas.Bool.Decides.{nat_tests}
use Rattle.text.specs.declared.hex.HexFault.{HexFault}
use Rattle.text.specs.declared.hex.HexFault.TheVariants.{NotHex}
use Rattle.text.specs.Figures.{upper_digit}
use Rattle.text.specs.Lines.{blank}
use Rattle.text.specs.Pairs.{solid_of, all_hex, on_first, paired, taken, whole, hex_read, pair_text, pairs_text, BytesReadBack}

-- what a line gives behind the bytes that are done and the digit of an open pair
abbrev pub read_on : List ℕ → Option ℕ → List ℕ → Result (List ℕ) HexFault
read_on done high [] = whole done high
read_on done high (c ∷ cs) =
    cond (blank c) (read_on done high cs) (cond (ltb (digit_value c) 16) (read_on (taken done high (digit_value c)).0 (taken done high (digit_value c)).1 cs) (Err NotHex))

module _ (done : List ℕ) (high : Option ℕ) (line : List ℕ) (i : ℕ) (within : i < length line) where
  opened : read_on done high (drop i line) ≡ read_on done high (get_or line i 0 ∷ drop (i + 1) line)
  opened = at_drop_more (read_on done high) line i 0 within

  pub read_other : blank (get_or line i 0) ≡ false → ltb (digit_value (get_or line i 0)) 16 ≡ false → read_on done high (drop i line) ≡ Err NotHex
  read_other e d = opened ∙ rw (e, d)

-- the same by the whole line's digits
abbrev onto : List ℕ → Result (List ℕ) HexFault → Result (List ℕ) HexFault
onto done (Ok bytes) = Ok (done ++ bytes)
onto done (Err fault) = Err fault

onto_none : (r : Result (List ℕ) HexFault) → onto [] r ≡ r
onto_none (Ok bytes) = refl
onto_none (Err fault) = refl

onto_first : (done : List ℕ) (b : ℕ) (r : Result (List ℕ) HexFault) → onto (done ++ b ∷ []) r ≡ onto done (on_first b r)
onto_first done b (Ok bytes) = ap (λ (l : List ℕ). Ok l) (append_assoc done (b ∷ []) bytes)
onto_first done b (Err fault) = refl

abbrev open_pair : Option ℕ → List ℕ
open_pair None = []
open_pair (Some high) = high ∷ []

abbrev ReadIs : List ℕ → Option ℕ → List ℕ → Type 0
ReadIs done high cs = read_on done high cs ≡ cond (all_hex (solid_of cs)) (onto done (paired (open_pair high ++ map digit_value (solid_of cs)))) (Err NotHex)

turn : (done : List ℕ) (high : Option ℕ) (c : ℕ) (cs : List ℕ) → ((xs : List ℕ) (h : Option ℕ) → ReadIs xs h cs) → (gap digit : Bool) → blank c ≡ gap → ltb (digit_value c) 16 ≡ digit → ReadIs done high (c ∷ cs)
turn done high c cs later true digit e d = rw e (later done high)
turn done high c cs later false false e d = rw (e, d)
turn done None c cs later false true e d = rw (e, d) (later done (Some (digit_value c)))
turn done (Some high) c cs later false true e d =
    rw (e, d) (later (done ++ (high * 16 + digit_value c) ∷ []) None ∙ ap (λ (r : Result (List ℕ) HexFault). cond (all_hex (solid_of cs)) r (Err NotHex)) (onto_first done (high * 16 + digit_value c) (paired (map digit_value (solid_of cs)))))

read_is : (done : List ℕ) (high : Option ℕ) (cs : List ℕ) → ReadIs done high cs
read_is done None [] = ap (λ (l : List ℕ). Ok l) (sym (append-nil done))
read_is done (Some high) [] = refl
read_is done high (c ∷ cs) = turn done high c cs (λ xs h. read_is xs h cs) (blank c) (ltb (digit_value c) 16) refl refl

pub read_on_all : (line : List ℕ) → read_on [] None line ≡ hex_read line
unfolding hex_read
read_on_all line =
    read_is [] None line ∙ ap (λ (r : Result (List ℕ) HexFault). cond (all_hex (solid_of line)) r (Err NotHex)) (onto_none (paired (map digit_value (solid_of line))))

-- pairs that are written with a separator before each
abbrev pub behind : ℕ → List ℕ → List ℕ
behind separator bs = flat_map (λ c. separator ∷ pair_text c) bs

pub pairs_none : (separator : ℕ) (out bytes : List ℕ) → length bytes ≡ 0 → out ≡ out ++ pairs_text separator bytes
unfolding pairs_text
pairs_none separator out [] none = sym (append-nil out)
pairs_none separator out (b ∷ bs) none = absurd (omega arith)

pub pairs_all : (separator i b : ℕ) (start first out rest bytes : List ℕ) → length rest ≤ i → bytes ≡ b ∷ rest → first ≡ start ++ pair_text b → out ≡ first ++ behind separator (take i rest) → out ≡ start ++ pairs_text separator bytes
unfolding pairs_text
pairs_all separator i b start first out rest bytes end all put before =
    before ∙ ap (λ (l : List ℕ). first ++ behind separator l) (take_all i rest end) ∙ ap (λ (l : List ℕ). l ++ behind separator rest) put ∙ append_assoc start (pair_text b) (behind separator rest) ∙ ap (λ (l : List ℕ). start ++ pairs_text separator l) (sym all)

-- what is written is read back
first_of : (all : Bool) (b : ℕ) (r : Result (List ℕ) HexFault) → cond all (on_first b r) (Err NotHex) ≡ on_first b (cond all r (Err NotHex))
first_of true b r = refl
first_of false b r = refl

pair_read : (x y : ℕ) (cs : List ℕ) → blank x ≡ false → blank y ≡ false → ltb (digit_value x) 16 ≡ true → ltb (digit_value y) 16 ≡ true → hex_read (x ∷ y ∷ cs) ≡ on_first (digit_value x * 16 + digit_value y) (hex_read cs)
unfolding hex_read
pair_read x y cs bx by dx dy =
    rw (bx, by, dx, dy) (first_of (all_hex (solid_of cs)) (digit_value x * 16 + digit_value y) (paired (map digit_value (solid_of cs))))

digit_is : (d : ℕ) → d < 16 → (blank (upper_digit d) ≡ false) × (ltb (digit_value (upper_digit d)) 16 ≡ true) × (digit_value (upper_digit d) ≡ d)
digit_is d small = (grind (arith, nat_tests), grind (arith, nat_tests), grind (arith, nat_tests))

pair_back : (b : ℕ) (cs bs : List ℕ) → b < 256 → hex_read cs ≡ Ok bs → hex_read (pair_text b ++ cs) ≡ Ok (b ∷ bs)
pair_back b cs bs small back =
    let high = digit_is (b / 16) (omega arith) in
    let low = digit_is (b % 16) (omega arith) in
    let value : digit_value (upper_digit (b / 16)) * 16 + digit_value (upper_digit (b % 16)) ≡ b = omega (arith, high.2, low.2) in
    pair_read (upper_digit (b / 16)) (upper_digit (b % 16)) cs high.0 low.0 high.1 low.1 ∙ rw (back, value)

blank_read : (cs : List ℕ) → hex_read (32 ∷ cs) ≡ hex_read cs
unfolding hex_read
blank_read cs = refl

none_read : hex_read [] ≡ Ok []
unfolding hex_read
none_read = refl

behind_back : (bs : List ℕ) → AllBelowBase 256 bs → hex_read (behind 32 bs) ≡ Ok bs
behind_back [] small = none_read
behind_back (b ∷ bs) small = blank_read (pair_text b ++ behind 32 bs) ∙ pair_back b (behind 32 bs) bs small.0 (behind_back bs small.1)

pub reads_back : BytesReadBack
unfolding pairs_text
reads_back [] small = none_read
reads_back (b ∷ bs) small = pair_back b (behind 32 bs) bs small.0 (behind_back bs small.1)

-- what `digit_value` answers
pub no_digit : (t : Bool) (v : ℕ) → None ≡ cond t (Some v) None → t ≡ false
no_digit true v e = let z : ◌≡◌ {A = ℕ} 0 1 = cc in absurd (omega arith)
no_digit false v e = refl
