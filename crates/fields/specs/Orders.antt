-- Laws of the two orders of a number's bytes.
use Rattle.std.specs.Prelude.{◌≡◌, ℕ, zero, suc, ◌*◌, ◌/◌, ◌^◌, ◌<◌, List}
use Rattle.std.proofs.Common.{refl, arith, pow-suc, ap, ◌∙◌}
use Rattle.std.proofs.lemmas.List.{reverse-reverse}
use Rattle.fields.specs.Words.{part, le_value, le_bytes, be_value, be_bytes, word, big_word}

pub word_is : (width at : ℕ) (bs : List ℕ) → word width at bs ≡ le_value (part width at bs)
unfolding word
word_is width at bs = refl

pub big_word_is : (width at : ℕ) (bs : List ℕ) → big_word width at bs ≡ be_value (part width at bs)
unfolding big_word
big_word_is width at bs = refl

-- A number's bytes stand for the number.
pub le_back : (w v : ℕ) → v < 256 ^ w → le_value (le_bytes w v) ≡ v
le_back zero v h = omega arith
le_back (suc w) v h =
    let small : v < 256 ^ w * 256 = rw pow-suc at h in
    omega (arith, le_back w (v / 256) (omega arith))

pub be_back : (w v : ℕ) → v < 256 ^ w → be_value (be_bytes w v) ≡ v
be_back w v h = ap le_value (reverse-reverse (le_bytes w v)) ∙ le_back w v h
