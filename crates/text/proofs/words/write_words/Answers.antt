use Rattle.std.proofs.Common.{vec_items, refl}
use Rattle.std.proofs.lemmas.Slice.{pushed}
use Rattle.text.specs.Lines.{words_of}
use Rattle.text.proofs.Cutting.{spaced_none, spaced_all}
use Rattle.text.proofs.words.write_words.Goals as goal

pub returns-in_default : goal.returns-in_default
returns-in_default c = spaced_none (vec_items c.args.out.now) (words_of c.args.line.now) c.in_default.ensures.words

pub returns : goal.returns
returns c =
    spaced_all _ _ _ _ (words_of c.args.line.now) (words_of c.in-Some.rest.now) (words_of c.loop-word.rest.now) c.in-Some.ensures.words
    (pushed c.in-Some.first.now refl c.in_ok-extend_from_slice.was c.extend_from_slice.ensures.items)
    c.in_default-next_word.ensures.words
    c.loop-word.invariant
