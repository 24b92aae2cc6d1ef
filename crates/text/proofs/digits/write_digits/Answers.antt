use Rattle.std.proofs.Common.{◌+◌, ◌<◌, [], ◌∷◌, refl, ◌∙◌, arith}
use Rattle.std.proofs.lemmas.List.{with_items_is}
use Rattle.std.proofs.lemmas.Slice.{pushed}
use Rattle.text.proofs.Spelling.{written_more, written_all}
use Rattle.text.proofs.digits.write_digits.Goals as goal
use Rattle.text.proofs.digits.write_digits.Goals.{then-rest-gt0, else-rest-gt0+then-missing-gt0}

some : (c : goal.After-saturating_sub-missing) → 0 < c.loop-rest.rest + c.loop-rest.missing
some c = elim c.if-rest-gt0.branch [ then-rest-gt0 w ↦ omega arith | else-rest-gt0+then-missing-gt0 w ↦ omega arith ]

pub loop-rest-preserved : goal.loop-rest-preserved
loop-rest-preserved c =
    let digit = rw c.from.ensures at c.lower_digit.ensures in
    let more = rw digit at (pushed (c.lower_digit.result ∷ []) refl c.in_ok-push.was c.push.ensures.items) in
    rw (c.saturating_sub-missing.ensures, c.from-rest.ensures) (written_more c.requires.0 (some c) more c.loop-rest.invariant)

pub returns : goal.returns
returns c =
    let turned = rw c.as_mut_slice.ensures.value at c.reverse_from.ensures in
    with_items_is c.loop-rest.out c.reverse_from.new.items (omega (arith, c.as_mut_slice.ensures.len)) ∙ turned ∙ written_all c.len-start.result (omega (arith, c.args.out.now.ok.0)) (omega arith) (omega arith) c.loop-rest.invariant
