use Rattle.std.proofs.Common.{◌≡◌, get_or, arith, rules}
use Rattle.std.proofs.lemmas.Iterator.{first_from_Range, serves_from_Range}
use Rattle.memory.specs.Blocks.{sound, corrupt}
use Rattle.memory.specs.Images.{checked_blocks, content_at}
use Rattle.memory.specs.ImageLaws.{checked_count}
use Rattle.memory.proofs.CorruptSearch.{lowest_is}
use Rattle.memory.proofs.checked.first_corrupt.Goals as goal

pub find-requires-clause-callable : goal.find-requires-clause-callable
find-requires-clause-callable c = serves_from_Range (λ x q k. search rules) (λ x lo hi. omega (arith, checked_count c.args.bytes.now))

pub returns : goal.returns
returns c =
    let bytes = c.args.bytes.now in
    let bs = checked_blocks bytes in
    lowest_is bs (content_at bytes) c.args.below c.min-end.result (omega (arith, checked_count bytes)) c.find.result
    (first_from_Range _ _ _ c.find.result (λ i. get_or bs i corrupt ≡ corrupt) (λ i. get_or bs i corrupt ≡ sound (content_at bytes i)) c.find.ensures.ran
    (λ x q k. search rules)
    (λ x q k. search rules))
