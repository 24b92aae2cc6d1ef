use Rattle.std.proofs.Common.{vec_items}
use Rattle.text.proofs.Pairing.{pairs_none, pairs_all}
use Rattle.text.proofs.hex.write_pairs.Goals as goal

pub returns-in_default : goal.returns-in_default
returns-in_default c = pairs_none c.args.separator (vec_items c.args.out.now) c.args.bytes.now c.in_default.ensures.cases

pub returns : goal.returns
returns c =
    pairs_all c.args.separator c.loop-byte.byte-index c.in-Some.first.now _ _ _ c.in-Some.rest.now c.args.bytes.now c.loop-byte-test.false c.in-Some.ensures.cases.0 c.in_ok-write_pair.ensures c.loop-byte.invariant
