use Rattle.std.proofs.Common.{sym, ◌∙◌, arith}
use Rattle.text.proofs.Reading.{digits_more, capped_more}
use Rattle.text.proofs.number.capped_value.Goals as goal

pub loop-byte-preserved : goal.loop-byte-preserved
loop-byte-preserved c =
    let more = digits_more c.args.word.now c.loop-byte.byte-index c.loop-byte-test.true (sym c.if-not-is_ascii_digit.ensures.value) in
    let next = capped_more c.args.word.now c.loop-byte.byte-index c.loop-byte-test.true c.args.limit c.loop-byte.value in
    (omega arith, sym more ∙ c.loop-byte.invariant.1, cc)
