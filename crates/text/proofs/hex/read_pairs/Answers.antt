use Rattle.std.proofs.Common.{ltb, get_or, vec_items, sym, ◌∙◌}
use Rattle.std.specs.Char.{digit_value}
use Rattle.std.proofs.lemmas.List.{at_drop_all}
use Rattle.text.proofs.Pairing.{read_on, read_on_all, read_other, no_digit}
use Rattle.text.proofs.hex.read_pairs.Goals as goal

pub returns-in_default : goal.returns-in_default
returns-in_default c =
    let value = digit_value (get_or c.args.line.now c.loop-byte.byte-index 0) in
    sym (read_on_all c.args.line.now) ∙ sym c.loop-byte.invariant.1 ∙ read_other (vec_items c.loop-byte.read) c.loop-byte.high c.args.line.now c.loop-byte.byte-index c.loop-byte-test.true (sym c.if-is_blank.ensures) (no_digit (ltb value 16) value c.in_default.ensures)

pub returns : goal.returns
returns c =
    sym (read_on_all c.args.line.now) ∙ sym c.loop-byte.invariant.1 ∙ at_drop_all (read_on (vec_items c.loop-byte.read) c.loop-byte.high) c.args.line.now c.loop-byte.byte-index c.loop-byte-test.false
