use Rattle.std.proofs.Common.{◌≡◌, [], drop, None, vec_items}
use Rattle.text.specs.Pairs.{Value}
use Rattle.text.proofs.Pairing.{read_on}
use Rattle.text.proofs.hex.read_pairs.Given as goal

abbrev pub invariant-loop-byte : goal.invariant-loop-byte
invariant-loop-byte l = Value l.high × (read_on (vec_items l.read) l.high (drop l.byte-index l.line) ≡ read_on [] None l.line)
