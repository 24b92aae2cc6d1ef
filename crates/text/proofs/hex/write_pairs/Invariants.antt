use Rattle.std.proofs.Common.{◌≡◌, ◌++◌, take, vec_items}
use Rattle.text.proofs.Pairing.{behind}
use Rattle.text.proofs.hex.write_pairs.Given as goal

abbrev pub invariant-loop-byte : goal.invariant-loop-byte
invariant-loop-byte l = vec_items l.out ≡ vec_items l.initial.out ++ behind l.separator (take l.byte-index l.rest)
