use Rattle.std.proofs.Common.{◌+◌, vec_items}
use Rattle.text.proofs.Spelling.{Written}
use Rattle.text.proofs.digits.write_digits.Given as goal

abbrev pub invariant-loop-rest : goal.invariant-loop-rest
invariant-loop-rest l = Written (vec_items l.initial.out) (vec_items l.out) l.base l.width l.number l.missing l.rest

abbrev pub decreases-loop-rest : goal.decreases-loop-rest
decreases-loop-rest l = l.rest + l.missing
