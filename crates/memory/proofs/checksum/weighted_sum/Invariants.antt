use Rattle.std.proofs.Common.{◌≡◌, ◌+◌, ◌*◌, ◌≤◌, drop}
use Rattle.memory.specs.Checksum.{weighted}
use Rattle.memory.proofs.checksum.weighted_sum.Given as goal

abbrev pub invariant-loop-i : goal.invariant-loop-i
invariant-loop-i l = (l.sum ≤ 130050 * l.i) × (l.sum + weighted l.i (drop l.i l.content) ≡ weighted 0 l.content)
