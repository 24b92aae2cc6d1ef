use Rattle.std.proofs.Common.{◌≡◌, ◌+◌, ◌*◌, ◌≤◌, get_or, drop, ap, mul-le-mul, arith}
use Rattle.std.proofs.lemmas.List.{at_drop_more, at_drop_all}
use Rattle.memory.specs.Checksum.{weighted}
use Rattle.memory.proofs.checksum.weighted_sum.Goals as goal

-- one byte adds at most 510 * 255
small : (c : goal.After-from) → (c.loop-i.i + 1) * c.from.result ≤ 510 * 255
small c = mul-le-mul {n₂ = 510} {m₂ = 255} (omega arith) (omega arith)

pub overflow_add-sum-in-loop-i : goal.overflow_add-sum-in-loop-i
overflow_add-sum-in-loop-i c = omega (arith, small c)

pub loop-i-preserved : goal.loop-i-preserved
loop-i-preserved c =
    let i = c.loop-i.i in
    let bytes = c.args.content.now in
    let step : weighted i (drop i bytes) ≡ (i + 1) * get_or bytes i 0 + weighted (i + 1) (drop (i + 1) bytes) = at_drop_more (weighted i) bytes i 0 (omega arith) in
    let same : (i + 1) * c.from.result ≡ (i + 1) * get_or bytes i 0 = ap (λ b. (i + 1) * b) c.from.ensures in
    (omega (arith, small c), omega (arith, step, same))

pub returns : goal.returns
returns c =
    let done : weighted c.loop-i.i (drop c.loop-i.i c.args.content.now) ≡ 0 = at_drop_all (weighted c.loop-i.i) c.args.content.now c.loop-i.i (omega arith) in
    record { sum = omega (arith, done); bound = omega arith }
