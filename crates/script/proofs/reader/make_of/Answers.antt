use Rattle.std.proofs.Common.{codes, arith, rules}
use Rattle.lines.proofs.Spelt.{spelt}
use Rattle.script.proofs.reader.make_of.Goals as goal

pub returns-in-checked : goal.returns-in-checked
returns-in-checked c = rw (spelt c.args.word.now (codes "checked") (omega arith) (search rules))
