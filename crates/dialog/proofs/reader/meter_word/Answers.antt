use Rattle.std.proofs.Common.{codes, arith, rules}
use Rattle.lines.proofs.Spelt.{spelt}
use Rattle.dialog.proofs.reader.meter_word.Goals as goal

pub returns-in-format : goal.returns-in-format
returns-in-format c = rw (spelt c.args.word.now (codes "format") (omega arith) (search rules))

pub returns-in-start : goal.returns-in-start
returns-in-start c = rw (spelt c.args.word.now (codes "start") (omega arith) (search rules))

pub returns-in-serve : goal.returns-in-serve
returns-in-serve c = rw (spelt c.args.word.now (codes "serve") (omega arith) (search rules))

pub returns-in-115 : goal.returns-in-115
returns-in-115 c = rw (spelt c.args.word.now (codes "serve-in") (omega arith) (search rules))

pub returns-in-tick : goal.returns-in-tick
returns-in-tick c = rw (spelt c.args.word.now (codes "tick") (omega arith) (search rules))

pub returns-in-ticks : goal.returns-in-ticks
returns-in-ticks c = rw (spelt c.args.word.now (codes "ticks") (omega arith) (search rules))

pub returns-in-energy : goal.returns-in-energy
returns-in-energy c = rw (spelt c.args.word.now (codes "energy") (omega arith) (search rules))

pub returns-in-stop : goal.returns-in-stop
returns-in-stop c = rw (spelt c.args.word.now (codes "stop") (omega arith) (search rules))

pub returns-in-clock : goal.returns-in-clock
returns-in-clock c = rw (spelt c.args.word.now (codes "clock") (omega arith) (search rules))
