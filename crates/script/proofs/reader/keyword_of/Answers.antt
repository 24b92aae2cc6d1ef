use Rattle.std.proofs.Common.{codes, arith, rules}
use Rattle.lines.proofs.Spelt.{spelt}
use Rattle.script.proofs.reader.keyword_of.Goals as goal

pub returns-in-image : goal.returns-in-image
returns-in-image c = rw (spelt c.args.word.now (codes "image") (omega arith) (search rules))

pub returns-in-poke : goal.returns-in-poke
returns-in-poke c = rw (spelt c.args.word.now (codes "poke") (omega arith) (search rules))

pub returns-in-write : goal.returns-in-write
returns-in-write c = rw (spelt c.args.word.now (codes "write") (omega arith) (search rules))

pub returns-in-unsound : goal.returns-in-unsound
returns-in-unsound c = rw (spelt c.args.word.now (codes "unsound") (omega arith) (search rules))

pub returns-in-block : goal.returns-in-block
returns-in-block c = rw (spelt c.args.word.now (codes "block") (omega arith) (search rules))

pub returns-in-digest : goal.returns-in-digest
returns-in-digest c = rw (spelt c.args.word.now (codes "digest") (omega arith) (search rules))

pub returns-in-second : goal.returns-in-second
returns-in-second c = rw (spelt c.args.word.now (codes "second") (omega arith) (search rules))

pub returns-in-moment : goal.returns-in-moment
returns-in-moment c = rw (spelt c.args.word.now (codes "moment") (omega arith) (search rules))
