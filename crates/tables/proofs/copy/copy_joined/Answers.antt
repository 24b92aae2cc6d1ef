use Rattle.tables.proofs.Joins.{joined_copied}
use Rattle.tables.proofs.copy.copy_joined.Goals as goal

pub returns : goal.returns
returns c =
    joined_copied c.args.front.now c.args.back.now c.args.out.now c.copy_part.new.out c.copy_part-2.new.out c.args.from c.min-start.result c.min-count.result
    c.min-start.ensures c.min-count.ensures c.requires c.copy_part.ensures c.copy_part-2.ensures
