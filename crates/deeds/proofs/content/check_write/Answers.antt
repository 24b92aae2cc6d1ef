use Rattle.std.proofs.Common.{ap, ◌∙◌, arith}
use Rattle.model.specs.Requests.{ruled}
use Rattle.model.specs.Tariffs.{is_right}
use Rattle.deeds.proofs.Contents.{left_by_write}
use Rattle.deeds.proofs.content.check_write.Goals as goal

pub returns : goal.returns
returns g c =
    let table = c.args.table in
    c.check_right.ensures
    ∙ ap (λ bytes. ruled (is_right table bytes)) (left_by_write table c.args.from _ _ c.args.content.now _ _ (g.M.BlockMemory.blocks c.args.memory.memory.now) c.staged_length.ensures c.current_block.ensures c.load.ensures.content c.put_bytes.ensures.patched c.requires.inside (omega arith))
