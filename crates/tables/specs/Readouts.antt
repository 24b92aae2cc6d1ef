-- What a meter's tables are read out of.
use Rattle.std.specs.Prelude.{ℕ, List, Option}
use Rattle.memory.specs.Blocks.{Block}
use Rattle.directory.specs.declared.entry.Source.{Source}
use Rattle.head.specs.declared.head.Head.{Head}
use Rattle.model.specs.States.{Response}
use Rattle.model.specs.Tables.{table_bytes}

-- The clock, the last response, what block 0 says, and the blocks.
pub record State : Type 0 where
  pub clock : ℕ
  pub response : Option Response
  pub head : Head
  pub blocks : List Block

-- The bytes of a table.
abbrev pub shown : Source → State → List ℕ
shown source s = table_bytes source s.clock s.response s.head s.blocks
