use Rattle.std.proofs.Common.{rules}
use Rattle.calendar.proofs.Count.{names}
use Rattle.calendar.proofs.Whole.{named}
use Rattle.calendar.proofs.date_time.Goals as goal

pub returns : goal.returns
returns c = let n = names (search rules) (search rules) in record { names = n; equation = named _ _ c.requires n }
