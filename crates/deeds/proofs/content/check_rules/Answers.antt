use Rattle.deeds.proofs.Contents.{verdict_on_same}
use Rattle.deeds.proofs.content.check_rules.Goals as goal

pub returns-in-Stage : goal.returns-in-Stage
returns-in-Stage g c = verdict_on_same _ _ _ _ _ c.in-Stage.is c.check_staging.ensures
