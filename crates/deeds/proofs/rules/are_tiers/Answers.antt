use Rattle.std.proofs.Common.{◌∙◌, rules, tests}
use Rattle.std.proofs.lemmas.Iterator.{YieldsList-from_slice}
use Rattle.std.proofs.lemmas.Iterator.Search.{all_from_yields_List}
use Rattle.model.specs.Tariffs.{is_tier}
use Rattle.deeds.proofs.Contents.{all_are_tiers}
use Rattle.deeds.proofs.rules.are_tiers.Goals as goal

pub returns : goal.returns
returns c =
    all_from_yields_List is_tier _ _ _ c.all.ensures.ran (YieldsList-from_slice c.args.bytes.now cc) (λ x b q k. search (rules, tests))
    ∙ all_are_tiers c.args.bytes.now
