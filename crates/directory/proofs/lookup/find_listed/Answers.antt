use Rattle.std.proofs.Common.{◌∙◌, rules, tests}
use Rattle.std.specs.Prelude.{◌==◌}
use Rattle.std.proofs.lemmas.Iterator.{YieldsList-from_slice}
use Rattle.std.proofs.lemmas.Iterator.Search.{find_from_yields_List}
use Rattle.directory.specs.declared.entry.TableEntry.{TableEntry}
use Rattle.directory.specs.Tables.{directory, listed}
use Rattle.directory.proofs.lookup.find_listed.Goals as goal

pub returns-clause-entry : goal.returns-clause-entry
unfolding listed
returns-clause-entry c =
    c.copied.ensures
    ∙ find_from_yields_List (λ (t : TableEntry). t.number == c.args.number) _ _ _ c.find.ensures.ran (YieldsList-from_slice directory (c.iter.ensures.rest ∙ c.tables.ensures.value)) (λ x b q k. search (rules, tests))
