use Rattle.std.proofs.Common.{◌∙◌}
use Rattle.cases_search.proofs.methods.add_root.Goals as goal

pub returns-in-Ok-clause-made : goal.returns-in-Ok-clause-made
returns-in-Ok-clause-made c = c.in-Ok.ensures.enlarges.made c.requires.made

pub returns-in-Ok-clause-open : goal.returns-in-Ok-clause-open
returns-in-Ok-clause-open c = c.in-Ok.ensures.enlarges.open_ ∙ c.requires.open
