use Rattle.std.proofs.lemmas.Result.{on_ok_weaker}
use Rattle.cases_search.proofs.Known.{gone_on}
use Rattle.cases_search.proofs.searching.go_on.Goals as goal

pub returns-in-Open : goal.returns-in-Open
returns-in-Open c = on_ok_weaker c.grow.result (gone_on c.args.search.now c.grow.new.self c.requires.begun) c.grow.ensures.goes
