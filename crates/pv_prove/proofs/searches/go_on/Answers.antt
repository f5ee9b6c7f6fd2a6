use Rattle.pv_prove.proofs.Growing.{grows, still}
use Rattle.pv_prove.proofs.searches.go_on.Goals as goal

pub returns-in-Open : goal.returns-in-Open
returns-in-Open c = grows c.grow.result c.args.search.now c.grow.new.self c.requires.begun c.grow.ensures.goes c.grow.ensures.made

pub returns-in_default : goal.returns-in_default
returns-in_default c = record { goes = still c.args.search.now c.args.looked.now c.requires.looked c.requires.few c.in_default.not-Open; grounds = λ before. before }
