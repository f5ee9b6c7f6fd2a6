use Rattle.pv_grounds.proofs.Cited.{classes_same}
use Rattle.pv_prove.proofs.Finding.{is_verdict, no_other}
use Rattle.pv_prove.proofs.Meaning.{met_same}
use Rattle.pv_prove.proofs.found.find.Goals as goal

pub returns-clause-verdict : goal.returns-clause-verdict
returns-clause-verdict g c = is_verdict c.args.least.now c.args.limits c.hunt.new.searches c.in_ok-outcome.outcome c.requires.least c.requires.first c.requires.second c.in_ok-outcome.ensures

pub returns-clause-only : goal.returns-clause-only
returns-clause-only g c = no_other c.args.least.now c.args.limits c.hunt.new.searches c.in_ok-outcome.outcome c.requires.least c.requires.first c.requires.second c.in_ok-outcome.ensures

pub returns-clause-same : goal.returns-clause-same
returns-clause-same g c = met_same classes_same c.args.least.now c.args.limits c.hunt.new.searches c.in_ok-outcome.outcome c.requires.first c.requires.second c.in_ok-outcome.ensures.shown
