use Rattle.pv_terms.proofs.Words.{IsFlat}
use Rattle.pv_terms.proofs.Growing.{fit_nodes, grows_added, flat_no_theta, sort_added}
use Rattle.pv_terms.proofs.Made.{reads_added}
use Rattle.pv_terms.proofs.terms.over.Goals as goal

pub add-requires-clause-kids : goal.add-requires-clause-kids
add-requires-clause-kids c = fit_nodes c.args.g.now c.requires.graph c.args.kids.now c.requires.fits.1.sorts c.requires.fits.1.kids_have

pub returns-in-Ok-clause-reads : goal.returns-in-Ok-clause-reads
returns-in-Ok-clause-reads c = reads_added c.args.g.now c.add.new.self c.args.op c.args.kids.now c.in-Ok.n c.requires.graph (flat_no_theta c.args.op c.requires.flat) c.in-Ok.ensures.ok

pub returns-in-Ok-clause-sort : goal.returns-in-Ok-clause-sort
returns-in-Ok-clause-sort c = sort_added c.args.g.now c.add.new.self c.args.op c.args.kids.now c.in-Ok.n c.requires.graph (flat_no_theta c.args.op c.requires.flat) c.in-Ok.ensures.ok

pub returns-in-Ok-clause-grows : goal.returns-in-Ok-clause-grows
returns-in-Ok-clause-grows c = grows_added IsFlat c.args.g.now c.add.new.self c.args.op c.args.kids.now c.in-Ok.n c.requires.graph (flat_no_theta c.args.op c.requires.flat) c.requires.flat c.in-Ok.ensures.ok
