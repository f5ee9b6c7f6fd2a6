use Rattle.std.proofs.Common.{codes}
use Rattle.pv_format.specs.Seen.{texts}
use Rattle.pv_cert.specs.Lines.{two_nodes}
use Rattle.pv_cert.proofs.ReadSteps.{begun_taken, begun_missing}
use Rattle.pv_cert.proofs.line.read_prove_words.Goals as goal

pub returns-in-None : goal.returns-in-None
returns-in-None c = begun_missing two_nodes.reads (codes "prove") (texts c.args.words.now) c.in-None.ensures

pub returns-in-Some : goal.returns-in-Some
returns-in-Some c = begun_taken two_nodes.reads (codes "prove") (texts c.args.words.now) (texts c.in-Some.rest.now) c.read_two_nodes.result c.in-Some.ensures c.read_two_nodes.ensures
