use Rattle.std.proofs.Common.{codes}
use Rattle.std.proofs.lemmas.Result.{IfOk-weaker}
use Rattle.pv_format.specs.Seen.{texts}
use Rattle.pv_cert.specs.Lines.{variables}
use Rattle.pv_cert.proofs.ReadSteps.{begun_taken, begun_missing}
use Rattle.pv_cert.proofs.line.read_lemma_words.Goals as goal

pub returns-in-None : goal.returns-in-None
returns-in-None c = begun_missing variables.reads (codes "lemma") (texts c.args.words.now) c.in-None.ensures

pub returns-in-Some : goal.returns-in-Some
returns-in-Some c =
    IfOk-weaker c.read_variables.result _ _ (λ r is. begun_taken variables.reads (codes "lemma") (texts c.args.words.now) (texts c.in-Some.rest.now) r c.in-Some.ensures is) c.read_variables.ensures
