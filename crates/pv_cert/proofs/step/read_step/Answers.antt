use Rattle.std.proofs.Common.{◌≡◌, Option}
use Rattle.pv_steps.specs.declared.step.Step.{Step}
use Rattle.pv_cert.specs.StepLines.{row_words, step_sentence}
use Rattle.std.proofs.lemmas.Result.{IfOk-weaker}
use Rattle.pv_format.specs.Seen.{texts}
use Rattle.pv_cert.proofs.ReadSteps.{step_taken, step_missing}
use Rattle.pv_cert.proofs.step.read_step.Goals as goal

pub returns-in-None : goal.returns-in-None
returns-in-None c = step_missing (texts c.args.words.now) c.in-None.ensures

pub returns-in-Some : goal.returns-in-Some
returns-in-Some c =
    IfOk-weaker c.read_row.result (λ (r : Option Step). r ≡ row_words c.in-Some.row (texts c.in-Some.rest.now)) (λ (r : Option Step). r ≡ step_sentence.reads (texts c.args.words.now))
    (λ r is. step_taken (texts c.args.words.now) (texts c.in-Some.rest.now) c.in-Some.row r c.in-Some.ensures is) c.read_row.ensures
