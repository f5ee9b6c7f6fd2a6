use Rattle.std.proofs.Common.{◌<◌, length, refl, sym, ◌∙◌, subst}
use Rattle.pv_build.proofs.Words.{slice_get_read, Ran}
use Rattle.pv_build.proofs.Runs.{same_run}
use Rattle.pv_build.proofs.giving.tested_at.Goals as goal

pub returns : goal.returns
returns c =
    let ran : Ran = c.ran_of.result.now in
    let low : c.args.t < length ran.tests.items = subst (λ (r : Ran). c.args.t < length r.tests.items) (same_run c.requires.0 ran (sym c.requires.1 ∙ c.ran_of.ensures)) c.requires.2 in
    (ran, c.ran_of.ensures, slice_get_read ran.tests.items (length ran.tests.items) c.args.t c.index.result.now refl low c.index.ensures)
