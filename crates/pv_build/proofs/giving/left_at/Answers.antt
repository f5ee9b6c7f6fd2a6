use Rattle.std.proofs.Common.{◌<◌, length, refl, sym, ◌∙◌, subst}
use Rattle.pv_build.proofs.Words.{slice_get_read, Ran}
use Rattle.pv_build.proofs.Runs.{same_run}
use Rattle.pv_build.proofs.giving.left_at.Goals as goal

pub returns : goal.returns
returns c =
    let ran : Ran = c.ran_of.result.now in
    let low : c.args.e < length ran.exits.items = subst (λ (r : Ran). c.args.e < length r.exits.items) (same_run c.requires.0 ran (sym c.requires.1 ∙ c.ran_of.ensures)) c.requires.2 in
    (ran, c.ran_of.ensures, slice_get_read ran.exits.items (length ran.exits.items) c.args.e c.index.result.now refl low c.index.ensures)
