use Rattle.std.proofs.Common.{ℕ, List, get_or, subst}
use Rattle.pv_decide.proofs.Words.{slice_get-get_or, Decides-eqb, contains_decides, Decides-contains, Contains, Decides}
use Rattle.std.proofs.Math.Dec.{eqb}
use Rattle.pv_decide.proofs.Chains.{around_loop}
use Rattle.pv_decide.proofs.site.is_around.Goals as goal

pub returns : goal.returns
returns c =
    let d : Decides c.contains.result (Contains c.deref.result.now c.args.h) = Decides-contains c.deref.result.now c.args.h c.contains.result (contains_decides eqb Decides-eqb c.deref.result.now c.args.h c.contains.result c.contains.ensures.cases) in
    around_loop c.args.sites.now c.args.b c.args.h c.contains.result (get_or c.args.sites.now c.args.b c.index-sites-b.result)
    (slice_get-get_or c.args.sites.now c.args.b c.index-sites-b.result c.requires)
    (subst (λ (xs : List ℕ). Decides c.contains.result (Contains xs c.args.h)) c.deref.ensures.value d)
