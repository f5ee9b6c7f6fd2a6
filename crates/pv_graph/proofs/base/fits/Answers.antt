use Rattle.std.proofs.Common.{◌≡◌, ℕ, List, sym, ap, ◌∙◌, subst}
use Rattle.pv_graph.specs.Ops.{sort_over, HaveSorts}
use Rattle.pv_graph.proofs.Basing.{own_test, has_sort}
use Rattle.pv_graph.proofs.base.fits.Goals as goal

pub returns : goal.returns
returns c =
    let have : HaveSorts c.args.sorts.now.items c.args.node.now.kids c.in_ok-kids.kids.items = subst (λ (ks : List ℕ). HaveSorts c.args.sorts.now.items ks c.in_ok-kids.kids.items) c.as_slice.ensures c.in_ok-kids.ensures in
    let gives : c.in_ok-found.found ≡ sort_over c.args.node.now.op c.in_ok-kids.kids.items = c.in_ok-found.ensures ∙ ap (sort_over c.args.node.now.op) c.deref.ensures.value in
    let has = has_sort c.args.sorts.now.items c.args.node.now.op c.args.node.now.kids c.in_ok-kids.kids.items c.args.sort have in
    let test = own_test c.in_ok-found.found c.args.sort c.eq.result c.eq.ensures in
    ((λ y. has.0 (sym gives ∙ test.0 y)), (λ h. test.1 (gives ∙ has.1 h)))
