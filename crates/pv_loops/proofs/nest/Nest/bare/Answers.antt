use Rattle.std.proofs.Common.{◌≡◌, ℕ, List, length, get_or, ◌∙◌, ap, subst, arith, replicate, None, Option}
use Rattle.pv_loops.proofs.Words.{get_or-replicate, length-replicate, MAX_DEPTH}
use Rattle.pv_loops.proofs.Filling.{Baring, bare_nested}
use Rattle.pv_loops.proofs.nest.Nest.bare.Goals as goal

pub returns : goal.returns
returns c =
    let home : c.in_ok-home.home.items ≡ replicate c.args.count None = c.in_ok-home.ensures in
    λ sources place size.
    bare_nested sources place c.args.headers.now MAX_DEPTH c.args.count _ size (ap (λ (l : List (Option ℕ)). length l) home ∙ length-replicate c.args.count None)
    (λ x lt. ap (λ (l : List (Option ℕ)). get_or l x None) home ∙ get_or-replicate c.args.count x None None lt)
    (subst (λ n. Baring c.args.headers.now c.loop-h.loops.items n) (let a = c.loop-h-test.false in omega arith) c.loop-h.invariant)
