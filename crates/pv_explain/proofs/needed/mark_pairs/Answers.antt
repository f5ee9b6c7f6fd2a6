use Rattle.std.proofs.Common.{◌≡◌, ℕ, length, arith, subst}
use Rattle.pv_explain.specs.Needed.{LinkedByMarked, LinkedPairsByMarked}
use Rattle.pv_explain.proofs.Marking.{all_of}
use Rattle.pv_explain.proofs.needed.mark_pairs.Goals as goal

pub returns-clause-linked : goal.returns-clause-linked
returns-clause-linked c =
    let f = c.args.forest.now in
    let needed = c.loop-pair.needed.items in
    let all : c.len-joins.result ≡ length c.args.needed.now.items = omega arith in
    subst (λ (n : ℕ). LinkedPairsByMarked f needed n c.args.pairs.now) all (all_of (λ (p : ℕ × ℕ). LinkedByMarked f needed c.len-joins.result p.0 p.1) c.args.pairs.now (0, 0) (λ k low. c.loop-pair.invariant.linked k (omega arith)))
