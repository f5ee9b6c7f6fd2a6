use Rattle.std.proofs.Common.{ℕ, List, subst, arith}
use Rattle.pv_counted.specs.Rounds.{IsRound}
use Rattle.pv_counted.proofs.Finding.{found_all, found_more}
use Rattle.pv_counted.proofs.rounds.rounds.Goals as goal

pub returns-then-len-clause-all : goal.returns-then-len-clause-all
returns-then-len-clause-all c =
    let next = c.in_ok-next.next in
    let round : IsRound c.args.g.now.nodes c.loop-found.found.items next.items = subst (λ (xs : List ℕ). IsRound c.args.g.now.nodes xs next.items) c.deref.ensures.value c.in_ok-next.ensures.next in
    found_all c.args.g.now.nodes c.loop-found.found.items next.items c.loop-found.invariant round
    (omega (arith, next.ok.0, c.loop-found.found.ok.0, c.if-len.true, c.len.ensures, c.len-in-loop-found.ensures))

pub loop-found-preserved : goal.loop-found-preserved
loop-found-preserved c =
    let next = c.in_ok-next.next in
    let round : IsRound c.args.g.now.nodes c.loop-found.found.items next.items = subst (λ (xs : List ℕ). IsRound c.args.g.now.nodes xs next.items) c.deref.ensures.value c.in_ok-next.ensures.next in
    found_more c.args.g.now.nodes c.loop-found.found.items next.items c.loop-found.invariant round
