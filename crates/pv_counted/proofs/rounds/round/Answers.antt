use Rattle.std.proofs.Common.{Bool, List, sym, subst, arith}
use Rattle.std.proofs.lemmas.Result.{IfOk-weaker}
use Rattle.pv_graph.specs.Calls.{AreSettledMarks}
use Rattle.pv_counted.specs.Rounds.{is_ready}
use Rattle.pv_counted.proofs.Finding.{is_round, round_few}
use Rattle.pv_counted.proofs.rounds.round.Goals as goal

pub returns-clause-next : goal.returns-clause-next
returns-clause-next c =
    let marks : AreSettledMarks c.args.g.now c.args.found.now c.deref.result.now = subst (λ (ms : List Bool). AreSettledMarks c.args.g.now c.args.found.now ms) (sym c.deref.ensures.value) c.in_ok-settled.ensures in
    IfOk-weaker c.ready.result _ _ (λ next e. is_round c.args.g.now c.args.found.now c.args.loops.now c.deref.result.now c.requires marks next.items e) c.ready.ensures

pub returns-clause-few : goal.returns-clause-few
returns-clause-few c = IfOk-weaker c.ready.result _ _ (λ next e. omega (arith, next.ok.0, round_few (is_ready c.deref.result.now) c.args.loops.now next.items e)) c.ready.ensures
