use Rattle.std.proofs.Common.{◌≡◌, ◌<◌, List, Some, length, subst, sym, arith}
use Rattle.std.specs.Prelude.{slice_get}
use Rattle.pv_class.specs.declared.file.Method.{Method}
use Rattle.pv_pieces.specs.Cut.{between}
use Rattle.pv_pieces.proofs.Cited.{between_next, between_none}
use Rattle.pv_report.specs.Pieces.{AreJudged}
use Rattle.pv_report.proofs.Places.{here_again}
use Rattle.pv_report.proofs.Pieces.{IsJudged, judged_next, judged_none}
use Rattle.pv_report.proofs.pairs.judge_from.Goals as goal

pub loop-place-init : goal.loop-place-init
loop-place-init g c =
    let none = judged_none c.args.means c.args.pair.now c.new-judgements.result c.new-judgements.ensures.verdicts c.new-judgements.ensures.sections in (
      subst (λ (l : List Method). AreJudged c.args.means c.args.pair.now l c.new-judgements.result) (sym (between_none c.args.pair.now.first.methods c.args.from)) none,
      omega arith,
      c.new-table.ensures c.args.means.limits.axioms,
    )

pub loop-place-preserved : goal.loop-place-preserved
loop-place-preserved g c =
    let methods = c.args.pair.now.first.methods in
    let k = c.loop-place.place in
    let x = c.index-methods-place.result in
    let found = c.in_ok-found.found in
    let lt : k < length methods = omega (arith, c.loop-place-test.true, c.requires.within) in
    let at : slice_get methods k ≡ Some x = here_again methods k x lt (rw c.as_slice-methods.ensures at c.index-methods-place.is) in
    let this : IsJudged c.args.means c.args.pair.now x found = record {
      verdict = c.in_ok-found.ensures.verdict x at;
      steps = c.in_ok-found.ensures.steps x at;
      fits = c.push.ensures.title;
    } in (
      subst (λ (l : List Method). AreJudged c.args.means c.args.pair.now l c.push.new.self) (sym (between_next methods c.args.from k x c.loop-place.invariant.1 at))
          (judged_next c.args.means c.args.pair.now (between methods c.args.from k) x c.loop-place.judgements c.push.new.self found c.loop-place.invariant.0 this c.in_ok-push.ensures.verdicts c.in_ok-push.ensures.sections),
      omega (arith, c.loop-place.invariant.1),
      c.in_ok-found.ensures.table,
    )
