use Rattle.std.proofs.Common.{rules, ◌≡◌, ◌<◌, ℕ, length, subst, sym, ap, ◌∙◌, arith}
use Rattle.pv_pieces.specs.Cut.{start_of}
use Rattle.pv_pieces.proofs.Cited.{start_first, start_last}
use Rattle.pv_check.specs.Checking.{ArePieces, claimed}
use Rattle.pv_check.proofs.Pieces.{judged_all}
use Rattle.pv_check.proofs.checker.Checker.judge.Goals as goal

pub returns : goal.returns
returns g c =
    let R = g.R.Rules.instances c.args.self.now.rules.now in
    let claim = claimed c.args.self.now.graph.now c.args.self.now.first c.args.self.now.second in
    let steps = c.args.self.now.steps.now in
    let n = length steps in
    let w = c.max-count.result in
    let at : ℕ → ℕ = λ k. start_of n w k in
    let some : 0 < w = search rules in
    let count : length c.in_ok-parts.parts.items ≡ w = search rules in
    let are : ArePieces R claim steps at c.in_ok-parts.parts.items = record {
      some = omega (arith, some, count);
      first = start_first n w;
      last = ap at count ∙ start_last n w some;
      each = λ k d low. (c.in_ok-parts.ensures.each k d (omega (arith, low, count))).1.met;
    } in
    judged_all R claim steps at c.as_slice.result.now (subst (λ parts. ArePieces R claim steps at parts) (sym c.as_slice.ensures.value) are) c.put_together.result c.put_together.ensures
