use Rattle.std.proofs.Common.{◌<◌, [], ◌∷◌, length, sym, subst, arith}
use Rattle.pv_steps.specs.declared.step.Reason.{Reason}
use Rattle.pv_steps.specs.declared.step.Reason.TheVariants.{Same}
use Rattle.pv_steps.specs.Right.{Gives}
use Rattle.pv_writer.specs.Written.{inside}
use Rattle.pv_explain.proofs.Pairing.{given_at}
use Rattle.pv_explain.proofs.conclude.explain.Goals as goal

pub explain_all-requires-clause-linked : goal.explain_all-requires-clause-linked
explain_all-requires-clause-linked c =
    let same = c.requires.base in
    let a = c.requires.first in
    let b = c.requires.second in
    (record { first = omega (arith, same, a); second = omega (arith, same, b); linked = c.requires.linked }, tt)

pub index-requires : goal.index-requires
index-requires c =
    let low : 0 < length c.in_ok-reasons.reasons.items = (given_at c.explain_all.new.writer c.in_ok-reasons.reasons.items ((c.args.a, c.args.b) ∷ []) 0 Same (0, 0) c.in_ok-reasons.ensures.reasons (omega arith)).0 in
    omega (arith, low, c.in_ok-reasons.reasons.ok.0)

pub returns-clause-reason : goal.returns-clause-reason
returns-clause-reason c =
    let w = c.explain_all.new.writer in
    subst (λ (r : Reason). Gives w.before (inside w) [] r c.args.a c.args.b) (sym c.index.ensures)
    (given_at w c.in_ok-reasons.reasons.items ((c.args.a, c.args.b) ∷ []) 0 c.index.result.now (0, 0) c.in_ok-reasons.ensures.reasons (omega arith)).1
