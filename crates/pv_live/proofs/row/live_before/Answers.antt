use Rattle.std.proofs.Common.{Bool, ◌<◌, length, sym, ◌∙◌, subst, arith}
use Rattle.std.specs.Bool.{Decides}
use Rattle.pv_live.specs.Marks.{IsLiveIf}
use Rattle.pv_live.proofs.Rows.{was_marked, is_live, read_mark, before_more, before_all}
use Rattle.pv_live.proofs.row.live_before.Goals as goal
use Rattle.pv_live.proofs.row.live_before.Goals.{then-before-local, else-before-local}

pub loop-local-preserved : goal.loop-local-preserved
loop-local-preserved c =
    let a = c.args.action.now in
    let before = c.args.before.now in
    let after = c.args.after.items in
    let n = c.loop-local.local in
    let less : n < length after = omega (arith, c.loop-local-test.true, c.requires) in
    before_more a before after c.loop-local.row.items n c.if-before-local.value c.loop-local-test.true
    (elim c.if-before-local.branch [
      | then-before-local w ↦ was_marked a before after n c.if-before-local.value c.loop-local-test.true w.if-before-local.true (w.value-is ∙ w.if-before-local.true)
      | else-before-local w ↦ is_live a before after n c.if-before-local.value less w.if-before-local.false
          (subst (λ (b : Bool). Decides b (IsLiveIf a n _)) (sym w.value-is) (subst (λ (m : Bool). Decides w.is_live_before.result (IsLiveIf a n m)) (sym (read_mark c.loop-local.row.items n w.index.result.now (omega (arith, c.loop-local-test.true, c.loop-local.invariant.long)) w.index.ensures) ∙ c.loop-local.invariant.rest n (omega arith)) w.is_live_before.ensures))
    ])
    c.loop-local.invariant

pub returns : goal.returns
returns c = before_all c.args.action.now c.args.before.now c.args.after.items c.loop-local.row.items c.loop-local.local c.loop-local-test.false c.loop-local.invariant
