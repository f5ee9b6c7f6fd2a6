use Rattle.std.proofs.Common.{◌+◌, sym, subst, arith}
use Rattle.pv_counted.specs.Replaced.{AreReplaced}
use Rattle.pv_counted.proofs.ClearedLeast.{replaced_more}
use Rattle.pv_counted.proofs.clearing.all_replaced.Goals as goal

pub loop-n-preserved : goal.loop-n-preserved
loop-n-preserved c =
    subst (AreReplaced c.args.g.now c.args.marks.now (c.loop-n.n + 1)) (sym c.in_ok-push.ensures.items)
    (replaced_more c.args.g.now c.args.marks.now c.loop-n.n c.loop-n.nodes.items c.in_ok-replaced.field-0 c.loop-n.invariant c.in_ok-replaced.ensures)

pub returns-clause-few : goal.returns-clause-few
returns-clause-few c = let le = c.loop-n.auto.n-end in let range = c.len-n-end.type_inv in let long = c.loop-n.invariant.long in let same = c.loop-n.nodes.ok.0 in omega (arith, le, range, long, same)
