use Rattle.std.proofs.Common.{arith}
use Rattle.pv_classes.proofs.Elements.{zip_length}
use Rattle.pv_explain.specs.Needed.{LinkedByMarked, LinkedBefore}
use Rattle.pv_explain.proofs.Marking.{zip_of}
use Rattle.pv_explain.proofs.needed.mark_kids.Goals as goal

pub returns-clause-linked : goal.returns-clause-linked
returns-clause-linked c =
    zip_of (LinkedByMarked c.args.forest.now c.loop-i.needed.items c.args.before) c.args.lefts.now c.args.rights.now (zip_length (LinkedBefore c.args.forest.now c.args.before) c.args.lefts.now c.args.rights.now c.requires.linked)
    (λ k low. c.loop-i.invariant.linked k (omega arith))
