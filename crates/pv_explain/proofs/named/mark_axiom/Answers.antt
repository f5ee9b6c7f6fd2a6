use Rattle.std.proofs.Common.{refl}
use Rattle.pv_classes.specs.declared.join.Reason.TheVariants as reason
use Rattle.pv_explain.specs.Named.{IsMarkedNode}
use Rattle.pv_explain.proofs.NodeMarks.{axiom_marked, no_axiom}
use Rattle.pv_explain.proofs.named.mark_axiom.Goals as goal

pub returns-in-Axiom-clause-marked : goal.returns-in-Axiom-clause-marked
returns-in-Axiom-clause-marked c =
    axiom_marked (IsMarkedNode c.mark_nodes.new.marks.items) c.args.why.now c.in-Axiom.field-0 c.in-Axiom.nodes c.as_slice.result.now c.in-Axiom.is c.as_slice.ensures c.mark_nodes.ensures.marked

pub returns-in-Kids-clause-marked : goal.returns-in-Kids-clause-marked
returns-in-Kids-clause-marked c = no_axiom (IsMarkedNode c.args.marks.now.items) c.args.why.now reason.Kids c.in-Kids.is refl

pub returns-in-Induction-clause-marked : goal.returns-in-Induction-clause-marked
returns-in-Induction-clause-marked c = no_axiom (IsMarkedNode c.args.marks.now.items) c.args.why.now (reason.Induction c.in-Induction.field-0) c.in-Induction.is refl

pub returns-in-Pair-clause-marked : goal.returns-in-Pair-clause-marked
returns-in-Pair-clause-marked c = no_axiom (IsMarkedNode c.args.marks.now.items) c.args.why.now (reason.Pair c.in-Pair.field-0) c.in-Pair.is refl
