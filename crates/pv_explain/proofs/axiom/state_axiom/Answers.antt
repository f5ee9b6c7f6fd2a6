use Rattle.std.proofs.Common.{ℕ, List, refl, sym, subst}
use Rattle.pv_steps.specs.Steps.{assumed_in}
use Rattle.pv_axioms.specs.Entries.{Instance}
use Rattle.pv_writer.specs.Written.{inside}
use Rattle.pv_explain.proofs.Copied.{instance_copied}
use Rattle.pv_explain.proofs.axiom.state_axiom.Goals as goal

pub axiom-requires : goal.axiom-requires
axiom-requires c =
    let i = c.requires.instance in
    subst (λ (ns : List ℕ). Instance c.args.writer.now.graph (assumed_in (inside c.args.writer.now)) c.args.number ns c.copy_of-left.result c.copy_of-right.result) (sym c.deref.ensures.value)
    (instance_copied c.args.source.now.graph.now c.args.writer.now.graph c.args.source.now.map.now c.requires.source.copies (assumed_in (inside c.args.writer.now)) i.low c.args.number c.args.nodes.now c.in_ok-copies.copies.items c.args.first c.args.second
    c.copy_of-left.result c.copy_of-right.result c.in_ok-copies.ensures c.copy_of-left.ensures c.copy_of-right.ensures i.instance_)

pub returns-clause-line : goal.returns-clause-line
returns-clause-line c = record { first = refl; second = refl; stated = record { left = c.copy_of-left.ensures; right = c.copy_of-right.ensures; known = c.in_ok-fact.ensures.shows } }
