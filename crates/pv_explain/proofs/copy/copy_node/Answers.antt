use Rattle.std.specs.List.{AllZip}
use Rattle.std.proofs.Common.{ℕ, List, sym, subst}
use Rattle.pv_graph.specs.Calls.{AreNodes, FitsOver}
use Rattle.pv_writer.specs.Written.{HasNode}
use Rattle.pv_explain.specs.Copies.{IsCopied}
use Rattle.pv_explain.specs.Lines.{HaveCopies}
use Rattle.pv_explain.proofs.Copying.{copied_fits, copied_nodes, copy_made}
use Rattle.pv_explain.proofs.copy.copy_node.Goals as goal

pub copies_of-requires : goal.copies_of-requires
copies_of-requires c = subst (HaveCopies c.args.map.now) (sym c.as_slice.ensures) (c.requires.kids c.node-node.result.now c.node-node.ensures)

pub node-requires-clause-kids : goal.node-requires-clause-kids
node-requires-clause-kids c =
    subst (AreNodes c.args.writer.now.graph) (sym c.deref.ensures.value)
    (copied_nodes c.args.graph.now c.args.writer.now.graph c.args.map.now c.requires.copies c.as_slice.result.now c.in_ok-kids.kids.items c.in_ok-kids.ensures)

pub node-requires-clause-fits : goal.node-requires-clause-fits
node-requires-clause-fits c =
    subst (FitsOver c.args.writer.now.graph c.node-node.result.now.op) (sym c.deref.ensures.value)
    (copied_fits c.args.graph.now c.args.writer.now.graph c.args.map.now c.requires.made c.requires.sealed c.requires.copies c.args.n c.node-node.result.now c.in_ok-kids.kids.items c.node-node.ensures
    (subst (λ (ks : List ℕ). AllZip (IsCopied c.args.map.now) ks c.in_ok-kids.kids.items) c.as_slice.ensures c.in_ok-kids.ensures))

pub returns-clause-copy : goal.returns-clause-copy
returns-clause-copy c =
    copy_made c.args.writer.now c.node.new.self c.args.graph.now c.args.map.now c.requires.made c.requires.sealed c.requires.copies c.args.n c.in_ok-copy.copy c.node-node.result.now c.in_ok-kids.kids.items c.node-node.ensures
    (subst (λ (ks : List ℕ). AllZip (IsCopied c.args.map.now) ks c.in_ok-kids.kids.items) c.as_slice.ensures c.in_ok-kids.ensures)
    (subst (λ (ks : List ℕ). HasNode c.args.writer.now c.node.new.self c.node-node.result.now.op ks c.in_ok-copy.copy) c.deref.ensures.value c.in_ok-copy.ensures)
