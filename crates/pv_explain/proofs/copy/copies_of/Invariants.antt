use Rattle.std.specs.List.{AllZip}
use Rattle.std.proofs.Common.{take, drop}
use Rattle.pv_explain.specs.Copies.{IsCopied}
use Rattle.pv_explain.specs.Lines.{HaveCopies}
use Rattle.pv_explain.proofs.copy.copies_of.Given as goal

abbrev pub invariant-loop-node : goal.invariant-loop-node
invariant-loop-node l = record {
  copied : AllZip (IsCopied l.map) (take l.node-index l.nodes) l.copies.items;
  left : HaveCopies l.map (drop l.node-index l.nodes);
}
