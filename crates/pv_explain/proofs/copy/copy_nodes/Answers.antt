use Rattle.std.specs.Prelude.{Bool, Option, Some}
use Rattle.std.proofs.Common.{◌∙◌, ℕ, List, arith, ap, subst, sym}
use Rattle.pv_writer.proofs.Pushing.{goes_refl, goes_trans}
use Rattle.pv_explain.specs.Copying.{AreFirstCopies, AreOwnCopies, IsCopyIf}
use Rattle.pv_explain.proofs.Copying.{base_source, copy_next, kids_have}
use Rattle.pv_explain.proofs.copy.copy_nodes.Goals as goal

pub loop-n-init : goal.loop-n-init
loop-n-init c = record {
  copies =
      subst (λ (b : ℕ). AreFirstCopies c.args.writer.now c.args.graph.now c.args.marks.now b c.in_ok-map.map.items) (sym c.requires.base)
      (base_source c.args.writer.now c.args.graph.now c.args.marks.now c.in_ok-map.map.items c.requires.made c.requires.begins (subst (λ (b : ℕ). AreOwnCopies b c.in_ok-map.map.items) c.requires.base c.in_ok-map.ensures));
  goes = goes_refl c.args.writer.now;
}

pub copy_if_marked-requires-clause-kids : goal.copy_if_marked-requires-clause-kids
copy_if_marked-requires-clause-kids c =
    λ wanted. kids_have c.loop-n.writer c.args.graph.now c.args.marks.now c.loop-n.n c.loop-n.map.items c.deref.result.now c.requires.made (let z = c.requires.base in let y = c.loop-n.auto.n in omega (arith, z, y)) c.loop-n.invariant.copies c.deref.ensures.value c.requires.closed
    (c.is_marked-wanted.ensures ∙ ap (λ (b : Bool). Some b) wanted)

pub loop-n-preserved : goal.loop-n-preserved
loop-n-preserved c = record {
  copies =
      copy_next c.loop-n.writer c.copy_if_marked.new.writer c.args.graph.now c.args.marks.now c.loop-n.n c.in_ok-copy.copy c.is_marked-wanted.result c.loop-n.map.items c.push.new.self.items c.loop-n.invariant.copies c.in_ok-copy.ensures.goes c.is_marked-wanted.ensures
      (subst (λ (m : List (Option ℕ)). IsCopyIf c.copy_if_marked.new.writer c.args.graph.now m c.is_marked-wanted.result c.loop-n.n c.in_ok-copy.copy) c.deref.ensures.value c.in_ok-copy.ensures.copy) c.in_ok-push.ensures.items;
  goes = goes_trans c.args.writer.now c.loop-n.writer c.copy_if_marked.new.writer c.loop-n.invariant.goes c.in_ok-copy.ensures.goes;
}
