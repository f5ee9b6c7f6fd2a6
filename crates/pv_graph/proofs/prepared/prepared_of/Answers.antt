use Rattle.std.proofs.Common.{◌+◌, ◌∷◌, ◌∙◌, ℕ, Bool, [], List, Vec, length, length-append, sym, ap, subst}
use Rattle.std.specs.declared.alloc.Global.{Global}
use Rattle.pv_graph.specs.Reach.{Uses, AreUses, AreOut}
use Rattle.pv_graph.proofs.Reaching.{uses_all}
use Rattle.pv_graph.proofs.Marking.{Searches, searches_more}
use Rattle.pv_graph.proofs.prepared.prepared_of.Goals as goal

pub marks_of-requires-clause-uses : goal.marks_of-requires-clause-uses
marks_of-requires-clause-uses c = subst (λ (uses : Uses). AreUses c.args.nodes.now c.as_slice-out.result.now uses) (sym c.as_slice-uses.ensures.value) (uses_all c.args.nodes.now c.as_slice-out.result.now c.in_ok-uses.uses.items c.in_ok-uses.ensures.uses)

pub loop-d-preserved : goal.loop-d-preserved
loop-d-preserved c = record {
  depths = ap (λ (xs : List (Vec Bool Global)). length xs) c.in_ok-push.ensures.items ∙ length-append c.loop-d.free.items (c.in_ok-marks.marks ∷ []) ∙ ap (λ (n : ℕ). n + 1) c.loop-d.invariant.depths;
  free = subst (λ (xs : List (Vec Bool Global)). Searches c.args.nodes.now xs) (sym c.in_ok-push.ensures.items)
      (searches_more c.args.nodes.now c.loop-d.free.items c.in_ok-marks.marks c.loop-d.d c.loop-d.invariant.depths c.loop-d.invariant.free (record {
        out = c.as_slice-out.result.now;
        are = subst (λ (out : List Bool). AreOut (length c.args.nodes.now) [] out) (sym c.as_slice-out.ensures.value) c.in_ok-out.ensures;
        marked = c.in_ok-marks.ensures;
      }));
}

pub marks_of-requires-2-clause-uses : goal.marks_of-requires-2-clause-uses
marks_of-requires-2-clause-uses c = subst (λ (uses : Uses). AreUses c.args.nodes.now c.as_slice-out.result.now uses) (sym c.as_slice-uses.ensures.value) (uses_all c.args.nodes.now c.as_slice-out.result.now c.in_ok-uses.uses.items c.in_ok-uses.ensures.uses)
