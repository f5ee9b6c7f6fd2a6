use Rattle.std.proofs.Common.{ℕ, inl, inr, subst}
use Rattle.pv_graph.specs.Walks.{In}
use Rattle.pv_pattern.specs.Numbers.{op_number}
use Rattle.pv_match.specs.Bindings.{with_number}
use Rattle.pv_match.proofs.Listing.{below_or_at}
use Rattle.pv_match.proofs.rules.items_of.Goals as goal

pub loop-number-preserved : goal.loop-number-preserved
loop-number-preserved c nodes knows n i node at k low m = elim (below_or_at (op_number node.op) c.loop-number.number low) [
  | inl l ↦ c.in_ok-add_items.ensures.stay n (c.loop-number.invariant nodes knows n i node at k l m)
  | inr e ↦ c.in_ok-add_items.ensures.added nodes knows n i node at k e (subst (λ (j : ℕ). In (with_number c.args.rules.now j) i) e m)
]
