use Rattle.std.proofs.Common.{◌≡◌, ℕ, true, false, Option, Some, None, is_some, true≢false, refl, sym, ◌∙◌, subst}
use Rattle.pv_graph.specs.declared.node.Node.{Node}
use Rattle.pv_graph.specs.Index.{Renumbers}
use Rattle.pv_graph.proofs.Appending.{index_more_open, index_more_known, index_more}
use Rattle.pv_graph.proofs.graph.index_of.Goals as goal
use Rattle.pv_graph.proofs.graph.index_of.Goals.{then-is_open-via-then-is_open, then-is_open-via-else-is_open+then-is_some}

known : (o : Option ℕ) → is_some o ≡ true → (m : ℕ) × (o ≡ Some m)
known (Some m) e = (m, refl)
known None e = absurd (true≢false (sym e))

unknown : (o : Option ℕ) → is_some o ≡ false → o ≡ None
unknown (Some m) e = absurd (true≢false e)
unknown None e = refl

pub loop-n-preserved-then-is_open : goal.loop-n-preserved-then-is_open
loop-n-preserved-then-is_open c =
    elim c.then-is_open.branch [
      | then-is_open-via-then-is_open w ↦ index_more_open c.args.nodes.now c.loop-n.n c.index-nodes-n.result c.loop-n-test.true c.index-nodes-n.is c.loop-n.index.numbers (w.if-is_open.ensures.0 refl) c.loop-n.invariant
      | then-is_open-via-else-is_open+then-is_some w ↦
          let there = known w.get.result (sym w.is_some.ensures ∙ w.if-is_some.true) in
          index_more_known c.args.nodes.now c.loop-n.n c.index-nodes-n.result c.loop-n-test.true c.index-nodes-n.is c.loop-n.index.numbers there.0 (sym w.get.ensures ∙ there.1) c.loop-n.invariant
    ]

pub loop-n-preserved : goal.loop-n-preserved
loop-n-preserved c =
    index_more c.args.nodes.now c.loop-n.n c.index-nodes-n.result c.loop-n-test.true c.index-nodes-n.is c.loop-n.index.numbers c.insert.new.self.numbers (λ open_. true≢false (sym (c.if-is_open.ensures.1 open_)))
    (sym c.get.ensures ∙ unknown c.get.result (sym c.is_some.ensures ∙ c.if-is_some.false))
    (subst (λ (x : Node). Renumbers c.loop-n.index.numbers c.insert.new.self.numbers x c.loop-n.n) c.in_ok-copy.ensures c.in_ok-insert.ensures.ok) c.loop-n.invariant
