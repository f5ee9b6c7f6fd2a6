use Rattle.std.proofs.Common.{◌≡◌, ℕ, List, [], ◌∷◌, ◌++◌, ◌+◌, Vec, Global, ap, sym, subst, ◌∙◌, true≢false, arith}
use Rattle.pv_endings.specs.Waiting.{AreFirst}
use Rattle.pv_endings.proofs.Listed.{first_more, first_same, all_waiting}
use Rattle.pv_endings.proofs.listing.waiting_on.Goals.{then-may_be+in_ok-push, else-may_be}
use Rattle.pv_endings.proofs.listing.waiting_on.Goals as goal

pub loop-n-preserved : goal.loop-n-preserved
loop-n-preserved c =
    elim c.if-may_be.branch [
      | then-may_be+in_ok-push w ↦
          let nodes : c.if-may_be.nodes.items ≡ c.loop-n.nodes.items ++ c.loop-n.n ∷ [] = ap (λ (v : Vec ℕ Global). v.items) w.nodes-is ∙ w.in_ok-push.ensures.items in
          subst (λ (ns : List ℕ). AreFirst c.args.graph.now c.args.spine.now (c.loop-n.n + 1) ns) (sym nodes)
          (first_more c.args.graph.now c.args.spine.now c.loop-n.n c.loop-n.nodes.items c.loop-n.invariant (c.may_be.ensures.0 w.if-may_be.true))
      | else-may_be w ↦
          let nodes : c.if-may_be.nodes.items ≡ c.loop-n.nodes.items = ap (λ (v : Vec ℕ Global). v.items) w.nodes-is in
          subst (λ (ns : List ℕ). AreFirst c.args.graph.now c.args.spine.now (c.loop-n.n + 1) ns) (sym nodes)
          (first_same c.args.graph.now c.args.spine.now c.loop-n.n c.loop-n.nodes.items c.loop-n.invariant
          (λ may. true≢false (sym (c.may_be.ensures.1 may) ∙ w.if-may_be.false)))
    ]

pub returns : goal.returns
returns c = λ token spine. all_waiting c.args.graph.now c.len-n-end.ensures.graph token c.args.spine.now spine c.loop-n.n c.loop-n.nodes.items (let low = c.loop-n.auto.n-end in let high = c.loop-n-test.false in let e = c.len-n-end.ensures.len in omega (arith, low, high, e)) c.loop-n.invariant
