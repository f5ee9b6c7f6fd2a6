use Rattle.std.proofs.Common.{◌≡◌, ℕ, List, length, get_or, sym, ◌∙◌, ap, subst, arith}
use Rattle.pv_loops.proofs.Words.{MAX_DEPTH, IsNested}
use Rattle.pv_loops.proofs.nest.Nest.fill.Goals as goal

pub nest-requires-clause-nested : goal.nest-requires-clause-nested
nest-requires-clause-nested c =
    let place : List ℕ = c.args.order.now.place.items in
    let at : get_or place (get_or c.deref-h-items.result.now c.loop-h.h-index 0) 0 ≡ c.loop-h.h-index = ap (λ (l : List ℕ). get_or place (get_or l c.loop-h.h-index 0) 0) c.deref-h-items.ensures.value
    ∙ c.requires.order.placed c.loop-h.h-index (let lt = c.loop-h-test.true in let e = ap length c.deref-h-items.ensures.value in omega (arith, lt, e)) in
    subst (λ k. IsNested c.args.sources.now place c.args.headers.now.nodes.items MAX_DEPTH k c.loop-h.self) (sym at) c.loop-h.invariant
