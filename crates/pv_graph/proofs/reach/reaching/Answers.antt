use Rattle.std.proofs.Common.{◌≡◌, ◌<◌, [], ℕ, Bool, true, List, length, refl, sym, ◌∙◌, subst, arith}
use Rattle.std.proofs.lemmas.Option.{slice_get_within, slice_get_read}
use Rattle.pv_graph.specs.declared.reach.Use.{Use}
use Rattle.pv_graph.specs.Walks.{In}
use Rattle.pv_graph.specs.Reach.{Spreads}
use Rattle.pv_graph.proofs.Reaching.{IsFrontier, in_last, frontier_begin, frontier_step, frontier_end, is_empty}
use Rattle.pv_graph.proofs.reach.reaching.Goals as goal

pub loop-k-init : goal.loop-k-init
loop-k-init c =
    subst (λ (marks : List Bool). IsFrontier c.args.nodes.now c.args.uses.now c.args.look c.args.starts.now marks c.in_ok-work.work.items) (sym c.in_ok-marks.ensures.items)
    (frontier_begin c.args.nodes.now c.args.uses.now c.args.look c.args.starts.now c.in_ok-work.work.items c.requires.starts c.in_ok-work.ensures)

pub bounds-uses-k : goal.bounds-uses-k
bounds-uses-k c =
    let before = subst (λ (work : List ℕ). IsFrontier c.args.nodes.now c.args.uses.now c.args.look c.args.starts.now c.loop-k.marks.items work) c.in-Some.ensures.items c.loop-k.invariant in
    omega (arith, slice_get_within c.loop-k.marks.items c.in-Some.k true (before.queued c.in-Some.k (in_last c.pop.new.self.items c.in-Some.k)), c.loop-k.invariant.long, c.requires.uses)

pub spread-requires-clause-within : goal.spread-requires-clause-within
spread-requires-clause-within c u m =
    let before = subst (λ (work : List ℕ). IsFrontier c.args.nodes.now c.args.uses.now c.args.look c.args.starts.now c.loop-k.marks.items work) c.in-Some.ensures.items c.loop-k.invariant in
    let low : c.in-Some.k < length c.args.uses.now = omega (arith, slice_get_within c.loop-k.marks.items c.in-Some.k true (before.queued c.in-Some.k (in_last c.pop.new.self.items c.in-Some.k)), c.loop-k.invariant.long, c.requires.uses) in
    c.requires.within c.in-Some.k u (c.index-uses-k.result, slice_get_read c.args.uses.now (length c.args.uses.now) c.in-Some.k c.index-uses-k.result refl low c.index-uses-k.is, subst (λ (us : List Use). In us u) c.deref.ensures.value m)

pub loop-k-preserved : goal.loop-k-preserved
loop-k-preserved c =
    let before = subst (λ (work : List ℕ). IsFrontier c.args.nodes.now c.args.uses.now c.args.look c.args.starts.now c.loop-k.marks.items work) c.in-Some.ensures.items c.loop-k.invariant in
    let low : c.in-Some.k < length c.args.uses.now = omega (arith, slice_get_within c.loop-k.marks.items c.in-Some.k true (before.queued c.in-Some.k (in_last c.pop.new.self.items c.in-Some.k)), c.loop-k.invariant.long, c.requires.uses) in
    frontier_step c.args.nodes.now c.args.uses.now c.args.look c.args.starts.now c.loop-k.marks.items c.spread.new.marks.items c.pop.new.self.items c.spread.new.work.items c.in-Some.k c.index-uses-k.result before
    (slice_get_read c.args.uses.now (length c.args.uses.now) c.in-Some.k c.index-uses-k.result refl low c.index-uses-k.is)
    (subst (λ (us : List Use). Spreads c.args.nodes.now c.args.look us c.loop-k.marks.items c.spread.new.marks.items c.pop.new.self.items c.spread.new.work.items) c.deref.ensures.value c.in_ok-spread.ensures)

pub returns : goal.returns
returns c =
    let empty : c.loop-k.work.items ≡ [] = is_empty c.loop-k.work.items (sym c.loop-k.work.ok.0 ∙ c.in_default.ensures.cases.0) in
    frontier_end c.args.nodes.now c.args.uses.now c.args.look c.args.starts.now c.loop-k.marks.items
    (subst (λ (work : List ℕ). IsFrontier c.args.nodes.now c.args.uses.now c.args.look c.args.starts.now c.loop-k.marks.items work) empty c.loop-k.invariant)
