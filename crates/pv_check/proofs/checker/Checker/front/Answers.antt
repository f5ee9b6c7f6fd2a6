use Rattle.std.proofs.Common.{◌≡◌, ◌+◌, ◌<◌, ℕ, [], ◌∷◌, ◌++◌, length, suc, take, subst, arith}
use Rattle.std.specs.Prelude.{IsTrue}
use Rattle.std.proofs.Math.ListN.{get_or}
use Rattle.pv_graph.specs.Graphs.{Graph}
use Rattle.pv_steps.specs.Right.{Grows}
use Rattle.pv_check.specs.Growth.{GrowsTo}
use Rattle.pv_check.specs.Kept.{AreKept}
use Rattle.pv_check.specs.Checking.{IsReplayed}
use Rattle.pv_check.proofs.Checking.{starts, replays}
use Rattle.pv_check.proofs.Replaying.{no_graph}
use Rattle.pv_check.proofs.checker.Checker.front.Goals as goal

pub loop-k-init : goal.loop-k-init
loop-k-init g c = starts c.args.self.now.graph.now c.in_ok-graph.graph c.args.self.now.steps.now c.in_ok-tables.tables.innermost.items c.in_ok-tables.tables.opened.items c.requires.sealed c.in_ok-graph.ensures c.in_ok-tables.ensures

pub replay-requires-clause-sealed : goal.replay-requires-clause-sealed
replay-requires-clause-sealed g c = c.loop-k.invariant.sealed

pub replay-requires-clause-kept : goal.replay-requires-clause-kept
replay-requires-clause-kept g c = c.loop-k.invariant.kept

pub loop-k-preserved : goal.loop-k-preserved
loop-k-preserved g c =
    let yes : IsTrue c.in_ok-has_graph.has_graph = c.if-not-has_graph.false in
    let grows : GrowsTo (get_or c.args.self.now.steps.now c.loop-k.k c.index-self-k.result) c.loop-k.graph c.replay.new.graph = rw yes at c.in_ok-has_graph.ensures.grows in
    let kept : AreKept (take c.loop-k.k c.args.self.now.steps.now ++ get_or c.args.self.now.steps.now c.loop-k.k c.index-self-k.result ∷ []) c.replay.new.tables.innermost.items c.replay.new.tables.opened.items = rw yes at c.in_ok-has_graph.ensures.kept in
    let low : c.loop-k.k < length c.args.self.now.steps.now = let past = c.loop-k-test.true in let last = c.requires.within in omega (arith, past, last) in
    let next : suc c.loop-k.k ≡ c.loop-k.k + 1 = omega arith in
    subst (λ (n : ℕ). IsReplayed c.args.self.now.graph.now c.args.self.now.steps.now n c.replay.new.tables.innermost.items c.replay.new.tables.opened.items c.replay.new.graph) next
    (replays c.args.self.now.graph.now c.loop-k.graph c.replay.new.graph c.args.self.now.steps.now c.loop-k.k c.loop-k.tables.innermost.items c.replay.new.tables.innermost.items c.loop-k.tables.opened.items c.replay.new.tables.opened.items c.loop-k.invariant low c.index-self-k.result grows kept)

pub returns-then-not-has_graph-clause-none : goal.returns-then-not-has_graph-clause-none
returns-then-not-has_graph-clause-none g c =
    let none : (new : Graph) → Grows (get_or c.args.self.now.steps.now c.loop-k.k c.index-self-k.result) c.loop-k.graph new → ⊥ = rw c.if-not-has_graph.true at c.in_ok-has_graph.ensures.none in
    let low : c.loop-k.k < length c.args.self.now.steps.now = let past = c.loop-k-test.true in let last = c.requires.within in omega (arith, past, last) in
    no_graph c.args.self.now.graph.now c.loop-k.graph c.args.self.now.steps.now c.loop-k.k c.loop-k.tables.innermost.items c.loop-k.tables.opened.items c.loop-k.invariant low c.index-self-k.result none c.args.n c.loop-k-test.true c.requires.within

pub returns-clause-some : goal.returns-clause-some
returns-clause-some g c =
    let end : c.loop-k.k ≡ c.args.n = let within = c.loop-k.auto.k-end in let past = c.loop-k-test.false in omega (arith, within, past) in
    subst (λ (n : ℕ). IsReplayed c.args.self.now.graph.now c.args.self.now.steps.now n c.loop-k.tables.innermost.items c.loop-k.tables.opened.items c.loop-k.graph) end c.loop-k.invariant
