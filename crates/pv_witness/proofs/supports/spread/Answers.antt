use Rattle.std.proofs.Common.{ℕ, List, Bool, ◌+◌, sym, ◌∙◌, subst, take, get_or, arith, true≢false}
use Rattle.std.proofs.lemmas.List.{take_more}
use Rattle.pv_graph.proofs.Cited.{in_at}
use Rattle.pv_witness.specs.declared.supports.Found.{Found}
use Rattle.pv_witness.specs.Numbered.{numbered}
use Rattle.pv_witness.specs.Found.{IsReadyBy, Spreads}
use Rattle.pv_witness.proofs.Numbering.{numbered_long, numbered_node, kids_numbered_too}
use Rattle.pv_witness.proofs.Supporting.{ready_by, spreads_more, spreads_past}
use Rattle.pv_witness.proofs.supports.spread.Goals as goal
use Rattle.pv_witness.proofs.supports.spread.Goals.{then-is_ready+in_ok-list_support, else-is_ready}

pub node-requires : goal.node-requires
node-requires c = let low = c.requires.nodes _ (in_at c.args.nodes.now c.loop-n.n-index 0 c.loop-n-test.true) in let few = c.requires.numbered.few in omega (arith, low, few)

pub is_ready-requires-clause-kids : goal.is_ready-requires-clause-kids
is_ready-requires-clause-kids c k i =
    let n : ℕ = get_or c.args.nodes.now c.loop-n.n-index 0 in
    let low = c.requires.nodes n (in_at c.args.nodes.now c.loop-n.n-index 0 c.loop-n-test.true) in
    kids_numbered_too c.args.graph.now c.args.numbers.now c.len-count.ensures.graph c.requires.sealed c.requires.numbered n k c.node.result.now low c.node.ensures i

pub is_ready-requires-clause-numbers : goal.is_ready-requires-clause-numbers
is_ready-requires-clause-numbers c k i =
    let n : ℕ = get_or c.args.nodes.now c.loop-n.n-index 0 in
    let low = c.requires.nodes n (in_at c.args.nodes.now c.loop-n.n-index 0 c.loop-n-test.true) in
    let kid = kids_numbered_too c.args.graph.now c.args.numbers.now c.len-count.ensures.graph c.requires.sealed c.requires.numbered n k c.node.result.now low c.node.ensures i in
    let class = c.requires.numbered.within k kid in
    let long = numbered_long c.args.graph.now c.args.numbers.now c.requires.numbered in
    omega (arith, class, long, c.loop-n.invariant.found.long, c.deref.ensures.len, c.loop-n.found.has.ok.0)

pub list_support-requires-clause-there : goal.list_support-requires-clause-there
list_support-requires-clause-there c = c.requires.nodes _ (in_at c.args.nodes.now c.loop-n.n-index 0 c.loop-n-test.true)

pub list_support-requires-clause-class : goal.list_support-requires-clause-class
list_support-requires-clause-class c =
    let n : ℕ = get_or c.args.nodes.now c.loop-n.n-index 0 in
    let class = c.requires.numbered.within n (c.requires.nodes n (in_at c.args.nodes.now c.loop-n.n-index 0 c.loop-n-test.true)) in
    let long = numbered_long c.args.graph.now c.args.numbers.now c.requires.numbered in
    omega (arith, class, long, c.loop-n.invariant.found.long, c.loop-n.found.has.ok.0)

pub loop-n-preserved : goal.loop-n-preserved
loop-n-preserved c =
    let g = numbered c.args.graph.now c.args.numbers.now in
    let n : ℕ = get_or c.args.nodes.now c.loop-n.n-index 0 in
    let low = c.requires.nodes n (in_at c.args.nodes.now c.loop-n.n-index 0 c.loop-n-test.true) in
    let long = numbered_long c.args.graph.now c.args.numbers.now c.requires.numbered in
    let more = take_more c.args.nodes.now c.loop-n.n-index 0 c.loop-n-test.true in
    let there = numbered_node c.args.graph.now c.args.numbers.now c.requires.numbered n c.node.result.now low c.node.ensures in
    let exact = ready_by g c.args.numbers.now c.args.condition c.loop-n.found.list.items c.loop-n.found.has.items n c.node.result.now c.loop-n.invariant.found there in
    elim c.if-is_ready.branch [
      | then-is_ready+in_ok-list_support w ↦
          let ready = exact.0 (subst (λ (has : List Bool). IsReadyBy c.args.numbers.now c.args.condition has c.node.result.now) c.deref.ensures.value (c.is_ready.ensures.0 w.if-is_ready.true)) in
          subst (λ (f : Found). Spreads g c.args.numbers.now c.args.condition (take (c.loop-n.n-index + 1) c.args.nodes.now) c.args.found.now.list.items f.list.items f.has.items) (sym w.found-is)
          (subst (λ (xs : List ℕ). Spreads g c.args.numbers.now c.args.condition xs c.args.found.now.list.items w.list_support.new.found.list.items w.list_support.new.found.has.items) (sym more)
          (spreads_more g c.args.numbers.now c.args.condition (take c.loop-n.n-index c.args.nodes.now) c.args.found.now.list.items c.loop-n.found.list.items w.list_support.new.found.list.items
          c.loop-n.found.has.items w.list_support.new.found.has.items n (omega (arith, low, long)) c.loop-n.invariant ready w.in_ok-list_support.ensures))
      | else-is_ready w ↦
          subst (λ (f : Found). Spreads g c.args.numbers.now c.args.condition (take (c.loop-n.n-index + 1) c.args.nodes.now) c.args.found.now.list.items f.list.items f.has.items) (sym w.found-is)
          (subst (λ (xs : List ℕ). Spreads g c.args.numbers.now c.args.condition xs c.args.found.now.list.items c.loop-n.found.list.items c.loop-n.found.has.items) (sym more)
          (spreads_past g c.args.numbers.now c.args.condition (take c.loop-n.n-index c.args.nodes.now) c.args.found.now.list.items c.loop-n.found.list.items c.loop-n.found.has.items n c.loop-n.invariant
          (λ r. absurd (true≢false (sym (c.is_ready.ensures.1 (subst (λ (has : List Bool). IsReadyBy c.args.numbers.now c.args.condition has c.node.result.now) (sym c.deref.ensures.value) (exact.1 r))) ∙ w.if-is_ready.false)))))
    ]
