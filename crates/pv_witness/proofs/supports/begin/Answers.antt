use Rattle.std.proofs.Common.{List, Bool, ◌≡◌, ◌<◌, ◌+◌, sym, ap, ◌∙◌, inl, inr, true, false, subst, length, slice_get, arith, true≢false}
use Rattle.std.proofs.lemmas.Option.{same_Some}
use Rattle.pv_witness.specs.declared.supports.Found.{Found}
use Rattle.pv_witness.specs.Numbered.{numbered}
use Rattle.pv_witness.specs.Supports.{IsSupport}
use Rattle.pv_witness.specs.Found.{IsReadyBy, Begins}
use Rattle.pv_witness.proofs.Numbering.{numbered_long, numbered_node, kids_numbered_too}
use Rattle.pv_witness.proofs.Supporting.{ready_by, begins_none, begins_more, begins_past, mark_at, all_false}
use Rattle.pv_witness.proofs.supports.begin.Goals as goal
use Rattle.pv_witness.proofs.supports.begin.Goals.{then-starts-n+in_ok-list_support, else-starts-n+else-is_ready, then-starts-n-via-then-starts-n, then-starts-n-via-else-starts-n+then-is_ready}

pub loop-n-init : goal.loop-n-init
loop-n-init c =
    let items = c.in_ok-vec.ensures.items_if_clones_equal (λ y e. e) in
    let same = numbered_long c.args.graph.now c.args.numbers.now c.requires.numbered in
    let long : length c.in_ok-vec.field-0.items ≡ length (numbered c.args.graph.now c.args.numbers.now).nodes = omega (arith, c.in_ok-vec.ensures.len, c.in_ok-vec.field-0.ok.0, same) in
    rw c.new.ensures.items
    (begins_none (numbered c.args.graph.now c.args.numbers.now) c.args.numbers.now c.args.condition c.args.starts.now c.in_ok-vec.field-0.items long
    (λ k b e. all_false (length c.args.numbers.now) k b (ap (λ (xs : List Bool). slice_get xs k) (sym items) ∙ e)))

pub is_ready-requires-clause-kids : goal.is_ready-requires-clause-kids
is_ready-requires-clause-kids c k i =
    kids_numbered_too c.args.graph.now c.args.numbers.now c.len-count.ensures.graph c.requires.sealed c.requires.numbered c.loop-n.n k c.node.result.now (omega (arith, c.loop-n-test.true)) c.node.ensures i

pub is_ready-requires-clause-numbers : goal.is_ready-requires-clause-numbers
is_ready-requires-clause-numbers c k i =
    let kid = kids_numbered_too c.args.graph.now c.args.numbers.now c.len-count.ensures.graph c.requires.sealed c.requires.numbered c.loop-n.n k c.node.result.now (omega (arith, c.loop-n-test.true)) c.node.ensures i in
    let class = c.requires.numbered.within k kid in
    let long = numbered_long c.args.graph.now c.args.numbers.now c.requires.numbered in
    omega (arith, class, long, c.loop-n.invariant.found.long, c.deref.ensures.len, c.loop-n.found.has.ok.0)

pub list_support-requires-clause-class : goal.list_support-requires-clause-class
list_support-requires-clause-class c =
    let class = c.requires.numbered.within c.loop-n.n (omega (arith, c.loop-n-test.true)) in
    let long = numbered_long c.args.graph.now c.args.numbers.now c.requires.numbered in
    omega (arith, class, long, c.loop-n.invariant.found.long, c.loop-n.found.has.ok.0)

pub loop-n-preserved : goal.loop-n-preserved
loop-n-preserved c =
    let g = numbered c.args.graph.now c.args.numbers.now in
    let lt : c.loop-n.n < length c.args.numbers.now = omega (arith, c.loop-n-test.true) in
    let long = numbered_long c.args.graph.now c.args.numbers.now c.requires.numbered in
    let low : c.loop-n.n < length g.nodes = omega (arith, lt, long) in
    let there : c.loop-n.n < length c.args.starts.now = omega (arith, lt, c.requires.starts) in
    elim c.if-starts-n.branch [
      | then-starts-n+in_ok-list_support w ↦
          let support : IsSupport g c.args.numbers.now c.args.condition c.args.starts.now c.loop-n.found.list.items c.loop-n.n =
          elim w.then-starts-n.branch [
            | then-starts-n-via-then-starts-n v ↦ inl (mark_at c.args.starts.now c.loop-n.n true there v.if-starts-n.true)
            | then-starts-n-via-else-starts-n+then-is_ready v ↦
                inr ((ready_by g c.args.numbers.now c.args.condition c.loop-n.found.list.items c.loop-n.found.has.items c.loop-n.n v.node.result.now c.loop-n.invariant.found
                (numbered_node c.args.graph.now c.args.numbers.now c.requires.numbered c.loop-n.n v.node.result.now lt v.node.ensures)).0
                (subst (λ (has : List Bool). IsReadyBy c.args.numbers.now c.args.condition has v.node.result.now) v.deref.ensures.value (v.is_ready.ensures.0 v.if-is_ready.true)))
          ] in
          subst (λ (f : Found). Begins g c.args.numbers.now c.args.condition c.args.starts.now (c.loop-n.n + 1) f.list.items f.has.items) (sym w.found-is)
          (begins_more g c.args.numbers.now c.args.condition c.args.starts.now c.loop-n.n c.loop-n.found.list.items w.list_support.new.found.list.items c.loop-n.found.has.items w.list_support.new.found.has.items low c.loop-n.invariant support
          w.in_ok-list_support.ensures)
      | else-starts-n+else-is_ready w ↦
          let no_start = mark_at c.args.starts.now c.loop-n.n false there w.if-starts-n.false in
          let exact = ready_by g c.args.numbers.now c.args.condition c.loop-n.found.list.items c.loop-n.found.has.items c.loop-n.n w.node.result.now c.loop-n.invariant.found
          (numbered_node c.args.graph.now c.args.numbers.now c.requires.numbered c.loop-n.n w.node.result.now lt w.node.ensures) in
          subst (λ (f : Found). Begins g c.args.numbers.now c.args.condition c.args.starts.now (c.loop-n.n + 1) f.list.items f.has.items) (sym w.found-is)
          (begins_past g c.args.numbers.now c.args.condition c.args.starts.now c.loop-n.n c.loop-n.found.list.items c.loop-n.found.has.items c.loop-n.invariant
          (λ m. true≢false (same_Some true false (sym m ∙ no_start)))
          (λ r. true≢false (sym (w.is_ready.ensures.1 (subst (λ (has : List Bool). IsReadyBy c.args.numbers.now c.args.condition has w.node.result.now) (sym w.deref.ensures.value) (exact.1 r))) ∙ w.if-is_ready.false)))
    ]
