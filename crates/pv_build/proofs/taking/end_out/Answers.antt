use Rattle.pv_build.proofs.Words.{Op, Graph, IsFlatOrOut, GrowsBy, grows_by_then, op_sort}
use Rattle.pv_graph.specs.declared.node.OpSort.TheVariants as sorts
use Rattle.pv_build.proofs.Outgoing.{node_out, token_node_out, node_later, node_sooner, token_later}
use Rattle.pv_build.proofs.Cells.{no_root}
use Rattle.pv_build.proofs.taking.end_out.Goals as goal

pub out-requires-clause-ending : goal.out-requires-clause-ending
out-requires-clause-ending c = c.token_out.ensures.grows.extends.sorts c.args.c.ending sorts.I c.requires.closed.ending

pub returns-in_err-fault-clause-grows : goal.returns-in_err-fault-clause-grows
returns-in_err-fault-clause-grows c = grows_by_then (IsFlatOrOut c.args.c.depth) c.args.g.now c.token_out.new.g c.out.new.g c.token_out.ensures.grows c.out.ensures.grows

pub out-requires-2-clause-ending : goal.out-requires-2-clause-ending
out-requires-2-clause-ending c = c.out.ensures.grows.extends.sorts c.args.c.ending sorts.I (c.token_out.ensures.grows.extends.sorts c.args.c.ending sorts.I c.requires.closed.ending)

pub out-requires-2-clause-value : goal.out-requires-2-clause-value
out-requires-2-clause-value c = (
  op_sort c.requires.sorted.0,
  c.out.ensures.grows.extends.sorts c.args.end.result (op_sort c.requires.sorted.0) (c.token_out.ensures.grows.extends.sorts c.args.end.result (op_sort c.requires.sorted.0) c.requires.sorted.1.result_is),
  no_root c.requires.sorted.0,
)

pub returns-in_err-result-clause-grows : goal.returns-in_err-result-clause-grows
returns-in_err-result-clause-grows c =
    let P : Op → Type 0 = IsFlatOrOut c.args.c.depth in
    grows_by_then P c.args.g.now c.out.new.g c.out-2.new.g (grows_by_then P c.args.g.now c.token_out.new.g c.out.new.g c.token_out.ensures.grows c.out.ensures.grows) c.out-2.ensures.grows

pub out-requires-3-clause-ending : goal.out-requires-3-clause-ending
out-requires-3-clause-ending c =
    c.out-2.ensures.grows.extends.sorts c.args.c.ending sorts.I
    (c.out.ensures.grows.extends.sorts c.args.c.ending sorts.I (c.token_out.ensures.grows.extends.sorts c.args.c.ending sorts.I c.requires.closed.ending))

pub out-requires-3-clause-value : goal.out-requires-3-clause-value
out-requires-3-clause-value c = (
  sorts.H,
  c.out-2.ensures.grows.extends.sorts c.args.end.heap sorts.H (c.out.ensures.grows.extends.sorts c.args.end.heap sorts.H (c.token_out.ensures.grows.extends.sorts c.args.end.heap sorts.H c.requires.sorted.1.heap)),
  (λ e. absurd (cc)),
)

pub returns-in_err-heap-clause-grows : goal.returns-in_err-heap-clause-grows
returns-in_err-heap-clause-grows c =
    let P : Op → Type 0 = IsFlatOrOut c.args.c.depth in
    let two : GrowsBy P c.args.g.now c.out.new.g = grows_by_then P c.args.g.now c.token_out.new.g c.out.new.g c.token_out.ensures.grows c.out.ensures.grows in
    grows_by_then P c.args.g.now c.out-2.new.g c.out-3.new.g (grows_by_then P c.args.g.now c.out.new.g c.out-2.new.g two c.out-2.ensures.grows) c.out-3.ensures.grows

pub returns-clause-out : goal.returns-clause-out
returns-clause-out c =
    let P : Op → Type 0 = IsFlatOrOut c.args.c.depth in
    let g : Graph = c.args.g.now in
    let a : Graph = c.token_out.new.g in
    let b : Graph = c.out.new.g in
    let d : Graph = c.out-2.new.g in
    let e : Graph = c.out-3.new.g in
    let two : GrowsBy P g b = grows_by_then P g a b c.token_out.ensures.grows c.out.ensures.grows in
    let three : GrowsBy P g d = grows_by_then P g b d two c.out-2.ensures.grows in
    let from_b : GrowsBy P b e = grows_by_then P b d e c.out-2.ensures.grows c.out-3.ensures.grows in
    let from_a : GrowsBy P a e = grows_by_then P a b e c.out.ensures.grows from_b in
    record {
      token = token_later P a e from_a g c.args.c c.args.end.token c.in_ok-token.token (token_node_out g c.args.c c.args.end.token a c.in_ok-token.token c.in_ok-token.ensures.reads c.in_ok-token.ensures.sort);
      fault = node_later P b e from_b g c.args.c c.args.end.fault c.in_ok-fault.fault
          (node_sooner P g a c.token_out.ensures.grows c.args.c b c.args.end.fault c.in_ok-fault.fault (node_out a c.args.c c.args.end.fault b c.in_ok-fault.fault c.in_ok-fault.ensures.reads c.in_ok-fault.ensures.sort));
      result_is = node_later P d e c.out-3.ensures.grows g c.args.c c.args.end.result c.in_ok-result.result
          (node_sooner P g b two c.args.c d c.args.end.result c.in_ok-result.result (node_out b c.args.c c.args.end.result d c.in_ok-result.result c.in_ok-result.ensures.reads c.in_ok-result.ensures.sort));
      heap = node_sooner P g d three c.args.c e c.args.end.heap c.in_ok-heap.heap (node_out d c.args.c c.args.end.heap e c.in_ok-heap.heap c.in_ok-heap.ensures.reads c.in_ok-heap.ensures.sort);
    }

pub returns-clause-grows : goal.returns-clause-grows
returns-clause-grows c =
    let P : Op → Type 0 = IsFlatOrOut c.args.c.depth in
    let two : GrowsBy P c.args.g.now c.out.new.g = grows_by_then P c.args.g.now c.token_out.new.g c.out.new.g c.token_out.ensures.grows c.out.ensures.grows in
    grows_by_then P c.args.g.now c.out-2.new.g c.out-3.new.g (grows_by_then P c.args.g.now c.out.new.g c.out-2.new.g two c.out-2.ensures.grows) c.out-3.ensures.grows
