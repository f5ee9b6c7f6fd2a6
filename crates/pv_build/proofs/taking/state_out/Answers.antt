use Rattle.std.proofs.Common.{List, sym, subst}
use Rattle.pv_build.proofs.Words.{Op, Graph, IsFlatOrOut, GrowsBy, grows_by_then, Cell, AreSorted, AreCellsOut}
use Rattle.pv_build.proofs.Outgoing.{loop_grown, sorted_grown, node_out, token_node_out, node_later, node_sooner, token_later, cells_later, cells_sooner}
use Rattle.pv_build.proofs.taking.state_out.Goals as goal

pub returns-in_err-heap-clause-grows : goal.returns-in_err-heap-clause-grows
returns-in_err-heap-clause-grows c = grows_by_then (IsFlatOrOut c.args.c.depth) c.args.g.now c.token_out.new.g c.out.new.g c.token_out.ensures.grows c.out.ensures.grows

pub cells_out-requires-clause-closed : goal.cells_out-requires-clause-closed
cells_out-requires-clause-closed c =
    let P : Op → Type 0 = IsFlatOrOut c.args.c.depth in
    loop_grown P c.args.g.now c.out.new.g (grows_by_then P c.args.g.now c.token_out.new.g c.out.new.g c.token_out.ensures.grows c.out.ensures.grows) c.args.c c.requires.closed

pub cells_out-requires-clause-sorted : goal.cells_out-requires-clause-sorted
cells_out-requires-clause-sorted c =
    let P : Op → Type 0 = IsFlatOrOut c.args.c.depth in
    subst (AreSorted c.out.new.g) (sym c.as_slice.ensures)
    (sorted_grown P c.args.g.now c.out.new.g (grows_by_then P c.args.g.now c.token_out.new.g c.out.new.g c.token_out.ensures.grows c.out.ensures.grows) c.args.state.now.locals c.requires.sorted.locals)

pub returns-in_err-locals-clause-grows : goal.returns-in_err-locals-clause-grows
returns-in_err-locals-clause-grows c =
    let P : Op → Type 0 = IsFlatOrOut c.args.c.depth in
    grows_by_then P c.args.g.now c.out.new.g c.cells_out.new.g (grows_by_then P c.args.g.now c.token_out.new.g c.out.new.g c.token_out.ensures.grows c.out.ensures.grows) c.cells_out.ensures.grows

pub cells_out-requires-2-clause-closed : goal.cells_out-requires-2-clause-closed
cells_out-requires-2-clause-closed c =
    let P : Op → Type 0 = IsFlatOrOut c.args.c.depth in
    let two : GrowsBy P c.args.g.now c.out.new.g = grows_by_then P c.args.g.now c.token_out.new.g c.out.new.g c.token_out.ensures.grows c.out.ensures.grows in
    loop_grown P c.args.g.now c.cells_out.new.g (grows_by_then P c.args.g.now c.out.new.g c.cells_out.new.g two c.cells_out.ensures.grows) c.args.c c.requires.closed

pub cells_out-requires-2-clause-sorted : goal.cells_out-requires-2-clause-sorted
cells_out-requires-2-clause-sorted c =
    let P : Op → Type 0 = IsFlatOrOut c.args.c.depth in
    let two : GrowsBy P c.args.g.now c.out.new.g = grows_by_then P c.args.g.now c.token_out.new.g c.out.new.g c.token_out.ensures.grows c.out.ensures.grows in
    subst (AreSorted c.cells_out.new.g) (sym c.as_slice-2.ensures)
    (sorted_grown P c.args.g.now c.cells_out.new.g (grows_by_then P c.args.g.now c.out.new.g c.cells_out.new.g two c.cells_out.ensures.grows) c.args.state.now.stack c.requires.sorted.stack)

pub returns-in_err-stack-clause-grows : goal.returns-in_err-stack-clause-grows
returns-in_err-stack-clause-grows c =
    let P : Op → Type 0 = IsFlatOrOut c.args.c.depth in
    let two : GrowsBy P c.args.g.now c.out.new.g = grows_by_then P c.args.g.now c.token_out.new.g c.out.new.g c.token_out.ensures.grows c.out.ensures.grows in
    grows_by_then P c.args.g.now c.cells_out.new.g c.cells_out-2.new.g (grows_by_then P c.args.g.now c.out.new.g c.cells_out.new.g two c.cells_out.ensures.grows) c.cells_out-2.ensures.grows

pub returns-clause-out : goal.returns-clause-out
returns-clause-out c =
    let P : Op → Type 0 = IsFlatOrOut c.args.c.depth in
    let g : Graph = c.args.g.now in
    let a : Graph = c.token_out.new.g in
    let b : Graph = c.out.new.g in
    let d : Graph = c.cells_out.new.g in
    let e : Graph = c.cells_out-2.new.g in
    let two : GrowsBy P g b = grows_by_then P g a b c.token_out.ensures.grows c.out.ensures.grows in
    let three : GrowsBy P g d = grows_by_then P g b d two c.cells_out.ensures.grows in
    let from_b : GrowsBy P b e = grows_by_then P b d e c.cells_out.ensures.grows c.cells_out-2.ensures.grows in
    let from_a : GrowsBy P a e = grows_by_then P a b e c.out.ensures.grows from_b in
    let locals : AreCellsOut b c.args.c c.args.state.now.locals d c.in_ok-locals.locals.items =
    subst (λ (xs : List Cell). AreCellsOut b c.args.c xs d c.in_ok-locals.locals.items) c.as_slice.ensures c.in_ok-locals.ensures.out in
    let stack : AreCellsOut d c.args.c c.args.state.now.stack e c.in_ok-stack.stack.items =
    subst (λ (xs : List Cell). AreCellsOut d c.args.c xs e c.in_ok-stack.stack.items) c.as_slice-2.ensures c.in_ok-stack.ensures.out in
    record {
      token = token_later P a e from_a g c.args.c c.args.state.now.token c.in_ok-token.token (token_node_out g c.args.c c.args.state.now.token a c.in_ok-token.token c.in_ok-token.ensures.reads c.in_ok-token.ensures.sort);
      heap = node_later P b e from_b g c.args.c c.args.state.now.heap c.in_ok-heap.heap
          (node_sooner P g a c.token_out.ensures.grows c.args.c b c.args.state.now.heap c.in_ok-heap.heap (node_out a c.args.c c.args.state.now.heap b c.in_ok-heap.heap c.in_ok-heap.ensures.reads c.in_ok-heap.ensures.sort));
      locals = subst (AreCellsOut g c.args.c c.args.state.now.locals e) (sym c.into-2.ensures)
          (cells_later P d e c.cells_out-2.ensures.grows g c.args.c c.args.state.now.locals c.in_ok-locals.locals.items (cells_sooner P g b two c.args.c d c.args.state.now.locals c.in_ok-locals.locals.items locals));
      stack = subst (AreCellsOut g c.args.c c.args.state.now.stack e) (sym c.into.ensures) (cells_sooner P g d three c.args.c e c.args.state.now.stack c.in_ok-stack.stack.items stack);
    }

pub returns-clause-grows : goal.returns-clause-grows
returns-clause-grows c =
    let P : Op → Type 0 = IsFlatOrOut c.args.c.depth in
    let two : GrowsBy P c.args.g.now c.out.new.g = grows_by_then P c.args.g.now c.token_out.new.g c.out.new.g c.token_out.ensures.grows c.out.ensures.grows in
    grows_by_then P c.args.g.now c.cells_out.new.g c.cells_out-2.new.g (grows_by_then P c.args.g.now c.out.new.g c.cells_out.new.g two c.cells_out.ensures.grows) c.cells_out-2.ensures.grows
