use Rattle.std.proofs.Common.{rules, ◌≡◌, Err}
use Rattle.pv_layout.proofs.Words.{HasEdges, MeetsShape}
use Rattle.pv_layout.proofs.Structures.{is_shape, too_many_blocks, deep}
use Rattle.pv_layout.proofs.structure.laid_out.Goals as goal

pub returns-in_err-flow : goal.returns-in_err-flow
returns-in_err-flow c =
    let same : c.from_residual.result ≡ Err c.in_err-flow.field-0.0 = search rules in
    rw same (too_many_blocks c.args.typed.now.program c.in_err-flow.field-0.0 c.in_err-flow.ensures)

pub reduce-requires : goal.reduce-requires
reduce-requires c =
    let edges : HasEdges c.args.typed.now.program c.in_ok-shape.shape = record { blocks = c.in_ok-flow.flow.blocks; flow = c.in_ok-flow.ensures.0; few = c.in_ok-flow.ensures.1; edges_are = c.in_ok-shape.ensures } in
    is_shape c.args.typed.now.program c.in_ok-shape.shape edges

pub returns-in-Err-Irreducible : goal.returns-in-Err-Irreducible
returns-in-Err-Irreducible c =
    let edges : HasEdges c.args.typed.now.program c.in_ok-shape.shape = record { blocks = c.in_ok-flow.flow.blocks; flow = c.in_ok-flow.ensures.0; few = c.in_ok-flow.ensures.1; edges_are = c.in_ok-shape.ensures } in
    rw c.met.ensures (MeetsShape.irreducible c.in_ok-shape.shape c.in-Err-Irreducible.field-0-0.items edges (rw c.in-Err-Irreducible.field-0-is at c.in-Err-Irreducible.ensures.irreducible))

pub returns-in-Err-Deep : goal.returns-in-Err-Deep
returns-in-Err-Deep c =
    let edges : HasEdges c.args.typed.now.program c.in_ok-shape.shape = record { blocks = c.in_ok-flow.flow.blocks; flow = c.in_ok-flow.ensures.0; few = c.in_ok-flow.ensures.1; edges_are = c.in_ok-shape.ensures } in
    rw c.met-in-Err-Deep.ensures (deep c.args.typed.now.program c.in_ok-shape.shape c.in-Err-Deep.field-0-0 edges (rw c.in-Err-Deep.field-0-is at c.in-Err-Deep.ensures.deep))
