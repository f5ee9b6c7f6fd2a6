use Rattle.std.proofs.Common.{refl}
use Rattle.pv_build.proofs.Outgoing.{node_out, unknown_out, cell_out_of}
use Rattle.pv_build.proofs.taking.cell_out.Goals as goal

pub returns-in-Unknown-clause-out : goal.returns-in-Unknown-clause-out
returns-in-Unknown-clause-out c = unknown_out c.args.g.now c.args.c c.args.cell c.in-Unknown.is

pub returns-in_ok-node-in-Int-clause-out : goal.returns-in_ok-node-in-Int-clause-out
returns-in_ok-node-in-Int-clause-out c =
    cell_out_of c.args.g.now c.args.c c.out.new.g c.args.cell (record { sort = c.args.cell.sort; node = c.in_ok-node-in-Int.node }) refl
    (node_out c.args.g.now c.args.c c.args.cell.node c.out.new.g c.in_ok-node-in-Int.node c.in_ok-node-in-Int.ensures.reads c.in_ok-node-in-Int.ensures.sort)
