use Rattle.std.proofs.Common.{take, get_or}
use Rattle.std.proofs.lemmas.List.{take_more}
use Rattle.pv_graph.proofs.Cited.{in_at}
use Rattle.pv_witness.proofs.Copies.{chosen_more}
use Rattle.pv_witness.proofs.making.all_chosen.Goals as goal

pub chosen-requires-clause-there : goal.chosen-requires-clause-there
chosen-requires-clause-there c = c.requires.kids _ (in_at c.args.kids.now c.loop-kid.kid-index 0 c.loop-kid-test.true)

pub chosen-requires-clause-class : goal.chosen-requires-clause-class
chosen-requires-clause-class c = c.requires.numbers _ (in_at c.args.kids.now c.loop-kid.kid-index 0 c.loop-kid-test.true)

pub loop-kid-preserved : goal.loop-kid-preserved
loop-kid-preserved c =
    let kid = get_or c.args.kids.now c.loop-kid.kid-index 0 in
    rw (take_more c.args.kids.now c.loop-kid.kid-index 0 c.loop-kid-test.true, c.in_ok-push.ensures.items)
    (chosen_more c.args.numbers.now c.args.table.now (take c.loop-kid.kid-index c.args.kids.now) c.loop-kid.nodes.items kid c.chosen.result c.loop-kid.invariant c.chosen.ensures)
