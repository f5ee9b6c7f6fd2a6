use Rattle.std.proofs.Common.{Bool, List, sym, subst}
use Rattle.pv_witness.specs.Conditions.{AreStartsOver}
use Rattle.pv_witness.proofs.Starting.{are_starts}
use Rattle.pv_witness.proofs.Numbering.{numbered_graph}
use Rattle.pv_witness.proofs.marking.marks.Goals as goal

pub returns-clause-starts : goal.returns-clause-starts
returns-clause-starts c =
    subst (λ (xs : List Bool). AreStartsOver c.args.graph.now c.args.numbers.now c.args.assumed.now c.args.condition xs) (sym c.truncate.ensures.items)
    (are_starts c.args.graph.now c.args.numbers.now c.args.assumed.now c.args.condition c.in_ok-marks.marks.items
    (numbered_graph c.args.graph.now c.args.numbers.now c.len-count.ensures.graph c.requires.sealed c.requires.numbered) c.requires.numbered c.in_ok-marks.ensures)
