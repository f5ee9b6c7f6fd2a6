use Rattle.std.proofs.Common.{rules}
use Rattle.pv_match.proofs.Looking.{finder_ready, answer_beside}
use Rattle.pv_match.proofs.all.rematch.Goals as goal

pub find_beside-requires : goal.find_beside-requires
find_beside-requires g c = (
  search rules,
  (
    search rules,
    finder_ready c.args.graph.now c.args.classes.now.numbers c.args.base.now c.args.table.now c.args.limit c.in_ok-lookups.lookups c.finder.result c.in_ok-lookups.ensures c.finder.ensures c.requires.readable,
  ),
)

pub returns : goal.returns
returns g c ends base can =
    answer_beside c.args.graph.now c.args.classes.now.numbers c.args.base.now c.args.table.now c.args.limit c.in_ok-lookups.lookups c.finder.result c.in_ok-lookups.ensures c.finder.ensures c.requires.congruence c.requires.readable c.requires.once ends base c.in_ok-answer.answer c.args.known.now
    c.args.touched.now can c.in_ok-answer.ensures
