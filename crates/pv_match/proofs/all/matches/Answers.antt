use Rattle.std.proofs.Common.{ℕ, List, subst, rules}
use Rattle.pv_match.specs.Finding.{HasFound}
use Rattle.pv_match.proofs.Looking.{finder_ready, answer_at}
use Rattle.pv_match.proofs.all.matches.Goals as goal

pub find-requires : goal.find-requires
find-requires g c = (
  search rules,
  (
    search rules,
    finder_ready c.args.graph.now c.args.classes.now.numbers c.args.base.now c.args.table.now c.args.limit c.in_ok-lookups.lookups c.finder.result c.in_ok-lookups.ensures c.finder.ensures c.requires.readable,
  ),
)

pub returns : goal.returns
returns g c ends base =
    answer_at c.args.graph.now c.args.classes.now.numbers c.args.base.now c.args.table.now c.args.limit c.in_ok-lookups.lookups c.finder.result c.in_ok-lookups.ensures c.finder.ensures c.requires.congruence c.requires.readable c.requires.once ends base c.in_ok-answer.answer c.deref.result.now
    c.deref-2.result.now c.in_ok-items.items.items c.deref.ensures.value c.deref-2.ensures.value (c.in_ok-items.ensures c.args.graph.now.nodes c.requires.knows)
    (subst (λ (is : List ℕ). HasFound c.finder.result is c.in_ok-answer.answer) c.deref-3.ensures.value c.in_ok-answer.ensures)
