use Rattle.pv_match.specs.All.{AreMatchesOf}
use Rattle.pv_match.specs.Gathering.{AreTooMany}
use Rattle.pv_match.proofs.Beside.{finds_all_over, finds_beside}
use Rattle.pv_match.proofs.Parts.{on_true, on_false}
use Rattle.pv_match.proofs.together.beside_known.Goals as goal

pub returns-then-got-clause-found : goal.returns-then-got-clause-found
returns-then-got-clause-found c g assumed table items readable can finds =
    let list = c.args.got.list.items in
    finds_all_over g c.args.numbers.now assumed table c.args.limit c.args.got.is_over list c.if-got.true (on_true c.args.got.is_over (AreTooMany g c.args.numbers.now assumed table c.args.limit list) c.if-got.true finds.0)

pub returns-clause-found : goal.returns-clause-found
returns-clause-found c g assumed table items readable can finds =
    let numbers = c.args.numbers.now in
    let list = c.args.got.list.items in
    finds_beside g numbers assumed table c.args.limit readable c.args.known.now items can list c.in_ok-more.more.items c.in_ok-all.all.list.items (on_false c.args.got.is_over (AreMatchesOf g numbers assumed table items list) c.if-got.false finds.1) c.in_ok-more.ensures.renumbered c.in_ok-all.all.is_over c.in_ok-all.ensures.over c.in_ok-all.ensures.all
