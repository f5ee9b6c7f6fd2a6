use Rattle.std.proofs.Common.{Ok, sym, subst}
use Rattle.pv_report.specs.declared.status.Status.{Status}
use Rattle.pv_links.specs.Composed.{Composed}
use Rattle.pv_links.specs.Made.{MadeFetched}
use Rattle.pv_links.proofs.composition.compose.Goals as goal

pub returns-in_ok-composed-in-Ok-clause-answer : goal.returns-in_ok-composed-in-Ok-clause-answer
returns-in_ok-composed-in-Ok-clause-answer c a b d x y h =
    let made : MadeFetched c.args.first.now c.args.second.now c.args.third.now c.args.one.now c.args.two.now (Ok c.in-Ok.text) = rw c.in-Ok.is at c.in_ok-text.ensures in
    let said = c.in_ok-composed-in-Ok.field-0 in
    subst (λ (s : Status). Composed a b d x y said.text.items s) (sym c.in_ok-composed-in-Ok.ensures.status) ((c.in-Ok.text.items, made a b d x y h), c.in_ok-composed-in-Ok.ensures.text)
