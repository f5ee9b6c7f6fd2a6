use Rattle.std.proofs.Common.{◌≡◌, refl}
use Rattle.pv_report.specs.declared.status.Status.TheVariants as status
use Rattle.pv_sections.proofs.Certifying.{certifies_fetched, no_text}
use Rattle.pv_sections.proofs.shown.show.Goals as goal

pub returns-clause-certificate : goal.returns-clause-certificate
returns-clause-certificate g c = certifies_fetched c.args.limits c.args.first.now c.args.second.now c.in_ok-answer.field-0.sections c.in_ok-certificate.certificate c.in_ok-answer.ensures.sections c.in_ok-certificate.ensures

pub returns-clause-none : goal.returns-clause-none
returns-clause-none g c =
    no_text c.args.first.now c.args.second.now c.in_ok-answer.field-0.sections c.in_ok-certificate.certificate (c.in_ok-answer.field-0.answer.status ≡ status.BadClass) c.in_ok-certificate.ensures (c.in_ok-answer.ensures.wanted refl)
