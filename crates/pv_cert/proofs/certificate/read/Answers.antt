use Rattle.std.proofs.Common.{Err, ap}
use Rattle.pv_format.specs.Seen.{texts}
use Rattle.pv_cert.specs.declared.cert.CertFault.TheVariants as fault
use Rattle.pv_cert.specs.Certificates.{read_all}
use Rattle.pv_cert.proofs.ReadSteps.{answers, tells, whole_gives, lines_there, lines_gone}
use Rattle.pv_cert.proofs.certificate.read.Goals as goal

pub returns-in-Ok-Some-clause-exact : goal.returns-in-Ok-Some-clause-exact
returns-in-Ok-Some-clause-exact c =
    answers c.args.version c.args.bytes.now c.of_lines.result
    (whole_gives c.args.version c.args.bytes.now (texts c.deref.result.now) c.of_lines.result (lines_there c.in-Ok-Some.field-0 c.in-Ok-Some.lines c.deref.result.now _ c.in-Ok-Some.field-0-is c.in-Ok-Some.ensures c.deref.ensures.value) c.of_lines.ensures)

pub returns-in-Ok-Some-clause-only : goal.returns-in-Ok-Some-clause-only
returns-in-Ok-Some-clause-only c =
    tells c.args.version c.args.bytes.now c.of_lines.result
    (whole_gives c.args.version c.args.bytes.now (texts c.deref.result.now) c.of_lines.result (lines_there c.in-Ok-Some.field-0 c.in-Ok-Some.lines c.deref.result.now _ c.in-Ok-Some.field-0-is c.in-Ok-Some.ensures c.deref.ensures.value) c.of_lines.ensures)

pub returns-in-Ok-None-clause-exact : goal.returns-in-Ok-None-clause-exact
returns-in-Ok-None-clause-exact c = answers c.args.version c.args.bytes.now (Err fault.Truncated) (ap (read_all c.args.version) (lines_gone c.in-Ok-None.field-0 _ c.in-Ok-None.field-0-is c.in-Ok-None.ensures))

pub returns-in-Ok-None-clause-only : goal.returns-in-Ok-None-clause-only
returns-in-Ok-None-clause-only c = tells c.args.version c.args.bytes.now (Err fault.Truncated) (ap (read_all c.args.version) (lines_gone c.in-Ok-None.field-0 _ c.in-Ok-None.field-0-is c.in-Ok-None.ensures))
