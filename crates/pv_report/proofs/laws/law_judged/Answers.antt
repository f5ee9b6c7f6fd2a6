use Rattle.pv_report.proofs.ReportOnce.{judged_once}
use Rattle.pv_report.proofs.laws.law_judged.Goals as goal

pub returns : goal.returns
returns c = judged_once
