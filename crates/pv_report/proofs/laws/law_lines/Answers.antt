use Rattle.pv_report.proofs.LineWords.{lines_name}
use Rattle.pv_report.proofs.laws.law_lines.Goals as goal

pub returns : goal.returns
returns c = lines_name
