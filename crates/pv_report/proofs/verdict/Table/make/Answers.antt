use Rattle.pv_report.proofs.verdict.Table.make.Goals as goal

pub returns-in-Some : goal.returns-in-Some
returns-in-Some c = (_, c.in-Some.is, c.requires _ c.in-Some.is)
