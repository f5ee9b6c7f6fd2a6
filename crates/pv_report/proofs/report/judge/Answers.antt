use Rattle.std.proofs.Common.{subst}
use Rattle.std.specs.List.{AllZip}
use Rattle.pv_report.specs.declared.verdict.Detail.{Detail}
use Rattle.pv_report.specs.Options.{options_of}
use Rattle.pv_report.specs.Verdicts.{IsVerdict}
use Rattle.pv_report.proofs.Judgements.{bad_file, judges, report_status, shows, wanted_show}
use Rattle.pv_report.proofs.Lists.{zip_length}
use Rattle.pv_report.proofs.report.judge.Goals as goal

pub returns-in-Err-clause-answer : goal.returns-in-Err-clause-answer
returns-in-Err-clause-answer g c =
    let said = c.in_ok-answer-in-Err.answer in
    bad_file (options_of c.args.limits c.args.detail) c.args.first.now c.args.second.now c.in-Err.bad said.text.items said.status (rw c.in-Err.is at c.in_ok-pair.ensures.reads) c.in_ok-answer-in-Err.ensures.text c.in_ok-answer-in-Err.ensures.status

pub answer_of-requires : goal.answer_of-requires
answer_of-requires g c = rw (c.deref.ensures.value, c.as_slice.ensures) (zip_length (IsVerdict (options_of c.args.limits c.args.detail) c.in-Ok.pair.first c.in-Ok.pair.second) c.in-Ok.pair.first.methods c.in_ok-judgements.judgements.verdicts.items c.in_ok-judgements.ensures.verdicts)

pub returns-clause-answer : goal.returns-clause-answer
returns-clause-answer g c =
    judges (options_of c.args.limits c.args.detail) c.args.first.now c.args.second.now c.in-Ok.pair c.in_ok-judgements.judgements.verdicts.items c.in_ok-answer.answer.text.items c.in_ok-answer.answer.status (rw c.in-Ok.is at c.in_ok-pair.ensures.reads) c.in_ok-judgements.ensures.verdicts
    (rw (c.deref.ensures.value, c.as_slice.ensures) at c.in_ok-answer.ensures.text) (rw c.deref.ensures.value at c.in_ok-answer.ensures.status)

pub returns-clause-sections : goal.returns-clause-sections
returns-clause-sections g c =
    wanted_show c.args.detail c.args.limits c.args.first.now c.args.second.now c.in_ok-judgements.judgements.sections.items c.wanted_sections.result c.wanted_sections.ensures.wanted c.wanted_sections.ensures.unwanted
    (λ wanted. shows c.args.limits c.args.first.now c.args.second.now c.in-Ok.pair c.in_ok-judgements.judgements.verdicts.items c.in_ok-judgements.judgements.sections.items (rw c.in-Ok.is at c.in_ok-pair.ensures.reads)
    (subst (λ (d : Detail). AllZip (IsVerdict (options_of c.args.limits d) c.in-Ok.pair.first c.in-Ok.pair.second) c.in-Ok.pair.first.methods c.in_ok-judgements.judgements.verdicts.items) wanted c.in_ok-judgements.ensures.verdicts)
    (c.in_ok-judgements.ensures.sections wanted))

pub returns-clause-wanted : goal.returns-clause-wanted
returns-clause-wanted g c wanted = (λ none. absurd (let some = c.wanted_sections.ensures.wanted wanted in cc (none, some)), λ bad. absurd (report_status c.in_ok-judgements.judgements.verdicts.items c.in_ok-answer.answer.status (rw c.deref.ensures.value at c.in_ok-answer.ensures.status) bad))
