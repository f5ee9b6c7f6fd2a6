use Rattle.std.proofs.Common.{refl}
use Rattle.pv_links.proofs.Reported.{all_ruled, bad_file, bad_names, bad_text}
use Rattle.pv_links.proofs.report.check_chain.Goals as goal

pub returns-in-Err : goal.returns-in-Err
returns-in-Err g c =
    let said = c.in_ok-bad_class-in-Err.field-0 in
    bad_file c.args.first.now c.args.last.now c.args.chain.now c.in-Err.bad said.text.items said.status (rw c.in-Err.is at c.in_ok-pair.ensures.reads) c.in_ok-bad_class-in-Err.ensures.text c.in_ok-bad_class-in-Err.ensures.status

pub returns-in-Err-2 : goal.returns-in-Err-2
returns-in-Err-2 g c =
    let said = c.in_ok-bad_chain-in-Err-2.field-0 in
    bad_text c.args.first.now c.args.last.now c.args.chain.now c.in-Ok.pair c.in-Err-2.flaw said.text.items said.status (rw c.in-Ok.is at c.in_ok-pair.ensures.reads) (rw c.in-Err-2.is at c.in_ok-chain.ensures.reads) c.in_ok-bad_chain-in-Err-2.ensures.text c.in_ok-bad_chain-in-Err-2.ensures.status

pub returns-then-not-is_between : goal.returns-then-not-is_between
returns-then-not-is_between g c =
    let said = c.in_ok-bad_chain.field-0 in
    bad_names c.args.first.now c.args.last.now c.args.chain.now c.in-Ok.pair c.in-Ok-2.chain c.bytes_of.result.now c.bytes_of-2.result.now said.text.items said.status (rw c.in-Ok.is at c.in_ok-pair.ensures.reads) (rw c.in-Ok-2.is at c.in_ok-chain.ensures.reads) c.bytes_of.ensures c.bytes_of-2.ensures
    (λ between. let no = c.if-not-is_between.ensures.1 between in absurd (cc no)) c.in_ok-bad_chain.ensures.text c.in_ok-bad_chain.ensures.status

pub returns : goal.returns
returns g c =
    all_ruled c.args.first.now c.args.last.now c.args.chain.now c.in-Ok.pair c.in-Ok-2.chain c.bytes_of.result.now c.bytes_of-2.result.now c.report_on.result (rw c.in-Ok.is at c.in_ok-pair.ensures.reads) (rw c.in-Ok-2.is at c.in_ok-chain.ensures.reads) c.bytes_of.ensures c.bytes_of-2.ensures
    (c.if-not-is_between.ensures.0 refl) c.report_on.ensures
