use Rattle.pv_draw.proofs.Answering.{bad_file, draws, lacks}
use Rattle.pv_draw.proofs.answer.draw.Goals as goal

pub returns-in-Err : goal.returns-in-Err
returns-in-Err c =
    let said = c.in_ok-bad_class-in-Err.field-0 in
    bad_file c.args.form c.args.signature.now c.args.first.now c.args.second.now c.in-Err.bad said.text.items said.status (rw c.in-Err.is at c.in_ok-pair.ensures.reads) c.in_ok-bad_class-in-Err.ensures.text c.in_ok-bad_class-in-Err.ensures.status

pub returns-in-Ok-2 : goal.returns-in-Ok-2
returns-in-Ok-2 c = draws c.args.form c.args.signature.now c.args.first.now c.args.second.now c.in-Ok.pair c.in-Ok-2.least _ (rw c.in-Ok.is at c.in_ok-pair.ensures.reads) (rw c.in-Ok-2.is at c.in_ok-least.ensures) c.in_ok-drawing-in-Ok-2.ensures

pub returns : goal.returns
returns c = lacks c.args.form c.args.signature.now c.args.first.now c.args.second.now c.in-Ok.pair c.in-Err-2.verdict _ (rw c.in-Ok.is at c.in_ok-pair.ensures.reads) (rw c.in-Err-2.is at c.in_ok-least.ensures) c.in_ok-line-in-Err-2.ensures
