use Rattle.std.proofs.lemmas.Result.{err_from_is_err_and}
use Rattle.pv_draw.specs.declared.top.Fault.TheVariants as fault
use Rattle.pv_draw.specs.Reading.{request_of}
use Rattle.pv_draw.proofs.Fetching.{both_asked, first_unanswered, second_unanswered, some_asked}
use Rattle.pv_draw.proofs.top.answer_for.Goals as goal

pub returns-in_err-first-clause-asked : goal.returns-in_err-first-clause-asked
returns-in_err-first-clause-asked g c =
    let held = g.F.Files.held c.args.files.now in
    let r = request_of c.args.given c.args.signature.now in
    let p = err_from_is_err_and c.from_residual.result c.from_residual.ensures.1 in
    some_asked held r _ _ c.from_residual.result p.0 c.in_err-first.field-0.0 p.1 p.2 (first_unanswered held r _ _ c.in_err-first.field-0.0 c.in_err-first.ensures.asked)

pub returns-in_err-second-clause-asked : goal.returns-in_err-second-clause-asked
returns-in_err-second-clause-asked g c =
    let held = g.F.Files.held c.args.files.now in
    let r = request_of c.args.given c.args.signature.now in
    let p = err_from_is_err_and c.from_residual-in_err-second.result c.from_residual-in_err-second.ensures.1 in
    let content = c.in_ok-first.ensures.content in
    some_asked held r _ _ c.from_residual-in_err-second.result p.0 c.in_err-second.field-0.0 p.1 p.2
    (second_unanswered held r _ _ _ c.in_err-second.field-0.0 (content.0, content.1) c.in_ok-first.ensures.asked c.in_err-second.ensures.asked)

pub returns-in_err-draw-clause-asked : goal.returns-in_err-draw-clause-asked
returns-in_err-draw-clause-asked g c =
    let held = g.F.Files.held c.args.files.now in
    let r = request_of c.args.given c.args.signature.now in
    let p = err_from_is_err_and c.from_residual-in_err-draw.result c.from_residual-in_err-draw.ensures.1 in
    some_asked held r _ _ c.from_residual-in_err-draw.result p.0 fault.Memory p.1 p.2 (2, both_asked r _ _ _ c.in_ok-first.ensures.asked c.in_ok-second.ensures.asked)
