use Rattle.std.proofs.Common.{sym, subst}
use Rattle.pv_build.proofs.Words.{Program, IsAccepted, IsLaidOut}
use Rattle.pv_build.proofs.Laid.{is_routine, is_root}
use Rattle.pv_build.proofs.conversion.convert.Goals as goal

pub laid_out-requires : goal.laid_out-requires
laid_out-requires c = (c.in_ok-typed.ensures.exact c.requires.code.method c.requires.code.there).inferred.well_typed

pub needed-requires : goal.needed-requires
needed-requires c = (c.in_ok-typed.ensures.exact c.requires.code.method c.requires.code.there).inferred

pub build-requires-clause-routine : goal.build-requires-clause-routine
build-requires-clause-routine c =
    let t = c.in_ok-typed.ensures.exact c.requires.code.method c.requires.code.there in
    let l = c.in_ok-flow.field-0 in
    let n = c.in_ok-live in
    is_routine c.args.class.now c.requires.code.method n.live.program n.live.frames l.flow.blocks l.forest (subst (IsAccepted c.args.class.now c.requires.code.method) (sym n.ensures.program) t.accepted) n.ensures.needed
    (subst (λ (p : Program). IsLaidOut p l.flow.blocks l.forest) (sym n.ensures.program) c.in_ok-flow.ensures)

pub returns-clause-converted : goal.returns-clause-converted
returns-clause-converted c m at =
    let t = c.in_ok-typed.ensures.exact m at in
    let l = c.in_ok-flow.field-0 in
    let n = c.in_ok-live in
    is_root c.args.class.now m n.live.program n.live.frames l.flow.blocks l.forest (subst (IsAccepted c.args.class.now m) (sym n.ensures.program) t.accepted) n.ensures.needed
    (subst (λ (p : Program). IsLaidOut p l.flow.blocks l.forest) (sym n.ensures.program) c.in_ok-flow.ensures) c.build.new.g c.in_ok-build.field-0 c.in_ok-build.ensures.root
