use Rattle.std.proofs.Common.{List, ap, sym, subst, refl, arith, Err, length}
use Rattle.pv_frame.proofs.Words.{AllZip, AllByRecursion, err_from_is_err_and, Placed, IsFormed, formed, IsCode, Action, is_instance, Does, Said, IsAnswer}
use Rattle.pv_frame.proofs.AnswerLaws.{said_only, typing_only, refused_only, has_bytes, early_refused, fault_answers, first_answers, few_actions, types_refused, typing_is}
use Rattle.pv_frame.proofs.inference.infer_method.Goals as goal

pub returns-in-Some-clause-exact : goal.returns-in-Some-clause-exact
returns-in-Some-clause-exact c = early_refused c.args.class.now c.args.method.now c.args.code.now c.args.bytes.now c.args.desc c.requires c.in-Some.kind c.in-Some.ensures

pub returns-in-Some-clause-only : goal.returns-in-Some-clause-only
returns-in-Some-clause-only c =
    refused_only c.args.class.now c.args.method.now _ (has_bytes c.args.class.now c.args.method.now c.args.code.now c.args.bytes.now c.args.desc c.requires (λ i. omega (arith, c.type_inv.bytes i))) (returns-in-Some-clause-exact c)

pub returns-in-Err-clause-exact : goal.returns-in-Err-clause-exact
returns-in-Err-clause-exact c =
    subst (λ r. Said (Err r) (IsAnswer c.args.class.now c.args.method.now)) (sym c.refused_for.ensures)
    (fault_answers c.args.class.now c.args.method.now c.args.code.now c.args.bytes.now c.args.desc c.requires c.in_default.ensures c.in-Err.fault c.in-Err.ensures.exact)

pub returns-in-Err-clause-only : goal.returns-in-Err-clause-only
returns-in-Err-clause-only c =
    said_only c.args.class.now c.args.method.now (Err c.refused_for.result) (has_bytes c.args.class.now c.args.method.now c.args.code.now c.args.bytes.now c.args.desc c.requires (λ i. omega (arith, c.type_inv.bytes i))) (returns-in-Err-clause-exact c)

pub acted-requires-clause-formed : goal.acted-requires-clause-formed
acted-requires-clause-formed c = subst (λ (l : List Placed). AllByRecursion (λ p. IsFormed p.insn) l) (sym c.as_slice.ensures) (formed c.args.bytes.now c.in-Ok.insns c.in-Ok.ensures.exact)

pub returns-in_err-uses-clause-exact : goal.returns-in_err-uses-clause-exact
returns-in_err-uses-clause-exact c =
    let p = err_from_is_err_and c.from_residual.result c.from_residual.ensures.1 in
    let spells = subst (IsCode c.args.bytes.now) (sym c.as_slice.ensures) c.in-Ok.ensures.exact in
    rw (p.1, p.2) (first_answers c.args.class.now c.args.method.now c.args.code.now c.args.bytes.now c.args.desc c.requires c.in_default.ensures c.as_slice.result.now (λ i. omega (arith, c.type_inv.bytes i)) spells c.in_err-uses.field-0.0 c.in_err-uses.ensures)

pub returns-in_err-uses-clause-only : goal.returns-in_err-uses-clause-only
returns-in_err-uses-clause-only c =
    said_only c.args.class.now c.args.method.now c.from_residual.result (has_bytes c.args.class.now c.args.method.now c.args.code.now c.args.bytes.now c.args.desc c.requires (λ i. omega (arith, c.type_inv.bytes i))) (returns-in_err-uses-clause-exact c)

pub frames_of-requires : goal.frames_of-requires
frames_of-requires c =
    let spells = subst (IsCode c.args.bytes.now) (sym c.as_slice.ensures) c.in-Ok.ensures.exact in
    omega (arith, ap length c.into.ensures, few_actions c.args.class.now c.args.method.now c.args.code.now c.args.bytes.now c.args.desc c.requires c.in_default.ensures c.as_slice.result.now (λ i. omega (arith, c.type_inv.bytes i)) spells c.in_ok-uses.uses.items c.in_ok-uses.actions.items c.in_ok-uses.ensures)

pub returns-in-Ok-frames_of-clause-exact : goal.returns-in-Ok-frames_of-clause-exact
returns-in-Ok-frames_of-clause-exact c =
    let spells = subst (IsCode c.args.bytes.now) (sym c.as_slice.ensures) c.in-Ok.ensures.exact in
    typing_is c.args.class.now c.args.method.now c.args.code.now c.args.bytes.now c.args.desc c.requires c.in_default.ensures c.as_slice.result.now (λ i. omega (arith, c.type_inv.bytes i)) spells _ (rw c.into-in-Ok-frames_of-2.ensures c.in-Ok-frames_of.ensures) (sym c.as_slice.ensures)
    (rw (c.into-in-Ok-frames_of.ensures, c.into.ensures) c.in_ok-uses.ensures) refl refl refl refl

pub returns-in-Ok-frames_of-clause-only : goal.returns-in-Ok-frames_of-clause-only
returns-in-Ok-frames_of-clause-only c =
    typing_only c.args.class.now c.args.method.now _ (has_bytes c.args.class.now c.args.method.now c.args.code.now c.args.bytes.now c.args.desc c.requires (λ i. omega (arith, c.type_inv.bytes i))) (returns-in-Ok-frames_of-clause-exact c)

pub returns-in-Err-Types-clause-exact : goal.returns-in-Err-Types-clause-exact
returns-in-Err-Types-clause-exact c =
    let spells = subst (IsCode c.args.bytes.now) (sym c.as_slice.ensures) c.in-Ok.ensures.exact in
    let acting = subst (λ (l : List Action). AllZip (Does c.args.class.now.pool) c.as_slice.result.now l) (sym c.into.ensures) c.in_ok-uses.ensures.acts in
    types_refused c.args.class.now c.args.method.now c.args.code.now c.args.bytes.now c.args.desc c.requires c.in_default.ensures c.as_slice.result.now (λ i. omega (arith, c.type_inv.bytes i)) spells
    (record { actions = c.into.result; instance = is_instance c.args.method.now.flags; desc = c.args.desc; max_stack = c.args.code.now.max_stack; max_locals = c.args.code.now.max_locals }) (rw c.in-Err-Types.field-0-is at c.in-Err-Types.ensures) acting refl refl refl refl

pub returns-in-Err-Types-clause-only : goal.returns-in-Err-Types-clause-only
returns-in-Err-Types-clause-only c =
    refused_only c.args.class.now c.args.method.now _ (has_bytes c.args.class.now c.args.method.now c.args.code.now c.args.bytes.now c.args.desc c.requires (λ i. omega (arith, c.type_inv.bytes i))) (returns-in-Err-Types-clause-exact c)
