use Rattle.std.proofs.Common.{List, [], ◌∷◌, ◌++◌, get_or, take, take_all, append-nil, append_assoc, sym, ap, ◌∙◌}
use Rattle.pv_build.proofs.Words.{JType, Op, param_ops, this_ops}
use Rattle.pv_value.specs.declared.descriptor.JType.TheVariants as jtype
use Rattle.pv_build.proofs.Started.{passed_is, params_more}
use Rattle.pv_build.proofs.starting.passed.Goals as goal

pub loop-j-init : goal.loop-j-init
loop-j-init c = c.in_ok-ops.ensures ∙ sym (append-nil (this_ops c.args.program.now.instance))

pub loop-j-preserved : goal.loop-j-preserved
loop-j-preserved c =
    let this : List Op = this_ops c.args.program.now.instance in
    let types : List JType = c.as_slice-t-items.result.now in
    let next : List Op = param_ops c.loop-j.j (get_or types c.loop-j.j jtype.Z ∷ []) in
    c.in_ok-push_param.ensures ∙ ap (λ (os : List Op). os ++ next) c.loop-j.invariant
    ∙ append_assoc this (param_ops 0 (take c.loop-j.j types)) next
    ∙ ap (λ (os : List Op). this ++ os) (sym (params_more types c.loop-j.j jtype.Z c.loop-j-test.true))

pub returns : goal.returns
returns c =
    let types : List JType = c.as_slice-t-items.result.now in
    c.loop-j.invariant
    ∙ ap (λ (ts : List JType). this_ops c.args.program.now.instance ++ param_ops 0 ts) (take_all c.loop-j.j types c.loop-j-test.false ∙ c.as_slice-t-items.ensures)
    ∙ passed_is c.args.program.now.instance c.args.program.now.desc.params
