use Rattle.std.proofs.Common.{ℕ, List, Err, [], false, take, get_or, sym, ap, subst, ◌∙◌, arith}
use Rattle.std.proofs.lemmas.List.{take_more, take_all}
use Rattle.pv_graph.specs.declared.fault.GraphFault.{GraphFault}
use Rattle.pv_graph.specs.declared.node.Op.TheVariants as op
use Rattle.pv_graph.specs.declared.node.OpSort.TheVariants.{I}
use Rattle.pv_graph.specs.Calls.{Added}
use Rattle.pv_steps.specs.declared.step.Var.{Var}
use Rattle.pv_lemmas.proofs.Starting.{IsStarted, variable_fits, started_more, sealed_if}
use Rattle.pv_lemmas.proofs.vars.variables_graph.Goals as goal

pub unreachable-requires : goal.unreachable-requires
unreachable-requires c = c.add.ensures.sort (c.in-Err-Sort.is ∙ ap (λ (f : GraphFault). Err f) c.in-Err-Sort.field-0-is) (variable_fits c.loop-var.graph c.len-j.result (get_or c.args.vars.now c.loop-var.var-index (record { sort = I; settled = false })).sort)

pub loop-var-preserved : goal.loop-var-preserved
loop-var-preserved c =
    let v : Var = get_or c.args.vars.now c.loop-var.var-index (record { sort = I; settled = false }) in
    subst (λ (vs : List Var). IsStarted vs c.add.new.self) (sym (take_more c.args.vars.now c.loop-var.var-index (record { sort = I; settled = false }) (omega (arith, c.loop-var-test.true))))
    (started_more (take c.loop-var.var-index c.args.vars.now) v c.loop-var.graph c.add.new.self c.in-Ok.field-0 c.loop-var.invariant
    (subst (λ (j : ℕ). Added c.loop-var.graph c.add.new.self (op.Var j v.sort) [] c.in-Ok.field-0) c.len-j.ensures.len c.in-Ok.ensures.ok))

pub returns : goal.returns
returns c =
    let started = subst (λ (vs : List Var). IsStarted vs c.loop-var.graph) (take_all c.loop-var.var-index c.args.vars.now (omega (arith, c.loop-var-test.false))) c.loop-var.invariant in
    sealed_if c.args.vars.now c.loop-var.graph c.seal.new.self started c.seal.result c.seal.ensures.sealed c.seal.ensures.no
