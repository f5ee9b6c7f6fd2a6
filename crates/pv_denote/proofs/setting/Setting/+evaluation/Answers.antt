use Rattle.std.specs.Prelude.{ℕ, ◌-◌, Some, refl}
use Rattle.std.proofs.Common.{sym, ap, ◌∙◌, subst, arith, rules, get_or}
use Rattle.std.specs.List.{AllByRecursion}
use Rattle.std.proofs.lemmas.List.{drop_all}
use Rattle.pv_graph.specs.declared.node.Op.TheVariants as op
use Rattle.pv_graph.specs.Graphs.{form_at}
use Rattle.pv_denote.specs.Denote.{values}
use Rattle.pv_denote.specs.Meaning.{index_of}
use Rattle.pv_denote.specs.Given.{Stops, IsSmall, value_of}
use Rattle.pv_denote.proofs.Evaluating.{may_kid, may_kids, depths, den_none, value_gives, plain_shape, each_value, kid_is, values_small, counted, theta_gives, eval_gives, shift_gives, pass_looks, look_yes, look_next, look_stops, truth_stops, look_none}
use Rattle.pv_denote.proofs.Readings.{rest_init, rest_step, rest_stop, rest_end}
use Rattle.pv_denote.proofs.setting.Setting.+evaluation.Goals as goal

pub value-returns-then-fuel-eq0 : goal.value-returns-then-fuel-eq0
value-returns-then-fuel-eq0 t c = den_none _ _ _ c.args.fuel c.args.n _ c.if-fuel-eq0.true

pub value-phi-requires : goal.value-phi-requires
value-phi-requires t c = (omega arith, may_kids _ _ _ c.args.fuel c.node-node.result.now _ c.requires c.node-node.ensures c.if-fuel-eq0.false c.as_slice-kids.ensures)

pub value-root-requires : goal.value-root-requires
value-root-requires t c = (omega arith, may_kids _ _ _ c.args.fuel c.node-node.result.now _ c.requires c.node-node.ensures c.if-fuel-eq0.false c.as_slice-kids.ensures)

pub value-theta-requires : goal.value-theta-requires
value-theta-requires t c = (
  omega arith,
  (
    may_kids _ _ _ c.args.fuel c.node-node.result.now _ c.requires c.node-node.ensures c.if-fuel-eq0.false c.as_slice-kids.ensures,
    depths _ _ _ _ c.node-node.result.now (op.Theta c.in-Theta.depth) c.requires c.node-node.ensures c.in-Theta.is,
  ),
)

pub value-eval-requires : goal.value-eval-requires
value-eval-requires t c = (
  omega arith,
  (
    may_kids _ _ _ c.args.fuel c.node-node.result.now _ c.requires c.node-node.ensures c.if-fuel-eq0.false c.as_slice-kids.ensures,
    depths _ _ _ _ c.node-node.result.now (op.Eval c.in-Eval.depth) c.requires c.node-node.ensures c.in-Eval.is,
  ),
)

pub value-pass-requires : goal.value-pass-requires
value-pass-requires t c = (
  omega arith,
  (
    may_kids _ _ _ c.args.fuel c.node-node.result.now _ c.requires c.node-node.ensures c.if-fuel-eq0.false c.as_slice-kids.ensures,
    depths _ _ _ _ c.node-node.result.now (op.Pass c.in-Pass.depth) c.requires c.node-node.ensures c.in-Pass.is,
  ),
)

pub value-shift-requires : goal.value-shift-requires
value-shift-requires t c = (
  omega arith,
  (
    may_kids _ _ _ c.args.fuel c.node-node.result.now _ c.requires c.node-node.ensures c.if-fuel-eq0.false c.as_slice-kids.ensures,
    depths _ _ _ _ c.node-node.result.now (op.Shift c.in-Shift.depth) c.requires c.node-node.ensures c.in-Shift.is,
  ),
)

pub value-plain-requires : goal.value-plain-requires
value-plain-requires t c = (
  omega arith,
  (
    may_kids _ _ _ c.args.fuel c.node-node.result.now _ c.requires c.node-node.ensures c.if-fuel-eq0.false c.as_slice-kids.ensures,
    plain_shape c.node-node.result.now.op c.in_default.not-Phi c.in_default.not-Theta c.in_default.not-Eval c.in_default.not-Pass c.in_default.not-Shift c.in_default.not-Root,
  ),
)

pub value-returns-in-Phi : goal.value-returns-in-Phi
value-returns-in-Phi t c = value_gives _ c.args.self.now _ _ _ c.node-node.result.now op.Phi _ c.node-node.ensures c.if-fuel-eq0.false c.in-Phi.is c.as_slice-kids.ensures c.phi.ensures

pub value-returns-in-Root : goal.value-returns-in-Root
value-returns-in-Root t c = value_gives _ c.args.self.now _ _ _ c.node-node.result.now op.Root _ c.node-node.ensures c.if-fuel-eq0.false c.in-Root.is c.as_slice-kids.ensures c.root.ensures

pub value-returns-in-Theta : goal.value-returns-in-Theta
value-returns-in-Theta t c = value_gives _ c.args.self.now _ _ _ c.node-node.result.now (op.Theta c.in-Theta.depth) _ c.node-node.ensures c.if-fuel-eq0.false c.in-Theta.is c.as_slice-kids.ensures c.theta.ensures

pub value-returns-in-Eval : goal.value-returns-in-Eval
value-returns-in-Eval t c = value_gives _ c.args.self.now _ _ _ c.node-node.result.now (op.Eval c.in-Eval.depth) _ c.node-node.ensures c.if-fuel-eq0.false c.in-Eval.is c.as_slice-kids.ensures c.eval.ensures

pub value-returns-in-Pass : goal.value-returns-in-Pass
value-returns-in-Pass t c = value_gives _ c.args.self.now _ _ _ c.node-node.result.now (op.Pass c.in-Pass.depth) _ c.node-node.ensures c.if-fuel-eq0.false c.in-Pass.is c.as_slice-kids.ensures c.pass.ensures

pub value-returns-in-Shift : goal.value-returns-in-Shift
value-returns-in-Shift t c = value_gives _ c.args.self.now _ _ _ c.node-node.result.now (op.Shift c.in-Shift.depth) _ c.node-node.ensures c.if-fuel-eq0.false c.in-Shift.is c.as_slice-kids.ensures c.shift.ensures

pub value-returns-in_default : goal.value-returns-in_default
value-returns-in_default t c = value_gives _ c.args.self.now _ _ _ c.node-node.result.now c.node-node.result.now.op _ c.node-node.ensures c.if-fuel-eq0.false refl c.as_slice-kids.ensures c.plain.ensures

pub plain-strict-requires : goal.plain-strict-requires
plain-strict-requires t c = record {
  small = subst (λ vs. AllByRecursion IsSmall vs) (sym c.as_slice.ensures.value)
      (values_small (form_at c.args.self.now.graph.now.nodes) c.args.self.now.world.now c.args.self.now.input.now c.args.fuel (index_of c.args.at.from_depth_1) c.args.kids.now _
      (let z = c.requires.ready.fuel_ in omega arith) c.in_ok-values.ensures);
}

pub values-loop-kid-init : goal.values-loop-kid-init
values-loop-kid-init t c =
    let kid = (λ (k : ℕ). value_of c.args.self.now c.args.fuel k (index_of c.args.at.from_depth_1)) in
    rest_init (values kid) c.args.kids.now c.new-values.result.items c.new-values.ensures.items

pub values-returns-in_err-value : goal.values-returns-in_err-value
values-returns-in_err-value t c =
    let kid = (λ (k : ℕ). value_of c.args.self.now c.args.fuel k (index_of c.args.at.from_depth_1)) in
    let stops = rest_stop kid (values kid) (each_value kid) c.args.kids.now c.loop-kid.kid-index (get_or c.args.kids.now c.loop-kid.kid-index 0) c.loop-kid.values.items c.in_err-value.field-0.0 c.loop-kid-test.true
    (kid_is c.args.kids.now c.loop-kid.kid-index c.loop-kid-test.true) c.in_err-value.ensures c.loop-kid.invariant in
    search rules

pub values-loop-kid-preserved : goal.values-loop-kid-preserved
values-loop-kid-preserved t c =
    let kid = (λ (k : ℕ). value_of c.args.self.now c.args.fuel k (index_of c.args.at.from_depth_1)) in
    rest_step kid (values kid) (each_value kid) c.args.kids.now c.loop-kid.kid-index (get_or c.args.kids.now c.loop-kid.kid-index 0) c.in_ok-value.field-0 c.loop-kid.values.items c.push.new.self.items c.loop-kid-test.true
    (kid_is c.args.kids.now c.loop-kid.kid-index c.loop-kid-test.true) c.in_ok-value.ensures c.in_ok-push.ensures.items c.loop-kid.invariant

pub values-returns : goal.values-returns
values-returns t c =
    let kid = (λ (k : ℕ). value_of c.args.self.now c.args.fuel k (index_of c.args.at.from_depth_1)) in
    rest_end (values kid) c.args.kids.now c.loop-kid.kid-index c.loop-kid.values.items refl (drop_all _ _ c.loop-kid-test.false) c.loop-kid.invariant

pub theta-value-requires-2 : goal.theta-value-requires-2
theta-value-requires-2 t c = (omega arith, may_kid c.args.self.now.graph.now c.args.kids.now (index_of c.args.at.from_depth_1) (index_of c.with.result.from_depth_1) c.args.fuel c.args.fuel c.args.depth _ 1 c.requires.ready (omega arith) (omega arith) (let z = c.requires.ready.room c.args.depth c.requires.high in let y = c.at-k.ensures in omega arith) c.with.ensures)

pub theta-returns : goal.theta-returns
theta-returns t c = theta_gives c.value-2.result c.args.self.now c.args.fuel c.args.depth c.args.kids.now (index_of c.args.at.from_depth_1) (index_of c.with.result.from_depth_1) c.at-k.result c.in-len2.len_at_least c.in-len2.len_below c.at-k.ensures c.if-k-eq0.false c.with.ensures c.value-2.ensures

pub eval-value-requires-2 : goal.eval-value-requires-2
eval-value-requires-2 t c =
    let low = counted (form_at c.args.self.now.graph.now.nodes) c.args.self.now.world.now c.args.self.now.input.now c.args.fuel _ (index_of c.args.at.from_depth_1) c.in_ok-value.field-0 c.in_ok-k.k c.in_ok-value.ensures c.in_ok-k.ensures in
    (omega arith, may_kid c.args.self.now.graph.now c.args.kids.now (index_of c.args.at.from_depth_1) (index_of c.with.result.from_depth_1) c.args.fuel c.args.fuel c.args.depth _ 0 c.requires.ready (omega arith) (omega arith) (let z = c.requires.ready.fuel_ in omega arith) c.with.ensures)

pub eval-returns : goal.eval-returns
eval-returns t c = eval_gives c.value-2.result c.args.self.now c.args.fuel c.args.depth c.args.kids.now (index_of c.args.at.from_depth_1) (index_of c.with.result.from_depth_1) c.in_ok-value.field-0 c.in_ok-k.k c.in-len2.len_at_least c.in-len2.len_below c.in_ok-value.ensures c.in_ok-k.ensures c.with.ensures c.value-2.ensures

pub shift-value-requires : goal.shift-value-requires
shift-value-requires t c = (omega arith, may_kid c.args.self.now.graph.now c.args.kids.now (index_of c.args.at.from_depth_1) (index_of c.with.result.from_depth_1) c.args.fuel c.args.fuel c.args.depth _ 0 c.requires.ready (omega arith) (omega arith) (let z = c.requires.ready.room c.args.depth c.requires.high in let y = c.at.ensures in omega arith) c.with.ensures)

pub shift-returns : goal.shift-returns
shift-returns t c = shift_gives c.value.result c.args.self.now c.args.fuel c.args.depth c.args.kids.now (index_of c.args.at.from_depth_1) (index_of c.with.result.from_depth_1) c.at.result c.in-len1.len_at_least c.in-len1.len_below c.at.ensures c.with.ensures c.value.ensures

pub pass-loop-k-init : goal.pass-loop-k-init
pass-loop-k-init t c = pass_looks c.args.self.now c.args.fuel c.args.depth c.args.kids.now (index_of c.args.at.from_depth_1) c.in-len1.len_at_least c.in-len1.len_below

pub pass-value-requires : goal.pass-value-requires
pass-value-requires t c = (omega arith, may_kid c.args.self.now.graph.now c.args.kids.now (index_of c.args.at.from_depth_1) (index_of c.with.result.from_depth_1) c.args.fuel (c.args.fuel - c.loop-k.k) c.args.depth c.loop-k.k 0 c.requires.ready (omega arith) (omega arith) (let z = c.requires.ready.fuel_ in let y = c.loop-k-test.true in omega arith) c.with.ensures)

pub pass-returns-in_err-v : goal.pass-returns-in_err-v
pass-returns-in_err-v t c =
    let stops = look_stops c.args.self.now c.args.depth (get_or c.args.kids.now 0 0) (index_of c.args.at.from_depth_1) (c.args.fuel - c.loop-k.k) c.loop-k.k (index_of c.with.result.from_depth_1) c.in_err-v.field-0.0 c.with.ensures c.in_err-v.ensures in
    let all = subst (λ q. Stops c.in_err-v.field-0.0 q) (sym c.loop-k.invariant) stops in
    search rules

pub pass-returns-in_err-truth : goal.pass-returns-in_err-truth
pass-returns-in_err-truth t c =
    let stops = truth_stops c.args.self.now c.args.depth (get_or c.args.kids.now 0 0) (index_of c.args.at.from_depth_1) (c.args.fuel - c.loop-k.k) c.loop-k.k (index_of c.with.result.from_depth_1) c.in_ok-v.v c.in_err-truth.field-0.0 c.with.ensures c.in_ok-v.ensures c.in_err-truth.ensures in
    let all = subst (λ q. Stops c.in_err-truth.field-0.0 q) (sym c.loop-k.invariant) stops in
    search rules

pub pass-returns-then-branch : goal.pass-returns-then-branch
pass-returns-then-branch t c =
    c.loop-k.invariant
    ∙ look_yes c.args.self.now c.args.depth (get_or c.args.kids.now 0 0) (index_of c.args.at.from_depth_1) (c.args.fuel - c.loop-k.k) c.loop-k.k (index_of c.with.result.from_depth_1) c.in_ok-v.v c.with.ensures c.in_ok-v.ensures (c.in_ok-truth.ensures ∙ ap Some c.if-branch.true)

pub pass-loop-k-preserved : goal.pass-loop-k-preserved
pass-loop-k-preserved t c =
    c.loop-k.invariant
    ∙ look_next c.args.self.now c.args.depth (get_or c.args.kids.now 0 0) (index_of c.args.at.from_depth_1) c.args.fuel c.loop-k.k (index_of c.with.result.from_depth_1) c.in_ok-v.v c.loop-k-test.true c.with.ensures c.in_ok-v.ensures (c.in_ok-truth.ensures ∙ ap Some c.if-branch.false)

pub pass-returns : goal.pass-returns
pass-returns t c = c.loop-k.invariant ∙ look_none c.args.self.now c.args.depth (get_or c.args.kids.now 0 0) (index_of c.args.at.from_depth_1) (c.args.fuel - c.loop-k.k) c.loop-k.k (let z = c.loop-k-test.false in omega arith)
