use Rattle.std.proofs.Common.{List, ℕ, ◌∙◌, ap, sym, subst}
use Rattle.pv_frame.proofs.Words.{Method, IsMethodType, IsAnswer, IsOnly}
use Rattle.pv_frame.proofs.AnswerLaws.{at_place, within_methods, method_is}
use Rattle.pv_frame.proofs.inference.infer.Goals as goal

pub unreachable-requires-in_default-2 : goal.unreachable-requires-in_default-2
unreachable-requires-in_default-2 c =
    let is = method_is c.args.class.now c.as_slice.result.now c.args.method c.index-as_slice-method.result c.as_slice.ensures c.index-as_slice-method.is c.requires.code in
    let no_type = rw c.in_default-2.is at c.in_ok-desc.ensures in
    no_type c.requires.code.desc (subst (λ (text : List ℕ). IsMethodType text c.requires.code.desc) (ap (λ (m : Method). m.desc) is ∙ sym c.bytes.ensures) c.requires.code.typed)

pub returns-clause-exact : goal.returns-clause-exact
returns-clause-exact c =
    at_place c.args.class.now c.as_slice.result.now c.args.method c.index-as_slice-method.result c.infer_method.result (IsAnswer c.args.class.now) c.as_slice.ensures (within_methods c.args.class.now c.as_slice.result.now c.args.method c.as_slice.ensures c.requires.code) c.index-as_slice-method.is c.infer_method.ensures.exact

pub returns-clause-only : goal.returns-clause-only
returns-clause-only c =
    at_place c.args.class.now c.as_slice.result.now c.args.method c.index-as_slice-method.result c.infer_method.result (IsOnly c.args.class.now) c.as_slice.ensures (within_methods c.args.class.now c.as_slice.result.now c.args.method c.as_slice.ensures c.requires.code) c.index-as_slice-method.is c.infer_method.ensures.only
