use Rattle.std.proofs.Common.{List, ap, ◌∙◌}
use Rattle.pv_frame.proofs.Words.{option_map, Sort, popped, takes, same}
use Rattle.pv_frame.proofs.StackSteps.{rest_of}
use Rattle.pv_frame.proofs.FlowLaws.{is_some-map, leaves_is}
use Rattle.pv_frame.proofs.flow.leaves.Goals as goal

pub returns : goal.returns
returns c =
    let asked = c.deref.ensures.value ∙ c.in_ok-operands.ensures in
    let found = c.below.ensures ∙ ap (λ (l : List Sort). rest_of (popped same l c.as_slice.result.now)) asked ∙ ap (λ (l : List Sort). rest_of (popped same (takes c.args.action.now) l)) c.as_slice.ensures in
    leaves_is c.args.program.now c.args.action.now c.args.frame.now (option_map (λ rest. rest.now) c.below.result) c.is_some.result (c.is_end.ensures.0 c.if-not-is_end.false) found (c.is_some.ensures ∙ is_some-map (λ rest. rest.now) c.below.result)
