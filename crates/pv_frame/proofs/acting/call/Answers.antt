use Rattle.std.proofs.Common.{sym, ◌∙◌}
use Rattle.pv_frame.proofs.ActingLaws.{bad_call, float_call}
use Rattle.pv_frame.proofs.acting.call.Goals as goal

pub returns-then-not-calls_static : goal.returns-then-not-calls_static
returns-then-not-calls_static c =
    bad_call c.args.opcode c.args.member.now c.args.desc c.requires (sym c.form_of_call.ensures ∙ c.in_default.is) (λ is. let e = c.calls_static.ensures.1 is in absurd (cc (e, c.if-not-calls_static.true)))

pub returns-then-not-is_floatless_method : goal.returns-then-not-is_floatless_method
returns-then-not-is_floatless_method c =
    float_call c.args.opcode c.args.member.now c.args.desc c.requires (c.calls_static.ensures.0 c.if-not-calls_static.false)
    (λ is. let e = c.is_floatless_method.ensures.1 is in absurd (cc (e, c.if-not-is_floatless_method.true)))
