use Rattle.pv_frame.proofs.ActingLaws.{bad_call_on, float_call_on}
use Rattle.pv_frame.proofs.acting.call_on.Goals as goal

pub returns-then-not-may_name : goal.returns-then-not-may_name
returns-then-not-may_name c =
    bad_call_on c.args.opcode c.args.form c.args.member.now c.args.desc.now c.requires.form c.requires.typed (λ is. let e = c.may_name.ensures.1 is in absurd (cc (e, c.if-not-may_name.true)))

pub returns-then-not-is_floatless_method : goal.returns-then-not-is_floatless_method
returns-then-not-is_floatless_method c =
    float_call_on c.args.opcode c.args.form c.args.member.now c.args.desc.now c.requires.form c.requires.typed (c.may_name.ensures.0 c.if-not-may_name.false)
    (λ is. let e = c.is_floatless_method.ensures.1 is in absurd (cc (e, c.if-not-is_floatless_method.true)))
