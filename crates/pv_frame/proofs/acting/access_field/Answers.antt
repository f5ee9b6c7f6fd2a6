use Rattle.pv_frame.proofs.ActingLaws.{bad_field, float_field, has_field_row, field_answer}
use Rattle.pv_frame.proofs.acting.access_field.Goals as goal

pub returns-then-not-accesses_field : goal.returns-then-not-accesses_field
returns-then-not-accesses_field c =
    bad_field c.args.opcode c.args.member.now c.args.field c.requires (λ is. let e = c.accesses_field.ensures.1 is in absurd (cc (e, c.if-not-accesses_field.true)))

pub returns-then-not-is_floatless : goal.returns-then-not-is_floatless
returns-then-not-is_floatless c =
    float_field c.args.opcode c.args.member.now c.args.field c.requires (c.accesses_field.ensures.0 c.if-not-accesses_field.false) (λ is. let e = c.is_floatless.ensures.1 is in absurd (cc (e, c.if-not-is_floatless.true)))

pub unwrap-requires : goal.unwrap-requires
unwrap-requires c = has_field_row c.args.opcode c.args.field c.in_ok-sym.sym c.field_access.result (c.accesses_field.ensures.0 c.if-not-accesses_field.false).0 c.field_access.ensures

pub returns : goal.returns
returns c =
    field_answer c.args.opcode c.args.member.now c.args.field c.requires (c.is_floatless.ensures.0 c.if-not-is_floatless.false) (c.accesses_field.ensures.0 c.if-not-accesses_field.false) c.in_ok-sym.sym c.in_ok-sym.ensures c.field_access.result c.field_access.ensures
    c.unwrap.result c.unwrap.ensures
