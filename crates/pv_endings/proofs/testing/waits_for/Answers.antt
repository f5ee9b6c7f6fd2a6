use Rattle.std.proofs.Common.{refl}
use Rattle.std.specs.List.{AllByRecursion}
use Rattle.pv_steps.specs.Right.{MayBeAssumed}
use Rattle.pv_endings.specs.Endings.{WaitsFor}
use Rattle.pv_endings.proofs.Roots.{if_ok_map, not_waits, token_low, waits_is}
use Rattle.pv_endings.proofs.testing.waits_for.Goals as goal

pub all_wait-requires : goal.all_wait-requires
all_wait-requires c = token_low c.args.graph.now c.args.graph.now refl c.len.ensures.graph c.args.p c.in-Some.parts c.in-Some.ensures

pub returns-in_default-clause-all : goal.returns-in_default-clause-all
returns-in_default-clause-all c = (λ e. absurd (cc), λ h. absurd (not_waits c.args.graph.now c.args.p c.args.nodes.now c.in_default.ensures h))

pub returns-clause-all : goal.returns-clause-all
returns-clause-all c =
    if_ok_map c.all_wait.result (AllByRecursion (MayBeAssumed c.args.graph.now c.in-Some.parts.token) c.args.nodes.now) (WaitsFor c.args.graph.now c.args.p c.args.nodes.now)
    (waits_is c.args.graph.now c.args.p c.in-Some.parts c.args.nodes.now c.in-Some.ensures) c.all_wait.ensures.all
