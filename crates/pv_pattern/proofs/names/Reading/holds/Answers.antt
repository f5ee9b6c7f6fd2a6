use Rattle.std.proofs.Common.{◌↔◌, IfOk, IsTrue, sym, subst}
use Rattle.pv_pattern.specs.declared.pattern.Side.{Side}
use Rattle.pv_pattern.specs.Found.{names_of}
use Rattle.pv_pattern.specs.Instances.{Holds}
use Rattle.pv_pattern.specs.Seen.{side_seen}
use Rattle.pv_pattern.proofs.names.Reading.holds.Goals as goal

pub returns-in-Settled : goal.returns-in-Settled
returns-in-Settled c =
    subst (λ (s : Side). IfOk c.is_var_settled.result (λ yes. IsTrue yes ↔ Holds c.args.self.now.graph.now c.args.assumed.now (names_of c.args.self.now) (side_seen s))) (sym c.in-Settled.is)
    c.is_var_settled.ensures

pub returns-in-NotFree : goal.returns-in-NotFree
returns-in-NotFree c =
    subst (λ (s : Side). IfOk c.is_var_not_free.result (λ yes. IsTrue yes ↔ Holds c.args.self.now.graph.now c.args.assumed.now (names_of c.args.self.now) (side_seen s))) (sym c.in-NotFree.is)
    c.is_var_not_free.ensures
