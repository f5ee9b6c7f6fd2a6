use Rattle.std.specs.Prelude.{[]}
use Rattle.std.proofs.Common.{◌↔◌, IsTrue, sym, subst}
use Rattle.pv_pattern.specs.declared.pattern.Side.{Side}
use Rattle.pv_pattern.specs.Found.{names_of}
use Rattle.pv_pattern.specs.Instances.{Holds}
use Rattle.pv_pattern.specs.Seen.{side_seen}
use Rattle.pv_pattern.proofs.names.Reading.holds_now.Goals as goal

pub returns-in-Settled : goal.returns-in-Settled
returns-in-Settled c =
    subst (λ (s : Side). IsTrue c.is_var_settled_now.result ↔ Holds c.args.self.now.graph.now [] (names_of c.args.self.now) (side_seen s)) (sym c.in-Settled.is)
    c.is_var_settled_now.ensures

pub returns-in-NotFree : goal.returns-in-NotFree
returns-in-NotFree c =
    subst (λ (s : Side). IsTrue c.is_var_not_free_now.result ↔ Holds c.args.self.now.graph.now [] (names_of c.args.self.now) (side_seen s)) (sym c.in-NotFree.is)
    c.is_var_not_free_now.ensures
