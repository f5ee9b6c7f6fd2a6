use Rattle.std.specs.Prelude.{[]}
use Rattle.std.proofs.Common.{sym, ◌∙◌}
use Rattle.pv_pattern.specs.Found.{names_of}
use Rattle.pv_pattern.proofs.Answered.{var_settled, no_var_settled}
use Rattle.pv_pattern.proofs.names.Reading.is_var_settled_now.Goals as goal

pub returns-in-Some : goal.returns-in-Some
returns-in-Some c =
    var_settled c.args.self.now.graph.now [] (names_of c.args.self.now) c.args.j c.in-Some.n c.is_settled_now.result (sym c.var.ensures ∙ c.in-Some.is) c.is_settled_now.ensures

pub returns-in-None : goal.returns-in-None
returns-in-None c = no_var_settled c.args.self.now.graph.now [] (names_of c.args.self.now) c.args.j (sym c.var.ensures ∙ c.in-None.is)
