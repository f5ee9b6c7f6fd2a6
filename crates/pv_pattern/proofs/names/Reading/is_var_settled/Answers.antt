use Rattle.std.proofs.Common.{sym, ◌∙◌}
use Rattle.pv_pattern.specs.Found.{names_of}
use Rattle.pv_pattern.proofs.Answered.{var_settled, no_var_settled}
use Rattle.pv_pattern.proofs.names.Reading.is_var_settled.Goals as goal

pub returns-in_ok-is_settled-in-Some : goal.returns-in_ok-is_settled-in-Some
returns-in_ok-is_settled-in-Some c =
    var_settled c.args.self.now.graph.now c.args.assumed.now (names_of c.args.self.now) c.args.j c.in-Some.n c.in_ok-is_settled-in-Some.field-0 (sym c.var.ensures ∙ c.in-Some.is) c.in_ok-is_settled-in-Some.ensures

pub returns-in-None : goal.returns-in-None
returns-in-None c = no_var_settled c.args.self.now.graph.now c.args.assumed.now (names_of c.args.self.now) c.args.j (sym c.var.ensures ∙ c.in-None.is)
