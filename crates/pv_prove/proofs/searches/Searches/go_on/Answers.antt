use Rattle.std.proofs.Common.{inr}
use Rattle.pv_grounds.specs.Searches.{Search, IsBegun, IsOver}
use Rattle.pv_prove.proofs.Growing.{both_go, of_other}
use Rattle.pv_prove.proofs.searches.Searches.go_on.Goals as goal

pub go_on_other-requires-clause-begun : goal.go_on_other-requires-clause-begun
go_on_other-requires-clause-begun c = of_other IsBegun c.args.self.now.plain c.args.self.now.other c.requires.begun.1

pub go_on_other-requires-clause-few : goal.go_on_other-requires-clause-few
go_on_other-requires-clause-few c = of_other (λ (s : Search). IsOver s → ⊥) c.args.self.now.plain c.args.self.now.other (λ h. c.requires.open.1.not_over (inr h))

pub returns : goal.returns
returns c = both_go c.go_on_other.result c.args.self.now (record { plain = c.go_on.new.search; other = c.go_on_other.new.search }) c.in_ok-go_on.ensures c.go_on_other.ensures
