use Rattle.pv_classes.specs.Calls.{Knows}
use Rattle.cases_classes.proofs.Known.{added_first, if_always, same_known}
use Rattle.cases_classes.proofs.classes.add.Goals as goal

pub grow-requires : goal.grow-requires
grow-requires c = added_first c.args.graph.now c.add.new.self c.args.classes.now _ _ c.in-Ok.n c.requires c.in-Ok.ensures.ok

pub returns-in-Ok : goal.returns-in-Ok
returns-in-Ok c = if_always c.shown.result (Knows c.add.new.self.nodes c.grow.new.self) c.in_ok-grow-in-Ok.ensures.knows

pub returns : goal.returns
returns c = if_always c.fault_text.result (Knows c.add.new.self.nodes c.args.classes.now) (same_known c.args.graph.now c.add.new.self c.args.classes.now c.requires c.in-Err.ensures.err)
