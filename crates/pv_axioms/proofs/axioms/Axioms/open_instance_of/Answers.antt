use Rattle.pv_pattern.specs.Patterns.{Axiom}
use Rattle.pv_pattern.specs.Instances.{IsOpenInstance}
use Rattle.pv_pattern.specs.Seen.{axiom_seen}
use Rattle.pv_axioms.proofs.Finding.{entry_tells, none_tells}
use Rattle.pv_axioms.proofs.Sound.{binds_names}
use Rattle.pv_axioms.proofs.axioms.Axioms.open_instance_of.Goals as goal

pub open_instance-requires : goal.open_instance-requires
open_instance-requires c = binds_names (axiom_seen c.in-Some.axiom.now) c.in-Some.ensures.entry

pub returns-in-Some : goal.returns-in-Some
returns-in-Some c = entry_tells (λ (a : Axiom). IsOpenInstance c.args.graph.now c.args.assumed.now a c.args.subst.now c.args.left c.args.right) _ (axiom_seen c.in-Some.axiom.now) c.in-Some.ensures c.open_instance.result c.open_instance.ensures

pub returns-in-None : goal.returns-in-None
returns-in-None c = none_tells (λ (a : Axiom). IsOpenInstance c.args.graph.now c.args.assumed.now a c.args.subst.now c.args.left c.args.right) _ c.in-None.ensures
